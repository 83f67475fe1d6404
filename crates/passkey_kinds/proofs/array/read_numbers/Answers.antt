use Rattle.passkey_kinds.proofs.Steps.{◌∙◌, ap, item_of, option_and_then, full, answers_from, failed, sized_gathered}
use Rattle.passkey_kinds.proofs.array.read_numbers.Goals as goal

pub returns-in-Ok : goal.returns-in-Ok
returns-in-Ok c = answers_from _ c.whole.result (sized_gathered 32 item_of c.args.elements.now c.no_bytes.ensures
    ∙ ap (option_and_then (full 32)) c.in-Ok.ensures) (λ h. h) c.whole.ensures

pub returns-in-Err : goal.returns-in-Err
returns-in-Err c = failed c.in-Err.refusal
    (λ none. sized_gathered 32 item_of c.args.elements.now c.no_bytes.ensures ∙ ap (option_and_then (full 32)) none)
    (λ h. absurd (cc h.0)) c.in-Err.ensures
