use Rattle.std.proofs.Common.{◌≡◌, ◌∙◌, ◌+◌, sym, ap}
use Rattle.std.proofs.lemmas.Bool.{eqb-true}
use Rattle.passkey_cbor.proofs.heads.ShortHeads.{first_of, string_in_byte}
use Rattle.passkey_cbor.proofs.leaf.has_len_in_byte.Goals as goal
use Rattle.passkey_cbor.proofs.leaf.has_len_in_byte.Goals.{then-is_text, else-is_text}

pub returns : goal.returns
returns c = λ e n rest lt.
    let first : c.if-is_text.result ≡ first_of c.args.is_text + 24 =
    elim c.if-is_text.branch [
      | then-is_text w ↦ w.result-is ∙ ap (λ b. first_of b + 24) (sym w.if-is_text.true)
      | else-is_text w ↦ w.result-is ∙ ap (λ b. first_of b + 24) (sym w.if-is_text.false)
    ] in
    string_in_byte c.args.is_text c.args.initial n rest (eqb-true c.args.initial c.if-is_text.result e ∙ first) lt
