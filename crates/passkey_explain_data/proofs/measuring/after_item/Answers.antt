use Rattle.std.proofs.Common.{ℕ, ◌∙◌, ap, drop}
use Rattle.passkey_cbor.proofs.items.LeadingItems.{at_most_one}
use Rattle.passkey_explain_data.proofs.measuring.after_item.Goals as goal

pub returns-in-Some : goal.returns-in-Some
returns-in-Some c = λ x len f.
    c.split_at.ensures.back ∙ ap (λ (n : ℕ). drop n c.args.bytes.now)
    (at_most_one c.args.bytes.now c.in-Some.ensures.0 x c.in-Some.len len c.in-Some.ensures.1 f).1
