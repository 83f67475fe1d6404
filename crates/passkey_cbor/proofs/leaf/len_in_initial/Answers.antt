use Rattle.std.proofs.Common.{◌≡◌, ◌∙◌, sym, ap}
use Rattle.passkey_cbor.proofs.heads.ShortHeads.{first_of, string_in_initial}
use Rattle.passkey_cbor.proofs.leaf.len_in_initial.Goals as goal
use Rattle.passkey_cbor.proofs.leaf.len_in_initial.Goals.{then-is_text, else-is_text}

pub returns : goal.returns
returns c =
    let first : c.if-is_text.first ≡ first_of c.args.is_text =
    elim c.if-is_text.branch [
      | then-is_text w ↦ w.first-is ∙ ap first_of (sym w.if-is_text.true)
      | else-is_text w ↦ w.first-is ∙ ap first_of (sym w.if-is_text.false)
    ] in
    λ rest. string_in_initial c.args.is_text c.if-is_text.first c.args.initial rest first c.if-initial-first.false
    c.if-initial-first-ge24.false
