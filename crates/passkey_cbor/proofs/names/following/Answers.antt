use Rattle.std.proofs.Common.{◌≡◌, ◌∙◌, true, Bool, not, take, length, ap, refl}
use Rattle.std.proofs.lemmas.List.{take_at}
use Rattle.std.proofs.lemmas.Slice.Eq.{bytes_eq-Decides}
use Rattle.std.specs.Str.{bytes_eq}
use Rattle.passkey_cbor.proofs.names.following.Goals as goal

not_both : (b : Bool) → true ≡ not b → b ≡ true → ⊥
not_both b e f = absurd cc

pub returns-then-ne : goal.returns-then-ne
returns-then-ne c rest e =
    let same : c.split_at.result.0.now ≡ c.args.front.now = c.split_at.ensures.front
    ∙ ap (take (length c.args.front.now)) e ∙ take_at c.args.front.now rest (length c.args.front.now) refl in
    not_both (bytes_eq c.split_at.result.0.now c.args.front.now) c.if-ne.ensures
    ((bytes_eq-Decides c.split_at.result.0.now c.args.front.now).1 same)
