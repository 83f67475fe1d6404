use Rattle.std.proofs.Common.{◌∙◌, List, ℕ, Some, sym, ap}
use Rattle.std.specs.Str.{bytes_eq}
use Rattle.passkey_cbor_text.proofs.Gathering.{name_found, name_passed}
use Rattle.passkey_cbor_text.proofs.Indexed.{mapped_at}
use Rattle.passkey_render.specs.DataParts.{part_in}
use Rattle.passkey_render.proofs.data_parts.bytes_named.Goals as goal

pub returns-then-eq : goal.returns-then-eq
returns-then-eq c =
    let x = c.loop-own-item in
    let at = mapped_at part_in c.args.parts.now _ x.result x.is c.loop-own-test.true in
    ap (λ (s : List ℕ). Some s) c.as_slice.ensures.value ∙ name_found c.args.name.now _ _ _ _ at c.loop-own.invariant
    (ap (λ (s : List ℕ). bytes_eq s c.args.name.now) (sym c.as_str.ensures.value) ∙ sym c.eq.ensures ∙ c.if-eq.true)

pub loop-own-preserved : goal.loop-own-preserved
loop-own-preserved c =
    let x = c.loop-own-item in
    name_passed c.args.name.now _ _ _ _ (mapped_at part_in c.args.parts.now _ x.result x.is c.loop-own-test.true)
    c.loop-own.invariant
    (ap (λ (s : List ℕ). bytes_eq s c.args.name.now) (sym c.as_str.ensures.value) ∙ sym c.eq.ensures ∙ c.if-eq.false)
