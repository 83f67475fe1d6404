use Rattle.std.proofs.Common.{◌∙◌, sym}
use Rattle.passkey_cbor_text.proofs.Gathering.{name_found, name_passed}
use Rattle.passkey_cbor_text.proofs.Indexed.{mapped_at}
use Rattle.passkey_cbor_text.specs.values.Registries.{row_of}
use Rattle.passkey_cbor_text.proofs.values.registries.named_in.Goals as goal

pub returns-then-eq : goal.returns-then-eq
returns-then-eq g c =
    let x = c.loop-own-item in
    name_found c.args.name.now _ _ _ _ (mapped_at row_of c.args.rows.now _ x.result x.is c.loop-own-test.true)
    c.loop-own.invariant (sym c.eq.ensures ∙ c.if-eq.true)

pub loop-own-preserved : goal.loop-own-preserved
loop-own-preserved g c =
    let x = c.loop-own-item in
    name_passed c.args.name.now _ _ _ _ (mapped_at row_of c.args.rows.now _ x.result x.is c.loop-own-test.true)
    c.loop-own.invariant (sym c.eq.ensures ∙ c.if-eq.false)
