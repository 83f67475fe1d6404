use Rattle.std.proofs.Common.{◌∙◌}
use Rattle.passkey_cbor_text.proofs.Indexed.{mapped_at}
use Rattle.passkey_render.proofs.Parts.{all_goes, all_stops}
use Rattle.passkey_render.specs.KeyParts.{with_parameter}
use Rattle.passkey_render.specs.Parts.{named_in}
use Rattle.passkey_render.proofs.key_parts.members.Goals as goal

pub returns-in-Err : goal.returns-in-Err
returns-in-Err c =
    let x = c.index-all-index in
    let at = mapped_at named_in c.args.all.now _ x.result x.is c.loop-index-test.true in
    all_stops with_parameter _ _ _ _ _ at _ c.in-Err.fault c.under.result c.loop-index.invariant
    (c.in-Err.ensures _ c.member.ensures) c.under.ensures

pub loop-index-preserved : goal.loop-index-preserved
loop-index-preserved c =
    let x = c.index-all-index in
    let at = mapped_at named_in c.args.all.now _ x.result x.is c.loop-index-test.true in
    all_goes with_parameter _ _ _ _ _ at _ (c.in-Ok.ensures _ c.member.ensures) ∙ c.loop-index.invariant
