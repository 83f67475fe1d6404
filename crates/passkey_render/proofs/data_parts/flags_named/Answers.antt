use Rattle.std.proofs.Common.{◌∙◌}
use Rattle.json.specs.Value.{value_view}
use Rattle.passkey_cbor_text.proofs.Indexed.{mapped_at}
use Rattle.passkey_render.proofs.Parts.{each_goes, each_stops}
use Rattle.passkey_render.specs.DataParts.{flag_of}
use Rattle.passkey_render.proofs.data_parts.flags_named.Goals as goal

pub returns-in-Err : goal.returns-in-Err
returns-in-Err c =
    let x = c.index-all-index in
    let at = mapped_at value_view c.args.all.now _ x.result x.is c.loop-index-test.true in
    each_stops (λ _. flag_of) _ _ _ _ _ at _ c.in-Err.fault c.under.result c.loop-index.invariant c.in-Err.ensures
    c.under.ensures

pub loop-index-preserved : goal.loop-index-preserved
loop-index-preserved c =
    let x = c.index-all-index in
    let at = mapped_at value_view c.args.all.now _ x.result x.is c.loop-index-test.true in
    each_goes (λ _. flag_of) _ _ _ _ _ at _ _ c.in-Ok.ensures c.in_ok-push-in-Ok.ensures.items ∙ c.loop-index.invariant
