use Rattle.std.proofs.Common.{Global, ℕ, Vec, sym}
use Rattle.passkey_cbor_text.proofs.Gathering.{fails_here, reads_as}
use Rattle.passkey_cbor_text.specs.declared.values.no_item.ItemReason.TheVariants.{AttestedParts}
use Rattle.passkey_render.proofs.Parts.{escape_seen, no_parts, object_seen, parts_there}
use Rattle.passkey_render.proofs.data_parts.attested_bytes.Goals as goal

pub returns-then-is_escape : goal.returns-then-is_escape
returns-then-is_escape c = fails_here AttestedParts _ c.here.result (no_parts _ _ _ (escape_seen c.args.json.now
    c.in-Object.all c.deref.result.now c.is_escape.result c.in-Object.is c.deref.ensures.value c.is_escape.ensures
    c.if-is_escape.true)) c.here.ensures

pub returns-else-is_escape : goal.returns-else-is_escape
returns-else-is_escape c = reads_as (λ (v : Vec ℕ Global). v.items) _ _ c.object_bytes.result
    (sym (parts_there _ _ _ _ (object_seen c.args.json.now c.in-Object.all c.deref.result.now c.is_escape.result
    c.in-Object.is c.deref.ensures.value c.is_escape.ensures c.deref-in-Object.result.now c.deref-in-Object.ensures.value
    c.if-is_escape.false))) c.object_bytes.ensures
