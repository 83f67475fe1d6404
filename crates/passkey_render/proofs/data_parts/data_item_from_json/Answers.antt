use Rattle.std.proofs.Common.{sym}
use Rattle.passkey_cbor.specs.View.{item_of}
use Rattle.passkey_cbor_text.proofs.Gathering.{reads_as}
use Rattle.passkey_render.proofs.Parts.{escape_seen, no_members, no_parts, object_seen, parts_there}
use Rattle.passkey_render.proofs.data_parts.data_item_from_json.Goals as goal

pub returns-in_default : goal.returns-in_default
returns-in_default c = reads_as item_of _ _ c.item_from_json-in_default.result
    (sym (no_parts _ _ _ (no_members c.args.json.now c.in_default.not-Object))) c.item_from_json-in_default.ensures

pub returns-then-is_escape : goal.returns-then-is_escape
returns-then-is_escape c = reads_as item_of _ _ c.item_from_json.result
    (sym (no_parts _ _ _ (escape_seen c.args.json.now c.in-Object.all c.deref.result.now c.is_escape.result c.in-Object.is
    c.deref.ensures.value c.is_escape.ensures c.if-is_escape.true))) c.item_from_json.ensures

pub returns-else-is_escape : goal.returns-else-is_escape
returns-else-is_escape c = reads_as item_of _ _ c.byte_string.result
    (sym (parts_there _ _ _ _ (object_seen c.args.json.now c.in-Object.all c.deref.result.now c.is_escape.result
    c.in-Object.is c.deref.ensures.value c.is_escape.ensures c.deref-in-Object.result.now c.deref-in-Object.ensures.value
    c.if-is_escape.false))) (c.byte_string.ensures _ c.object_bytes.ensures)
