use Rattle.std.proofs.Common.{false, true, refl}
use Rattle.std.specs.Prelude.{pos, negsuc}
use Rattle.passkey_cbor.specs.Item.{number, float}
use Rattle.passkey_cbor.specs.Reading.{item_by, simple_item}
use Rattle.passkey_cbor.specs.HeadsDecoded.{item_heads_by}
use Rattle.passkey_cbor.specs.declared.head.Head.TheVariants as head
use Rattle.passkey_cbor.proofs.skipping.Advancing.{no_head, string_passed, string_failed, array_begun, map_begun, tag_begun, alone}
use Rattle.passkey_cbor.proofs.cursor.Cursor.skip_long_part.Goals as goal

pub returns-in-None : goal.returns-in-None
returns-in-None c = no_head c.args.self.now c.decode_long.new.self c.in-None.ensures.reads c.in-None.ensures.counted

pub returns-then-is_some : goal.returns-then-is_some
returns-then-is_some c =
    string_passed false c.in-Some-Bytes.len c.in-Some-Bytes.field-0 c.args.self.now c.decode_long.new.self
    c.pass_string.new.self _ c.if-is_some.ensures c.in-Some-Bytes.field-0-is refl c.in-Some-Bytes.ensures.reads
    c.pass_string.ensures.skips c.pass_string.ensures.decoded

pub returns-else-is_some : goal.returns-else-is_some
returns-else-is_some c =
    string_failed false c.in-Some-Bytes.len c.in-Some-Bytes.field-0 c.args.self.now c.decode_long.new.self
    c.pass_string.new.self _ c.if-is_some.ensures c.in-Some-Bytes.field-0-is refl c.in-Some-Bytes.ensures.reads
    c.pass_string.ensures.skips c.pass_string.ensures.decoded

pub returns-then-is_some-2 : goal.returns-then-is_some-2
returns-then-is_some-2 c =
    string_passed true c.in-Some-Text.len c.in-Some-Text.field-0 c.args.self.now c.decode_long.new.self
    c.pass_string-in-Some-Text.new.self _ c.if-is_some-2.ensures c.in-Some-Text.field-0-is refl c.in-Some-Text.ensures.reads
    c.pass_string-in-Some-Text.ensures.skips c.pass_string-in-Some-Text.ensures.decoded

pub returns-else-is_some-2 : goal.returns-else-is_some-2
returns-else-is_some-2 c =
    string_failed true c.in-Some-Text.len c.in-Some-Text.field-0 c.args.self.now c.decode_long.new.self
    c.pass_string-in-Some-Text.new.self _ c.if-is_some-2.ensures c.in-Some-Text.field-0-is refl c.in-Some-Text.ensures.reads
    c.pass_string-in-Some-Text.ensures.skips c.pass_string-in-Some-Text.ensures.decoded

pub returns-in-Some-Array : goal.returns-in-Some-Array
returns-in-Some-Array c =
    array_begun c.args.self.now c.decode_long.new.self c.in-Some-Array.field-0 c.in-Some-Array.len c.array.result
    c.in-Some-Array.field-0-is c.in-Some-Array.ensures.reads c.array.ensures

pub returns-in-Some-Map : goal.returns-in-Some-Map
returns-in-Some-Map c =
    map_begun c.args.self.now c.decode_long.new.self c.in-Some-Map.field-0 c.in-Some-Map.len c.map.result
    c.in-Some-Map.field-0-is c.in-Some-Map.ensures.reads (rw (← c.self.view_is) c.self.told.0) c.map.ensures

pub returns-in-Some-Tag : goal.returns-in-Some-Tag
returns-in-Some-Tag c =
    tag_begun c.args.self.now c.decode_long.new.self c.in-Some-Tag.field-0 c.in-Some-Tag.field-0-0
    c.in-Some-Tag.field-0-is c.in-Some-Tag.ensures.reads

pub returns-in-Some-Unsigned : goal.returns-in-Some-Unsigned
unfolding item_by item_heads_by
returns-in-Some-Unsigned c =
    alone c.args.self.now c.decode_long.new.self c.in-Some-Unsigned.field-0 (head.Unsigned c.in-Some-Unsigned.field-0-0)
    (number (pos c.in-Some-Unsigned.field-0-0)) c.in-Some-Unsigned.field-0-is c.in-Some-Unsigned.ensures.reads refl refl
    (λ inner. refl) (λ inner. refl)

pub returns-in-Some-Negative : goal.returns-in-Some-Negative
unfolding item_by item_heads_by
returns-in-Some-Negative c =
    alone c.args.self.now c.decode_long.new.self c.in-Some-Negative.field-0 (head.Negative c.in-Some-Negative.field-0-0)
    (number (negsuc c.in-Some-Negative.field-0-0)) c.in-Some-Negative.field-0-is c.in-Some-Negative.ensures.reads refl refl
    (λ inner. refl) (λ inner. refl)

pub returns-in-Some-Simple : goal.returns-in-Some-Simple
unfolding item_by item_heads_by
returns-in-Some-Simple c =
    alone c.args.self.now c.decode_long.new.self c.in-Some-Simple.field-0 (head.Simple c.in-Some-Simple.field-0-0)
    (simple_item c.in-Some-Simple.field-0-0) c.in-Some-Simple.field-0-is c.in-Some-Simple.ensures.reads refl refl
    (λ inner. refl) (λ inner. refl)

pub returns-in-Some-Float : goal.returns-in-Some-Float
unfolding item_by item_heads_by
returns-in-Some-Float c =
    alone c.args.self.now c.decode_long.new.self c.in-Some-Float.field-0 (head.Float c.in-Some-Float.field-0-0)
    (float c.in-Some-Float.field-0-0) c.in-Some-Float.field-0-is c.in-Some-Float.ensures.reads refl refl
    (λ inner. refl) (λ inner. refl)
