-- A label as a data item: a number or a text (RFC 9052, section 1.4).
use Rattle.std.specs.Prelude.{string_bytes}
use Rattle.passkey_cbor.specs.Item.{Item, number, text_string}
use Rattle.passkey_cose.specs.declared.label.Label.{Label}
use Rattle.passkey_cose.specs.declared.label.Label.TheVariants as label

abbrev pub label_item : Label → Item
label_item (label.Int z) = number z
label_item (label.Text s) = text_string (string_bytes s)
