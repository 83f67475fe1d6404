-- Keys that can be read back after they are written.
use Rattle.std.specs.Prelude.{pos, nat_le, Bool, not, ◌&&◌}
use Rattle.passkey_cbor.specs.Depth.{depth}
use Rattle.passkey_cbor.specs.LeadingItem.{max_depth}
use Rattle.passkey_cbor.specs.Item.{Item, number}
use Rattle.passkey_cbor.specs.Same.{item_eq}
use Rattle.passkey_iana.specs.Iana.{key_type_number}
use Rattle.passkey_cose.specs.KeyParts.{KeyParts, key_item}
use Rattle.passkey_cose.specs.Registered.{Named, named_item}
use Rattle.passkey_iana.specs.declared.key_type.KeyType.{KeyType}

abbrev pub is_shallow : Item → Bool
is_shallow x = nat_le (depth x) max_depth

-- whether the type is written as 0, the number of the reserved type
abbrev pub is_reserved : Named KeyType → Bool
is_reserved kty = item_eq (number (pos 0)) (named_item key_type_number kty)

abbrev pub is_key_readable : KeyParts → Bool
is_key_readable k = not (is_reserved k.kty) && is_shallow (key_item k)
