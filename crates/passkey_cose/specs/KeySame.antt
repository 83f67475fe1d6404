-- The equality of keys, as a test.
use Rattle.std.specs.Prelude.{◌&&◌, Bool}
use Rattle.std.specs.Cmp.Lexicographic.{pointwise}
use Rattle.std.specs.Option.{option_eq}
use Rattle.std.specs.Str.{bytes_eq}
use Rattle.passkey_cbor.specs.Item.{Item}
use Rattle.passkey_cbor.specs.Same.{item_eq}
use Rattle.passkey_iana.specs.Iana.{algorithm_number, key_type_number, key_operation_number}
use Rattle.passkey_cose.specs.KeyParts.{KeyParts}
use Rattle.passkey_cose.specs.Registered.{named_eq}

abbrev pub member_eq : Item × Item → Item × Item → Bool
member_eq m n = item_eq m.0 n.0 && item_eq m.1 n.1

abbrev pub strings_eq : KeyParts → KeyParts → Bool
strings_eq k l = option_eq bytes_eq k.key_id l.key_id && option_eq bytes_eq k.base_iv l.base_iv

abbrev pub names_eq : KeyParts → KeyParts → Bool
names_eq k l =
    (named_eq key_type_number k.kty l.kty && option_eq (named_eq algorithm_number) k.alg l.alg)
    && pointwise (named_eq key_operation_number) k.key_ops l.key_ops

abbrev pub parts_eq : KeyParts → KeyParts → Bool
parts_eq k l = (strings_eq k l && names_eq k l) && pointwise member_eq k.params l.params
