-- Laws of keys.
use Rattle.std.specs.Prelude.{◌≡◌, ◌≤◌, ℕ, ℤ, List, true, false, Some, Ok}
use Rattle.passkey_cbor.specs.Depth.{depth}
use Rattle.passkey_cbor.specs.LeadingItem.{max_depth}
use Rattle.passkey_cbor.specs.Item.{Item}
use Rattle.passkey_cose.specs.KeyNormal.{normal_key, IsKey}
use Rattle.passkey_iana.specs.Signed64.{is_signed_64}
use Rattle.passkey_cose.specs.KeyParts.{KeyParts, key_item, ec2_key}
use Rattle.passkey_cose.specs.KeyPublic.{ec2_parts}
use Rattle.passkey_cose.specs.KeyReadable.{is_reserved, is_key_readable}
use Rattle.passkey_cose.specs.KeyReading.{read_key}

-- A key that was read is written as a data item that is read as the same key.
abbrev pub ReadIsWrittenAlike : Type 0
ReadIsWrittenAlike = (i : Item) (k : KeyParts) → read_key i ≡ Ok k → read_key (key_item k) ≡ Ok k

-- A key whose type isn't reserved is written as a data item that is read as the key's normal form.
abbrev pub WrittenIsReadBack : Type 0
WrittenIsReadBack = (k : KeyParts) → IsKey k → is_reserved k.kty ≡ false → read_key (key_item k) ≡ Ok (normal_key k)

-- If a data item of at most 256 levels is read as a key, the key is readable.
abbrev pub ReadIsReadable : Type 0
ReadIsReadable = (i : Item) (k : KeyParts) → read_key i ≡ Ok k → depth i ≤ max_depth → is_key_readable k ≡ true

-- An EC2 key consists of what it was made from.
abbrev pub MadeFromItsParts : Type 0
MadeFromItsParts = (curve : ℤ) (x y : List ℕ) → is_signed_64 curve ≡ true
    → ec2_parts (ec2_key curve x y) ≡ Some (curve, (x, y))
