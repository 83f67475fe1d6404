-- Data items that represent the values of registries.
use Rattle.std.specs.Prelude.{◌≡◌, List, [], ◌∷◌, None}
use Rattle.passkey_cbor.specs.Item.{Item}
use Rattle.passkey_cose.specs.KeyFaults.{name_fault}

-- each is a signed 64-bit number or a text
abbrev pub AreNames : List Item → Type 0
AreNames [] = Unit {0}
AreNames (i ∷ is) = (name_fault i ≡ None) × AreNames is
