-- What is inside authenticator data and COSE keys (WebAuthn Level 3, section 6.1; RFC 9052, section 7), in the description of a
-- message.
use Rattle.std.specs.Prelude.{Bool, true, false, ◌||◌, if◌then◌else◌, Option, Some, None, option_map, codes}
use Rattle.std.specs.Borrow.{Bor}
use Rattle.std.specs.Str.{bytes_eq}
use Rattle.passkey_cbor.specs.Item.{Item, map}
use Rattle.passkey_cbor.specs.View.{item_of}
use Rattle.passkey_cbor.specs.declared.value.Value.{Value}
use Rattle.passkey_core.specs.DataParts.{DataParts}
use Rattle.passkey_explain.specs.Described.{Described, Parts, Part, Label, leaf, parts, no_parts, part, labelled, member}
use Rattle.passkey_explain.specs.DescribedData.{described_data, described_item, described_key}
use Rattle.passkey_kinds.specs.Kind.{data_from}
use Rattle.passkey_kinds.specs.declared.wanted.Wanted.{Wanted}
use Rattle.passkey_kinds.specs.declared.wanted.Wanted.TheVariants as wanted

abbrev pub is_data_wanted : Wanted → Bool
is_data_wanted wanted.AuthenticatorData = true
is_data_wanted _ = false

-- the authenticator data that an item is, if they are wanted there
abbrev pub data_in : Wanted → Item → Option DataParts
data_in w i = if is_data_wanted w then data_from i else None

abbrev pub data_or : Option DataParts → Described → Described
data_or (Some d) other = described_data d
data_or None other = other

-- an array or a map that no table divides by its elements or members, and any other item as a whole
abbrev pub opened_leaf : Wanted → Item → Described
opened_leaf w i = data_or (data_in w i) (described_item w i)

-- the members that are COSE keys, which a table keeps as a whole (CTAP 2.1, sections 6.5.5, 6.8 and 12.5)
abbrev pub is_key_name : Label → Bool
is_key_name (member n name) = bytes_eq name (codes "keyAgreement") || bytes_eq name (codes "publicKey")
is_key_name _ = false

abbrev pub as_map : Item → Option Item
as_map (map ps) = Some (map ps)
as_map _ = None

abbrev pub map_in : Described → Option Item
map_in (leaf w i) = as_map i
map_in (parts s ps) = None

-- the COSE key that a member is
abbrev pub key_in : Label → Described → Option Item
key_in l d = if is_key_name l then map_in d else None

-- the item that the code's reference leads to
abbrev pub item_at : Option (Bor Value) → Option Item
item_at found = option_map (λ (v : Bor Value). item_of v.now) found

abbrev pub key_or : Option Item → Described → Described
key_or (Some i) other = described_key i
key_or None other = other

-- a description with authenticator data and keys opened, and data items divided that no table divides
abbrev mutual
  pub opened : Described → Described
  opened (leaf w i) = opened_leaf w i
  opened (parts s ps) = parts s (opened_parts ps)

  pub opened_parts : Parts → Parts
  opened_parts no_parts = no_parts
  opened_parts (part l d ps) = part l (key_or (key_in l d) (opened d)) (opened_parts ps)

abbrev pub opened_part : Part → Part
opened_part p = labelled p.0 (key_or (key_in p.0 p.1) (opened p.1))
