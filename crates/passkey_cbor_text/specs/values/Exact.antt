-- JSON texts that are data items.
use Rattle.std.proofs.Common.{refl}
use Rattle.std.specs.Prelude.{◌≡◌, ℕ, List, Some, Ok, codes}
use Rattle.json.specs.Json.{Json, document, object, member, string, no_members}
use Rattle.passkey_cbor.specs.Item.{Item}
use Rattle.passkey_cbor_text.specs.declared.values.leaf.StringForm.{StringForm}
use Rattle.passkey_cbor_text.specs.values.JsonItem.{leaf_item}
use Rattle.passkey_cbor_text.specs.values.Keys.{encoding_item}
use Rattle.passkey_cbor_text.specs.values.NoItem.{Read}

-- The text is JSON that means the data item.
pub record IsJsonOf (means : Json → Read Item) (i : Item) (text : List ℕ) : Type 0 where
  pub value : Json
  pub parsed : document text ≡ Some value
  pub meant : means value ≡ Ok i

-- the escape with these digits
abbrev pub escaped : List ℕ → Json
escaped digits = object (member (codes "$cbor") (string digits) no_members)

-- The text is the escape of the data item: its digits are those of an encoding.
pub record IsEscapeOf (i : Item) (text : List ℕ) : Type 0 where
  pub digits : List ℕ
  pub parsed : document text ≡ Some (escaped digits)
  pub meant : encoding_item digits ≡ Ok i

-- The escape of an item's encoding is read as this item.
abbrev pub ReadsEscapes : (Json → Read Item) → Type 0
ReadsEscapes means = (digits : List ℕ) (i : Item) → encoding_item digits ≡ Ok i → means (escaped digits) ≡ Ok i

pub leaf_reads_escapes : (f : StringForm) → ReadsEscapes (leaf_item f)
leaf_reads_escapes f digits i e = rw e refl
