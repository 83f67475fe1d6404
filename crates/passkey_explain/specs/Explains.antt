-- What an explanation says about bytes that aren't decoded as a message.
use Rattle.std.specs.Prelude.{◌≡◌, ◌+◌, List, ℕ, Option, Some, None, Err, is_ok, true}
use Rattle.passkey_cbor.specs.Item.{Item}
use Rattle.passkey_explain.specs.Along.{LiesAlong}
use Rattle.passkey_malformed.specs.Stops.{IsMalformed}
use Rattle.passkey_explain.specs.declared.explanation.Explanation.{Explanation}
use Rattle.passkey_explain.specs.declared.explanation.RefusedItem.{RefusedItem}
use Rattle.passkey_explain.specs.Blame.{blame_of}
use Rattle.passkey_explain.specs.Blaming.{blamed}
use Rattle.passkey_kinds.specs.Message.{Begins}
use Rattle.passkey_kinds.specs.Record.{Fields, read_item}
use Rattle.passkey_explain.specs.Refusing.{IsFaultOf, IsRefusedAlong}
use Rattle.passkey_kinds.specs.Look.{tested}
use Rattle.passkey_kinds.specs.RecordReading.{nested, shape_of}
use Rattle.passkey_explain.specs.declared.explanation.Explanation.TheVariants as explanation

-- The data item has this fault, this is to blame for it, which is refused, and it is encoded between these offsets.
pub record IsExplained {P : Type 0} (t : Fields P) (i : Item) (bytes : List ℕ) (e : RefusedItem) : Type 0 where
  pub fault : read_item t i ≡ Err e.fault
  pub blame : blame_of e.blame ≡ blamed (shape_of t) i
  pub of_fault : IsFaultOf e.fault (blamed (shape_of t) i)
  pub refused : IsRefusedAlong (blamed (shape_of t) i).path (tested (nested t)) i (blamed (shape_of t) i).reason
  pub lies : LiesAlong (blamed (shape_of t) i).path i bytes 0 e.extent.offset (e.extent.offset + e.extent.len)

-- The data item is decoded as a message, or explained.
abbrev pub ExplainsItem : {P : Type 0} → Fields P → Item → List ℕ → Option RefusedItem → Type 0
ExplainsItem t i bytes None = is_ok (read_item t i) ≡ true
ExplainsItem t i bytes (Some e) = IsExplained t i bytes e

-- The bytes are decoded as a message; or they don't begin with a well-formed data item, and it is said where and why; or
-- the one that begins them is explained.
abbrev pub Explains : {P : Type 0} → Fields P → List ℕ → Option Explanation → Type 0
Explains t bytes None = Begins bytes (λ i len. is_ok (read_item t i) ≡ true)
Explains t bytes (Some (explanation.NotWellFormed m)) = IsMalformed bytes m
Explains t bytes (Some (explanation.Refused e)) = Begins bytes (λ i len. IsExplained t i bytes e)
