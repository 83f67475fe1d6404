-- What is blamed is what is refused: the law of explanations.
use Rattle.std.specs.Prelude.{◌≡◌, ◌⊎◌, ℕ, false, List, [], ◌∷◌, Some, None}
use Rattle.passkey_explain.specs.Blame.{Blame, Step, member, key, part_at}
use Rattle.passkey_explain.specs.declared.blame.Reason.{Reason}
use Rattle.passkey_kinds.specs.Base.{Item}
use Rattle.passkey_kinds.specs.Kind.{bytes_from}
use Rattle.passkey_kinds.specs.Record.{names, row, wrong}
use Rattle.passkey_kinds.specs.Shape.{Shape, record_of, Tested, entries_in, part_of}
use Rattle.passkey_kinds.specs.declared.fault.Fault.{Fault}
use Rattle.passkey_kinds.specs.declared.fault.Fault.TheVariants.{BadKey, Repeated, Refused}
use Rattle.passkey_explain.specs.declared.blame.Reason.TheVariants as reason
use Rattle.passkey_kinds.specs.Shape as shape

-- the number of the row, at a step to a member
abbrev pub number_of : Step → ℕ
number_of (member n number name) = number
number_of _ = 0

-- The map's key is refused: it isn't bytes, it names no member, or it is one that was named before.
abbrev pub KeyIsRefused : Shape → Item → Reason → Type 0
KeyIsRefused (shape.map accepts s) label why = bytes_from label ≡ None
KeyIsRefused (record_of is_numbered rows) label why =
    ((names is_numbered (entries_in rows) label ≡ wrong) × (why ≡ reason.Fault BadKey))
    ⊎ ((n : ℕ) × ((names is_numbered (entries_in rows) label ≡ row n) × (why ≡ reason.Fault (Repeated n))))
KeyIsRefused (shape.tolerant a s) label why = KeyIsRefused s label why
KeyIsRefused _ label why = ⊥

-- A part of the item to which the step leads, and what the part is decoded as.
pub record PartOf (s : Step) (t : Tested) (i : Item) : Type 0 where
  pub part : Item
  pub as_part : Tested
  pub leads : part_at s i ≡ Some part
  pub is : part_of (number_of s) t.shape ≡ Some as_part

-- The item is refused, and so is each item on the path, by what it is decoded as, down to the one that the path
-- leads to, or to its key.
abbrev pub IsRefusedAlong : List Step → Tested → Item → Reason → Type 0
IsRefusedAlong [] t i why = t.accepts i ≡ false
IsRefusedAlong (key n ∷ ss) t i why =
    (t.accepts i ≡ false) × ((label : Item) × ((part_at (key n) i ≡ Some label) × KeyIsRefused t.shape label why))
IsRefusedAlong (s ∷ ss) t i why =
    (t.accepts i ≡ false) × ((p : PartOf s t i) × IsRefusedAlong ss p.as_part p.part why)

abbrev pub FaultAt : Fault → List Step → Reason → Type 0
FaultAt f [] why = why ≡ reason.Fault f
FaultAt f (key n ∷ ss) why = why ≡ reason.Fault f
FaultAt f (member n number name ∷ ss) why = f ≡ Refused number
FaultAt f _ why = ⊥

-- The record's fault is the one that is blamed on it or on a key; or the row is refused that the path goes into.
abbrev pub IsFaultOf : Fault → Blame → Type 0
IsFaultOf f b = FaultAt f b.path b.reason
