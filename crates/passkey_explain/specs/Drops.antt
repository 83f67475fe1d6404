-- What the list of what a message leaves out says.
use Rattle.std.specs.Prelude.{◌≡◌, ◌⊎◌, ◌≤◌, ◌+◌, ℕ, suc, Bool, List, [], ◌∷◌, ◌++◌, map, Option, Some, None, IfSome, slice_get}
use Rattle.std.specs.List.{All}
use Rattle.std.specs.Global.{Vec}
use Rattle.passkey_cbor.specs.CursorState.{CursorState}
use Rattle.passkey_cbor.specs.EncodedAt.{Lies, IsEncodedAt}
use Rattle.passkey_cbor.specs.HeadEncoding.{IsEncodingOfHead}
use Rattle.passkey_cbor.specs.Item.{Item, Pairs, members}
use Rattle.passkey_cbor.specs.LeadingItem.{HasNoLeadingItem}
use Rattle.passkey_cbor.specs.declared.head.Head.{Head}
use Rattle.passkey_explain.specs.Along.{ItemsLie, LiesAlong, part_index, parts_of}
use Rattle.passkey_explain.specs.Blame.{Step, key, at_fault, step_of, blame_of, item_along}
use Rattle.passkey_explain.specs.Dropped.{LeftOut, Leaving, Stepping, dropped, entry_step, member_step}
use Rattle.passkey_explain.specs.declared.blame.Step.{Step as CodeStep}
use Rattle.passkey_explain.specs.declared.dropping.DroppedItem.{DroppedItem}
use Rattle.passkey_explain.specs.declared.dropping.Keys.{Keys}
use Rattle.passkey_kinds.specs.Message.{Begins}
use Rattle.passkey_kinds.specs.Record.{Fields}
use Rattle.passkey_kinds.specs.Look.{tested}
use Rattle.passkey_kinds.specs.RecordReading.{entry_of, nested, shape_of}
use Rattle.passkey_explain.specs.Refusing.{IsRefusedAlong}
use Rattle.passkey_kinds.specs.Shape.{Shape, tolerant, record_of, Rows, Tested, entries_in, reached}
use Rattle.passkey_kinds.specs.declared.fault.Fault.TheVariants.{BadKey}
use Rattle.passkey_cbor.specs.Item as item
use Rattle.passkey_explain.specs.declared.dropping.Keys.TheVariants as keys

-- ---- the code's types

abbrev pub left_out : DroppedItem → LeftOut
left_out d = record { path = map step_of d.path.items; blame = blame_of d.blame }

abbrev pub numbered_step : CodeStep × ℕ → Step × ℕ
numbered_step s = (step_of s.0, s.1)

abbrev pub steps_by : Keys → Stepping
steps_by keys.Bytes n label = entry_step n label
steps_by (keys.Names t) n label = member_step t.is_numbered (map entry_of t.rows.now) n label

-- ---- what is said of the list

-- The dropped item is encoded at its extent, where its path leads.
abbrev pub LiesIn : Item → List ℕ → DroppedItem → Type 0
LiesIn i bytes d = LiesAlong (map step_of d.path.items) i bytes 0 d.extent.offset (d.extent.offset + d.extent.len)

-- The one type is the other, or the other where any item is tolerated in its place.
abbrev pub Wraps : Shape → Shape → Type 0
Wraps (tolerant keeps s) t = (tolerant keeps s ≡ t) ⊎ Wraps s t
Wraps s t = s ≡ t

-- The path leads to a data item in the whole one, at a part of the type that tolerates any item: what is kept there
-- refuses it, and so each item on the blame's path.
pub record IsTolerated (root : Tested) (whole : Item) (d : LeftOut) : Type 0 where
  pub part : Item
  pub leads : item_along d.path whole ≡ Some part
  pub way : List ℕ
  pub place : Tested
  pub reaches : reached way root ≡ Some place
  pub kept : Tested
  pub tolerates : Wraps place.shape (tolerant kept.accepts kept.shape)
  pub refused : IsRefusedAlong d.blame.path kept part d.blame.reason

-- The path leads to a map in the whole data item, at a part of the type that is a record, and on to a key there that
-- names no member of it.
pub record IsUnknown (root : Tested) (whole : Item) (d : LeftOut) : Type 0 where
  pub path : List Step
  pub pairs : Pairs
  pub leads : item_along path whole ≡ Some (item.map pairs)
  pub way : List ℕ
  pub place : Tested
  pub reaches : reached way root ≡ Some place
  pub is_numbered : Bool
  pub rows : Rows
  pub has : Wraps place.shape (record_of is_numbered rows)
  pub index : ℕ
  pub pair : Item × Item
  pub there : slice_get (members pairs) index ≡ Some pair
  pub unknown : member_step is_numbered (entries_in rows) index pair.0 ≡ None
  pub is : d ≡ record { path = path ++ key index ∷ []; blame = at_fault BadKey }

abbrev pub IsLeftOut : Tested → Item → LeftOut → Type 0
IsLeftOut root whole d = IsTolerated root whole d ⊎ IsUnknown root whole d

-- These are the items and the keys that a message leaves out of the data item, each for its reason, and they are encoded
-- there.
pub record AreDropped {P : Type 0} (t : Fields P) (i : Item) (bytes : List ℕ) (ds : List DroppedItem) : Type 0 where
  pub list : map left_out ds ≡ dropped (shape_of t) [] i
  pub left : All (IsLeftOut (tested (nested t)) i) (map left_out ds)
  pub extents : All (LiesIn i bytes) ds

-- The bytes don't begin with a data item; or these are the items that are left out of the one that begins them.
abbrev pub ListsDropped : {P : Type 0} → Fields P → List ℕ → Option (Vec DroppedItem) → Type 0
ListsDropped t bytes None = HasNoLeadingItem bytes
ListsDropped t bytes (Some v) = Begins bytes (λ i len. AreDropped t i bytes v.items)

-- ---- as the list grows

-- The step leads to a type, and this is what the type leaves out.
abbrev pub LeavesBy : Tested → List ℕ → (ℕ → Leaving) → Step × ℕ → Type 0
LeavesBy root way of s =
    (t : Tested) × ((reached (way ++ s.1 ∷ []) root ≡ Some t)
    × ((path : List Step) (i : Item) → of s.1 path i ≡ dropped t.shape path i))

-- The same for each step that a map's keys name.
abbrev pub Leaves : Tested → List ℕ → (ℕ → Leaving) → Stepping → Type 0
Leaves root way of steps = (n : ℕ) (label : Item) → IfSome (steps n label) (LeavesBy root way of)

abbrev pub Adds : List LeftOut → List DroppedItem → List DroppedItem → Type 0
Adds more old new = map left_out new ≡ map left_out old ++ more

-- The cursor didn't move back.
pub record GoesOn (old new : CursorState) : Type 0 where
  pub same : new.bytes ≡ old.bytes
  pub forward : old.place ≤ new.place

-- The path leads from the whole data item to one that is encoded from this offset on.
pub record Stands (whole : Item) (path : List Step) (i : Item) (bytes : List ℕ) (place : ℕ) : Type 0 where
  pub to : ℕ
  pub there : IsEncodedAt i bytes place to
  pub leads : (rest : List Step) (from end : ℕ) → LiesAlong rest i bytes place from end
      → LiesAlong (path ++ rest) whole bytes 0 from end

-- The pair at this index of the map to which the path leads: its key is encoded from this offset on, and its value follows.
pub record PairStands (whole : Item) (path : List Step) (n : ℕ) (m : Item × Item) (bytes : List ℕ) (place : ℕ) : Type 0
  where
    pub key_stands : Stands whole (path ++ key n ∷ []) m.0 bytes place
    pub value_stands : (s : Step) → part_index s ≡ suc (n + n)
        → Stands whole (path ++ s ∷ []) m.1 bytes key_stands.to

-- The path leads from the whole data item to an array or a map, whose parts follow from this offset on.
pub record IsOpened (whole : Item) (path : List Step) (i : Item) (bytes : List ℕ) (first : ℕ) : Type 0 where
  pub at : ℕ
  pub head : Head
  pub headed : Lies (IsEncodingOfHead head) bytes at first
  pub end : ℕ
  pub extents : ItemsLie (parts_of i) bytes first end
  pub leads : (rest : List Step) (from end : ℕ) → LiesAlong rest i bytes at from end
      → LiesAlong (path ++ rest) whole bytes 0 from end
