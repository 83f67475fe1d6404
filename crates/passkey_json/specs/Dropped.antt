-- What is left out of a JSON value where any value is tolerated: where, and what in it is to blame.
use Rattle.std.specs.Prelude.{◌≡◌, ℕ, suc, if◌then◌else◌, List, [], ◌∷◌, ◌++◌, map, Option, Some, None}
use Rattle.passkey_json.specs.Blame.{IsBlamed, Reason, path_of, reason_of, step_of}
use Rattle.passkey_json.specs.Shape.{Shape, leaf, list, record_of, tolerant, Rows, no_rows, row, Step, named, element, Tested, present_in}
use Rattle.passkey_json.specs.Shape as shape
use Rattle.passkey_json.specs.declared.dropped.DroppedValue.{DroppedValue}
use Rattle.serde_json.specs.Data.{Data, array, object, Items, no_items, item, Members, no_members, member}

-- the steps to a value that is left out, the value, and what is kept there
pub record LeftOut : Type 0 where
  pub path : List Step
  pub value : Data
  pub kept : Tested

abbrev pub under : Step → LeftOut → LeftOut
under s o = record { path = s ∷ o.path; value = o.value; kept = o.kept }

-- what is left out of a part
abbrev pub Leaving : Type 0
Leaving = Data → List LeftOut

-- of the elements from index n on
abbrev pub dropped_elements : Leaving → ℕ → Items → List LeftOut
dropped_elements of n no_items = []
dropped_elements of n (item d ds) = map (under (element n)) (of d) ++ dropped_elements of (suc n) ds

abbrev pub dropped_list : Leaving → Leaving
dropped_list of (array ds) = dropped_elements of 0 ds
dropped_list of _ = []

abbrev pub dropped_members : Leaving → Members → List LeftOut
dropped_members of no_members = []
dropped_members of (member name d ms) = map (under (named name)) (of d) ++ dropped_members of ms

abbrev pub dropped_map : Leaving → Leaving
dropped_map of (object ms) = dropped_members of ms
dropped_map of _ = []

-- of the value under the name under which a member is present
abbrev pub dropped_present : Leaving → Option (List ℕ × Data) → List LeftOut
dropped_present of (Some q) = map (under (named q.0)) (of q.1)
dropped_present of None = []

-- what a shape leaves out; of a record, in the order of its rows
abbrev mutual
  pub dropped : Shape → Leaving
  dropped (leaf w) d = []
  dropped (list a s) d = dropped_list (dropped s) d
  dropped (shape.map a s) d = dropped_map (dropped s) d
  dropped (record_of fault rows) d = dropped_rows rows d
  dropped (tolerant keeps s) d =
      if keeps d then dropped s d else record { path = []; value = d; kept = record { accepts = keeps; shape = s } } ∷ []

  pub dropped_rows : Rows → Leaving
  dropped_rows no_rows d = []
  dropped_rows (row e a s rs) d = dropped_present (dropped s) (present_in e d) ++ dropped_rows rs d

-- ---- the code's types

-- the steps to a value that is left out, and from there to what in it is to blame, and why
pub record Told : Type 0 where
  pub path : List Step
  pub blame : List Step
  pub reason : Reason

abbrev pub told : DroppedValue → Told
told v = record { path = map step_of v.path.items; blame = path_of v.blame; reason = reason_of v.blame.reason }

abbrev pub told_under : Step → Told → Told
told_under s v = record { path = s ∷ v.path; blame = v.blame; reason = v.reason }

-- what is left out is there, and what the shape of what is kept there blames in it
abbrev pub IsDropped : LeftOut → Told → Type 0
IsDropped o v = (v.path ≡ o.path) × IsBlamed v.blame v.reason o.kept.shape o.value

-- the same of each, in their order
abbrev pub AreDropped : List LeftOut → List Told → Type 0
AreDropped [] [] = Unit {0}
AreDropped (o ∷ os) (v ∷ vs) = IsDropped o v × AreDropped os vs
AreDropped _ _ = ⊥

-- The list grew by what is left out.
abbrev pub Adds : List LeftOut → List DroppedValue → List DroppedValue → Type 0
Adds os old new = (vs : List Told) × (AreDropped os vs × (map told new ≡ map told old ++ vs))

-- what the shape leaves out of the JSON value
abbrev pub Drops : Shape → Data → List DroppedValue → Type 0
Drops s d vs = AreDropped (dropped s d) (map told vs)
