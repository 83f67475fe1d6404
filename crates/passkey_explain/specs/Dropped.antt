-- What a message leaves out: where in the item, and what is to blame.
use Rattle.std.specs.Prelude.{ℕ, suc, ◌==◌, Bool, if◌then◌else◌, List, [], ◌∷◌, ◌++◌, Option, Some, None}
use Rattle.passkey_explain.specs.Blame.{Blame, Step, element, member, value, key, at_fault}
use Rattle.passkey_explain.specs.Blaming.{blamed, name_at}
use Rattle.passkey_kinds.specs.Base.{Item, array, elements, members}
use Rattle.passkey_kinds.specs.Record.{Members, Naming, row, names}
use Rattle.passkey_kinds.specs.Shape.{Entry, Shape, leaf, record_of, Rows, no_rows, entries_in}
use Rattle.passkey_kinds.specs.declared.fault.Fault.TheVariants.{BadKey}
use Rattle.passkey_cbor.specs.Item as item
use Rattle.passkey_kinds.specs.Shape as shape

-- The steps to a data item that is left out, or to the key of one, and what in it is to blame, seen from it.
pub record LeftOut : Type 0 where
  pub path : List Step
  pub blame : Blame

-- What is left out of a part of the message: by the steps to the part.
abbrev pub Leaving : Type 0
Leaving = List Step → Item → List LeftOut

-- ---- arrays

-- of the elements from index n on
abbrev pub dropped_elements : Leaving → List Step → ℕ → List Item → List LeftOut
dropped_elements of path n [] = []
dropped_elements of path n (x ∷ xs) = of (path ++ element n ∷ []) x ++ dropped_elements of path (suc n) xs

unfoldable pub dropped_list : Leaving → Leaving
dropped_list of path (array xs) = dropped_elements of path 0 (elements xs)
dropped_list of path _ = []

-- ---- maps

-- The step to the value of the pair at index n, with this key, and the number of the row that it belongs to, if there is one.
abbrev pub Stepping : Type 0
Stepping = ℕ → Item → Option (Step × ℕ)

-- in a map whose keys are byte strings
abbrev pub entry_step : Stepping
entry_step n label = Some (value n, 0)

-- in a record, by what the key names
abbrev pub step_by : List Entry → ℕ → Naming → Option (Step × ℕ)
step_by es n (row k) = Some (member n k (name_at es k), k)
step_by es n _ = None

abbrev pub member_step : Bool → List Entry → Stepping
member_step is_numbered es n label = step_by es n (names is_numbered es label)

-- of the pair at index n: of the value to which the step leads; or the key, if it names no member
abbrev pub dropped_pair : (ℕ → Leaving) → List Step → ℕ → Option (Step × ℕ) → Item → List LeftOut
dropped_pair of path n (Some s) i = of s.1 (path ++ s.0 ∷ []) i
dropped_pair of path n None i = record { path = path ++ key n ∷ []; blame = at_fault BadKey } ∷ []

-- of the pairs from index n on
abbrev pub dropped_pairs : Stepping → (ℕ → Leaving) → List Step → ℕ → Members → List LeftOut
dropped_pairs steps of path n [] = []
dropped_pairs steps of path n (m ∷ ms) =
    dropped_pair of path n (steps n m.0) m.1 ++ dropped_pairs steps of path (suc n) ms

unfoldable pub dropped_map : Stepping → (ℕ → Leaving) → Leaving
dropped_map steps of path (item.map ps) = dropped_pairs steps of path 0 (members ps)
dropped_map steps of path _ = []

-- ---- what a shape leaves out, in the order of the bytes

abbrev mutual
  pub dropped : Shape → List Step → Item → List LeftOut
  dropped (leaf w) path i = []
  dropped (shape.list accepts s) path i = dropped_list (dropped s) path i
  dropped (shape.map accepts s) path i = dropped_map entry_step (λ n. dropped s) path i
  dropped (record_of is_numbered rows) path i =
      dropped_map (member_step is_numbered (entries_in rows)) (dropped_row rows) path i
  dropped (shape.tolerant keeps s) path i =
      if keeps i then dropped s path i else record { path = path; blame = blamed s i } ∷ []

  -- what row n leaves out
  pub dropped_row : Rows → ℕ → List Step → Item → List LeftOut
  dropped_row no_rows n path i = []
  dropped_row (shape.row e accepts s rs) n path i = if e.number == n then dropped s path i else dropped_row rs n path i
