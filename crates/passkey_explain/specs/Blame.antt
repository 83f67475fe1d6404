-- What a kind that refuses a data item blames: where in the item, and why.
use Rattle.passkey_kinds.specs.Base.{Item, array, elements, members}
use Rattle.std.specs.Prelude.{◌≡◌, ℕ, true, List, [], ◌∷◌, map, Option, Some, None, is_some, option_map, slice_get}
use Rattle.std.specs.Option.{option_and_then}
use Rattle.passkey_explain.specs.declared.blame.Blame.{Blame as CodeBlame}
use Rattle.passkey_explain.specs.declared.blame.Reason.{Reason}
use Rattle.passkey_explain.specs.declared.blame.Step.{Step as CodeStep}
use Rattle.passkey_kinds.specs.declared.wanted.Wanted.{Wanted}
use Rattle.passkey_kinds.specs.declared.fault.Fault.{Fault}
use Rattle.passkey_explain.specs.declared.blame.Reason.TheVariants as reason
use Rattle.passkey_explain.specs.declared.blame.Step.TheVariants as code
use Rattle.passkey_cbor.specs.Item as item

-- A step from a data item into it: to an element of an array; to the value of a pair of a map, with the
-- number and the name of the member; to the value of a pair that is no member; or to the key of a pair.
-- Elements and pairs are counted from 0, as they are encoded.
pub data Step : Type 0 where
  element : ℕ → Step
  member : ℕ → ℕ → List ℕ → Step
  value : ℕ → Step
  key : ℕ → Step

-- The steps from a data item to the item, or the key, that is to blame, and why it is.
pub record Blame : Type 0 where
  pub path : List Step
  pub reason : Reason

-- the item itself is to blame: it isn't what is wanted
abbrev pub wants : Wanted → Blame
wants w = record { path = []; reason = reason.Wanted w }

-- the item itself is to blame: decoding a record from it has this fault
abbrev pub at_fault : Fault → Blame
at_fault f = record { path = []; reason = reason.Fault f }

abbrev pub under : Step → Blame → Blame
under s b = record { path = s ∷ b.path; reason = b.reason }

-- ---- where the steps lead

abbrev pub part_at : Step → Item → Option Item
part_at (element n) (array xs) = slice_get (elements xs) n
part_at (member n number name) (item.map ps) = option_map (λ m. m.1) (slice_get (members ps) n)
part_at (value n) (item.map ps) = option_map (λ m. m.1) (slice_get (members ps) n)
part_at (key n) (item.map ps) = option_map (λ m. m.0) (slice_get (members ps) n)
part_at _ _ = None

-- the item, or the key, that the steps lead to, if there is one
abbrev pub item_along : List Step → Item → Option Item
item_along [] i = Some i
item_along (s ∷ ss) i = option_and_then (item_along ss) (part_at s i)

-- what is blamed is in the item
abbrev pub IsIn : Item → Blame → Type 0
IsIn i b = is_some (item_along b.path i) ≡ true

-- ---- the code's types

abbrev pub step_of : CodeStep → Step
step_of (code.Element n) = element n
step_of (code.Member n number name) = member n number name.now
step_of (code.Value n) = value n
step_of (code.Key n) = key n

abbrev pub blame_of : CodeBlame → Blame
blame_of b = record { path = map step_of b.path.items; reason = b.reason }
