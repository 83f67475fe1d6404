-- What a shape blames for a data item that is refused.
use Rattle.std.specs.Prelude.{ℕ, suc, ◌==◌, ◌||◌, Bool, false, if◌then◌else◌, List, [], ◌∷◌, Option, Some, None, is_some, option_map, unwrap_or}
use Rattle.passkey_explain.specs.Blame.{Blame, wants, at_fault, under, element, member, value, key}
use Rattle.passkey_kinds.specs.Base.{Item, array, elements, members}
use Rattle.passkey_kinds.specs.Kind.{bytes_from}
use Rattle.passkey_kinds.specs.Record.{Members, Naming, row, unknown, wrong, names, first_missing}
use Rattle.passkey_kinds.specs.Shape.{Entry, Shape, leaf, record_of, Rows, no_rows, entries_in, row_in, Tested}
use Rattle.passkey_kinds.specs.Shape as shape
use Rattle.passkey_kinds.specs.declared.fault.Fault.TheVariants.{BadKey, Repeated, Missing, NotAMap}
use Rattle.passkey_kinds.specs.declared.wanted.Wanted.TheVariants as wanted
use Rattle.passkey_cbor.specs.Item as item

-- ---- lists: the first element that is refused, or the item itself if it is no array

abbrev pub blame_elements : (Item → Bool) → (Item → Blame) → ℕ → List Item → Blame
blame_elements accepts blame n [] = wants wanted.Array
blame_elements accepts blame n (x ∷ xs) =
    if accepts x then blame_elements accepts blame (suc n) xs else under (element n) (blame x)

unfoldable pub list_blame : (Item → Bool) → (Item → Blame) → Item → Blame
list_blame accepts blame (array xs) = blame_elements accepts blame 0 (elements xs)
list_blame accepts blame _ = wants wanted.Array

-- ---- maps from byte strings: the first key or value that is refused, or the item itself if it is no map

abbrev pub blame_entries : (Item → Bool) → (Item → Blame) → ℕ → Members → Blame
blame_entries accepts blame n [] = wants wanted.Map
blame_entries accepts blame n (m ∷ ms) = if is_some (bytes_from m.0)
    then (if accepts m.1 then blame_entries accepts blame (suc n) ms else under (value n) (blame m.1))
    else under (key n) (wants wanted.Bytes)

unfoldable pub map_blame : (Item → Bool) → (Item → Blame) → Item → Blame
map_blame accepts blame (item.map ps) = blame_entries accepts blame 0 (members ps)
map_blame accepts blame _ = wants wanted.Map

-- ---- records: what has the record's first fault

abbrev pub accepted_by : Option Tested → Item → Bool
accepted_by (Some t) i = t.accepts i
accepted_by None i = false

-- whether row n accepts the item
abbrev pub accepts_in : Rows → ℕ → Item → Bool
accepts_in rows n i = accepted_by (row_in rows n) i

-- the name of row n
abbrev pub name_at : List Entry → ℕ → List ℕ
name_at [] n = []
name_at (e ∷ es) n = if e.number == n then e.name else name_at es n

-- which rows were named, with this one
abbrev pub seen_with : Naming → (ℕ → Bool) → ℕ → Bool
seen_with (row n) seen k = (k == n) || seen k
seen_with _ seen k = seen k

-- the map itself, which lacks a required member
abbrev pub blame_missing : Option ℕ → Blame
blame_missing (Some n) = at_fault (Missing n)
blame_missing None = wants wanted.Map

-- a record's members, which items each row accepts, and what it blames for the item under it
module _ (es : List Entry) (accepts : ℕ → Item → Bool) (blames : ℕ → Item → Blame) where
  -- what is to blame for the item under row n, if the row refuses it
  abbrev pub blame_value : ℕ → Item → Option Blame
  blame_value n i = if accepts n i then None else Some (blames n i)

  -- What is to blame for the fault of the pair at index k, by what its key names and which rows were
  -- named so far: the key, or what the row blames.
  abbrev pub blame_one : ℕ → Naming → Item → (ℕ → Bool) → Option Blame
  blame_one k wrong i seen = Some (under (key k) (at_fault BadKey))
  blame_one k unknown i seen = None
  blame_one k (row n) i seen =
      if seen n then Some (under (key k) (at_fault (Repeated n)))
      else option_map (under (member k n (name_at es n))) (blame_value n i)

  -- the first pair from index k on that has a fault; otherwise the map itself
  abbrev pub blame_from : Bool → ℕ → Members → (ℕ → Bool) → Blame
  blame_from is_numbered k [] seen = blame_missing (first_missing es seen)
  blame_from is_numbered k (m ∷ ms) seen =
      unwrap_or (blame_one k (names is_numbered es m.0) m.1 seen)
      (blame_from is_numbered (suc k) ms (seen_with (names is_numbered es m.0) seen))

  unfoldable pub record_blame : Bool → Item → Blame
  record_blame is_numbered (item.map ps) = blame_from is_numbered 0 (members ps) (λ n. false)
  record_blame is_numbered _ = at_fault NotAMap

-- ---- what a shape blames

abbrev mutual
  pub blamed : Shape → Item → Blame
  blamed (leaf w) i = wants w
  blamed (shape.list accepts s) i = list_blame accepts (blamed s) i
  blamed (shape.map accepts s) i = map_blame accepts (blamed s) i
  blamed (record_of is_numbered rows) i =
      record_blame (entries_in rows) (accepts_in rows) (blamed_row rows) is_numbered i
  blamed (shape.tolerant accepts s) i = blamed s i

  -- what row n blames
  pub blamed_row : Rows → ℕ → Item → Blame
  blamed_row no_rows n i = wants wanted.Any
  blamed_row (shape.row e accepts s rs) n i = if e.number == n then blamed s i else blamed_row rs n i
