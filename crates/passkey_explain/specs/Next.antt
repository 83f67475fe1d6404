-- Where what is to blame is, step by step.
use Rattle.std.specs.Prelude.{◌≡◌, ℕ, Bool, true, List, [], Some, is_some}
use Rattle.passkey_explain.specs.Blame.{Blame, under, key, step_of}
use Rattle.passkey_explain.specs.Blaming.{blamed}
use Rattle.passkey_explain.specs.declared.descent.Next.{Next}
use Rattle.passkey_kinds.specs.Shape.{Entry, Rows, Tested, entries_in, row_in, part_of, reached}
use Rattle.passkey_kinds.specs.Words.{Item, item_of}
use Rattle.passkey_explain.specs.declared.descent.Next.TheVariants as next

-- what is blamed, by what each part of the shape blames
abbrev pub blame_next : (ℕ → Item → Blame) → Next → Blame
blame_next of (next.Here r) = record { path = []; reason = r }
blame_next of (next.Key n r) = under (key n) (record { path = []; reason = r })
blame_next of (next.Into s n v) = under (step_of s) (of n (item_of v.now))

-- if what is to blame is in the value of a row, there is this row
abbrev pub IntoRow : Rows → Next → Type 0
IntoRow rows (next.Into s n v) = is_some (row_in rows n) ≡ true
IntoRow rows _ = Unit {0}

-- The way leads to a record with these rows.
pub record IsRecordAt (way : List ℕ) (root : Tested) (rows : Rows) (is_numbered : Bool) (es : List Entry) : Type 0
  where
    pub at : Tested
    pub reaches : reached way root ≡ Some at
    pub parts : (n : ℕ) → part_of n at.shape ≡ row_in rows n
    pub same : es ≡ entries_in rows

-- What the shape blames for the item is there.
abbrev pub NextIs : Tested → Item → Next → Type 0
NextIs t i (next.Here r) = blamed t.shape i ≡ record { path = []; reason = r }
NextIs t i (next.Key n r) = blamed t.shape i ≡ under (key n) (record { path = []; reason = r })
NextIs t i (next.Into s n v) = (u : Tested)
    × ((part_of n t.shape ≡ Some u) × (blamed t.shape i ≡ under (step_of s) (blamed u.shape (item_of v.now))))
