-- The labels or operations that occurred before.
use Rattle.std.specs.BTreeSet.{contains, contains_by}
use Rattle.std.specs.Cmp.Lexicographic.{slice_cmp}
use Rattle.std.specs.List.{list_any}
use Rattle.std.specs.Ordering.{nat_cmp, int_cmp}
use Rattle.std.specs.Prelude.{◌≡◌, ℕ, ℤ, true, List, map}
use Rattle.passkey_cbor.specs.Item.{Item, number, text_string}
use Rattle.passkey_cbor.specs.Same.{item_eq}
use Rattle.passkey_cose.specs.KeyLabels.{Members}
use Rattle.passkey_cose.specs.declared.seen.Seen.{Seen}

-- the set has exactly the numbers and the texts among the names
pub record HoldsNames (seen : Seen) (names : List Item) : Type 0 where
  pub numbers : (z : ℤ) → contains int_cmp seen.numbers z ≡ list_any (item_eq (number z)) names
  pub texts : (s : List ℕ)
      → contains_by (λ k. slice_cmp nat_cmp s k.now) seen.texts ≡ list_any (item_eq (text_string s)) names

-- it does, unless `is_whole` is false: then some may be missing
abbrev pub Holds : Seen → List Item → Type 0
Holds seen names = seen.is_whole ≡ true → HoldsNames seen names

abbrev pub labels_of : Members → List Item
labels_of ms = map (λ (m : Item × Item). m.0) ms
