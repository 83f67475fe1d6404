-- Members of extension maps that a record doesn't know.
use Rattle.std.specs.Prelude.{◌≡◌, ◌≢◌, ℕ, suc, Bool, true, false, not, ◌==◌, if◌then◌else◌, List, [], ◌∷◌, ◌++◌, take, drop}
use Rattle.passkey_cbor.specs.Canonical.{Ascend}
use Rattle.passkey_cbor.specs.Item as item
use Rattle.passkey_cbor.specs.Order.{ctap2_order}
use Rattle.passkey_registered.specs.declared.extensions.others.Which.{Which}
use Rattle.passkey_registered.specs.declared.extensions.others.Which.TheVariants.{AllBut, Others}
use Rattle.passkey_kinds.specs.Record.{Naming, Table, row, unknown}
use Rattle.passkey_kinds.specs.Words.{Fields, Item, Members, named, number_tree, read_item, table_of, written}
use Rattle.std.specs.Ordering.{is_lt}
use Rattle.std.specs.declared.cmp.Ordering.TheVariants.{Equal}

abbrev pub wants : Which → Naming → Bool
wants Others unknown = true
wants Others _ = false
wants (AllBut n) (row k) = not (k == n)
wants (AllBut n) _ = true

-- the members that are wanted, by what their keys name in the table
abbrev pub wanted_in : Which → Table → Members → Members
wanted_in which table [] = []
wanted_in which table (m ∷ ms) =
    if wants which (named table m.0) then m ∷ wanted_in which table ms else wanted_in which table ms

-- the members of a map whose keys name no row of the table
abbrev pub others_at : Table → Item → Members
others_at table (item.map ps) = wanted_in Others table (item.members ps)
others_at table _ = []

-- the index of the first member whose key comes after the encoded key, in CTAP2's order (CTAP 2.1, section 8)
abbrev pub place_in : List ℕ → Members → ℕ
place_in key [] = 0
place_in key (m ∷ ms) = if is_lt (ctap2_order key (written m.0)) then 0 else suc (place_in key ms)

-- the members with one more in its place
abbrev pub placed : Item × Item → Members → Members
placed m ms = let n = place_in (written m.0) ms in take n ms ++ m ∷ drop n ms

-- the members with each of the others in its place
abbrev pub with_all : Members → Members → Members
with_all [] ms = ms
with_all (o ∷ os) ms = with_all os (placed o ms)

-- the map with each of the others in its place
abbrev pub tree_with : Members → Item → Item
tree_with os (item.map ps) = item.map (item.pairs_of (with_all os (item.members ps)))
tree_with os i = i

-- the map with this value for row n, under its number and in its place
abbrev pub tree_with_row : Table → ℕ → Item → Item → Item
tree_with_row table n x (item.map ps) =
    item.map (item.pairs_of (placed (number_tree n, x) (wanted_in (AllBut n) table (item.members ps))))
tree_with_row table n x i = i

-- no key names a row
abbrev pub AreOthers : Table → Members → Type 0
AreOthers table [] = Unit {0}
AreOthers table (o ∷ os) = (named table o.0 ≡ unknown) × AreOthers table os

-- Members under keys that name no row change nothing, in whatever places they are.
abbrev pub OthersArePassedOver : {P : Type 0} → Fields P → Type 0
OthersArePassedOver t =
    (os : Members) (i : Item) → AreOthers (table_of t) os → read_item t (tree_with os i) ≡ read_item t i

-- the member has another key than each of these
abbrev pub IsApart : Item × Item → Members → Type 0
IsApart m [] = Unit {0}
IsApart m (x ∷ xs) = (ctap2_order (written m.0) (written x.0) ≢ Equal) × IsApart m xs

-- each of the others has another key than the members, with the earlier others among them
abbrev pub AreApart : Members → Members → Type 0
AreApart [] ms = Unit {0}
AreApart (o ∷ os) ms = IsApart o ms × AreApart os (placed o ms)

-- Keys that ascend in CTAP2's order still do with others in their places, if no key is there twice.
abbrev pub OthersKeepOrder : Type 0
OthersKeepOrder =
    (os ms : Members) → Ascend (item.pairs_of ms) → AreApart os ms → Ascend (item.pairs_of (with_all os ms))
