-- Data items, as trees (RFC 8949, section 2).
use Rattle.std.specs.Prelude.{ℕ, ℤ, List, [], ◌∷◌, Bool}
use Rattle.passkey_cbor.specs.FloatParts.{FloatParts}

-- A string is its content, however it is cut into chunks; a number has no encoding width. Items and Pairs are
-- lists, written out because a data type can't contain a list of itself.
mutual
  pub data Item : Type 0 where
    number : ℤ → Item
    byte_string : List ℕ → Item
    text_string : List ℕ → Item
    array : Items → Item
    map : Pairs → Item
    tagged : ℕ → Item → Item
    boolean : Bool → Item
    null : Item
    simple : ℕ → Item
    float : FloatParts → Item

  pub data Items : Type 0 where
    no_items : Items
    item : Item → Items → Items

  pub data Pairs : Type 0 where
    no_pairs : Pairs
    pair : Item → Item → Pairs → Pairs

-- the elements of an array, and the members of a map, in their order
abbrev pub elements : Items → List Item
elements no_items = []
elements (item x xs) = x ∷ elements xs

abbrev pub members : Pairs → List (Item × Item)
members no_pairs = []
members (pair k v ps) = (let m : Item × Item = (k, v) in m) ∷ members ps

-- the inverses: the elements and the members, from a list
abbrev pub items_of : List Item → Items
items_of [] = no_items
items_of (x ∷ xs) = item x (items_of xs)

abbrev pub pairs_of : List (Item × Item) → Pairs
pairs_of [] = no_pairs
pairs_of (m ∷ ms) = pair m.0 m.1 (pairs_of ms)
