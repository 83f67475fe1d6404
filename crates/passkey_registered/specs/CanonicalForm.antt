-- The canonical form of data items: the members of each map in CTAP2's order (CTAP 2.2, section 8).
use Rattle.std.specs.Prelude.{◌≡◌, ℕ, suc, true, [], ◌∷◌, List, Err, if◌then◌else◌, is_ok, map}
use Rattle.passkey_cbor.specs.Item.{Item, Items, Pairs, array, item, members, no_items, no_pairs, pair, pairs_of, tagged}
use Rattle.passkey_cbor.specs.Item as spec
use Rattle.passkey_cbor.specs.Order.{ctap2_order}
use Rattle.passkey_cbor.specs.Written.{written}
use Rattle.passkey_registered.specs.extensions.Others.{AreApart, with_all}
use Rattle.passkey_cbor.specs.LeadingItem.{HasNoLeadingItem}
use Rattle.passkey_kinds.specs.Message.{Begins}
use Rattle.passkey_kinds.specs.Words.{Fields, Members, read_item}
use Rattle.passkey_kinds.specs.declared.fault.Fault.{Fault}
use Rattle.passkey_kinds.specs.declared.fault.Fault.TheVariants as fault
use Rattle.std.specs.Ordering.{is_lt}

-- these members, each before the first one whose key comes after its own
abbrev pub sorted : Members → Members
sorted ms = with_all ms []

-- the item with the members of each map sorted: nothing is added and nothing left out
abbrev mutual
  pub canonical_form : Item → Item
  canonical_form (array xs) = array (canonical_items xs)
  canonical_form (spec.map ps) = spec.map (pairs_of (sorted (members (canonical_pairs ps))))
  canonical_form (tagged t x) = tagged t (canonical_form x)
  canonical_form i = i

  pub canonical_items : Items → Items
  canonical_items no_items = no_items
  canonical_items (item x xs) = item (canonical_form x) (canonical_items xs)

  pub canonical_pairs : Pairs → Pairs
  canonical_pairs no_pairs = no_pairs
  canonical_pairs (pair k v ps) = pair (canonical_form k) (canonical_form v) (canonical_pairs ps)

-- There is no tag in the item, and no key twice in a map of its canonical form.
abbrev mutual
  pub HasCanonicalForm : Item → Type 0
  HasCanonicalForm (array xs) = HaveCanonicalForms xs
  HasCanonicalForm (spec.map ps) = HavePairsCanonicalForms ps × AreApart (members (canonical_pairs ps)) []
  HasCanonicalForm (tagged t x) = ⊥
  HasCanonicalForm i = Unit {0}

  pub HaveCanonicalForms : Items → Type 0
  HaveCanonicalForms no_items = Unit {0}
  HaveCanonicalForms (item x xs) = HasCanonicalForm x × HaveCanonicalForms xs

  pub HavePairsCanonicalForms : Pairs → Type 0
  HavePairsCanonicalForms no_pairs = Unit {0}
  HavePairsCanonicalForms (pair k v ps) = (HasCanonicalForm k × HasCanonicalForm v) × HavePairsCanonicalForms ps

-- a member with its key and its value in canonical form
abbrev pub canonical_member : Item × Item → Item × Item
canonical_member m = (canonical_form m.0, canonical_form m.1)

-- the index of the first of these encoded keys that comes after this one
abbrev pub place_among : List ℕ → List (List ℕ) → ℕ
place_among key [] = 0
place_among key (k ∷ ks) = if is_lt (ctap2_order key k) then 0 else suc (place_among key ks)

-- The fault of these bytes, as a message of this table.
abbrev pub IsFaultOf : {P : Type 0} → Fields P → List ℕ → Fault → Type 0
IsFaultOf t bytes fault.DecodeFailed = HasNoLeadingItem bytes
IsFaultOf t bytes fault.OutOfMemory = Unit {0}
IsFaultOf t bytes e = Begins bytes (λ i len. read_item t i ≡ Err e)

-- The bytes begin with a message of this table, of this length, and this is the encoding of the canonical form of its item.
abbrev pub IsMessageInForm : {P : Type 0} → Fields P → List ℕ → List ℕ → ℕ → Type 0
IsMessageInForm t bytes encoding n =
    Begins bytes (λ i len. ((len ≡ n) × (is_ok (read_item t i) ≡ true)) × (encoding ≡ written (canonical_form i)))

-- these are the encoded keys of the members
abbrev pub AreKeysOf : Members → List (List ℕ) → Type 0
AreKeysOf ms ks = ks ≡ map (λ m. written m.0) ms
