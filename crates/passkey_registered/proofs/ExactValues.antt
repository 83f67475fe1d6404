-- Values that are decoded from items of their own type alone: they can be decoded again.
use Rattle.passkey_cbor.specs.Item as item
use Rattle.passkey_kinds.proofs.Around.{Around, AtMost}
use Rattle.passkey_kinds.proofs.Back.{Falls, falls_as, option_place}
use Rattle.passkey_kinds.proofs.Common.{Any, IfPresent, IsReadBack, Item, Kind, List, None, Option, Some, ap, byte_string, depth, kept_if_some, length, option_map, refl, suc, arith, ℕ, ◌+◌, ◌<◌, ◌≡◌, ◌≤◌}
use Rattle.passkey_kinds.proofs.Lists.{option_same}
use Rattle.passkey_registered.specs.Exact.{exact_bytes_from, hash_from}

pub exact_bytes_back : IsReadBack exact_bytes_from byte_string Any (λ b. b)
exact_bytes_back = record { back = λ b h. refl }

pub hash_back : IsReadBack hash_from byte_string (λ b. length b ≡ 32) (λ b. b)
hash_back = record { back = λ b h. rw h refl }

pub no_exact_bytes : (i : Item) → ((s : List ℕ) → i ≡ byte_string s → ⊥) → exact_bytes_from i ≡ None
no_exact_bytes (item.byte_string s) h = absurd (h s refl)
no_exact_bytes _ h = refl

-- a hash is a byte string
pub no_hash : (i : Item) → exact_bytes_from i ≡ None → hash_from i ≡ None
no_hash (item.byte_string s) none = absurd cc
no_hash _ none = refl

pub hash_is : (i : Item) (s : List ℕ) → exact_bytes_from i ≡ Some s → hash_from i ≡ hash_from (byte_string s)
hash_is (item.byte_string s) t is = cc
hash_is _ t is = absurd cc

-- an optional member whose value is its own normal form
module _ {M : Type 0} {kind : Kind M} {tree : M → Item} {Fits : M → Type 0} (r : IsReadBack kind tree Fits (λ x. x))
  where
    back : IsReadBack (λ i. option_map (λ x. Some x) (kind i)) tree Fits (λ x. Some x)
    back = record { back = λ x h. ap (option_map (λ y. Some y)) (r.back x h) }

    pub present_place : (o : Option M) → IfPresent Fits o
        → Falls (λ i. option_map (λ x. Some x) (kind i)) None (option_map tree o) o
    present_place o h = falls_as (option_same o) (option_place back o h)

-- what it keeps
module _ {X : Type 0} {kind : Kind X} {tree : X → Item} {kept_items : X → List Item} {d least : ℕ}
    (inner : Around kind tree kept_items d least) where
  decoded_as : (o : Option X) (x : X) → option_map (λ y. Some y) o ≡ Some (Some x) → o ≡ Some x
  decoded_as None x e = absurd cc
  decoded_as (Some y) x e = cc

  pub present_keeps : (n most : ℕ) (i : Item) (o : Option X) → option_map (λ x. Some x) (kind i) ≡ Some o
      → depth i < most → most ≤ n + suc d → AtMost n (kept_if_some kept_items o)
  present_keeps n most i None e less few = tt
  present_keeps n most i (Some x) e less few =
      inner.decoded n i x (decoded_as (kind i) x e) (omega (arith, less, few))
