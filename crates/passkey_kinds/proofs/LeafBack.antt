-- Values can be decoded again from their encodings.
use Rattle.passkey_kinds.proofs.Common.{All, filter_map, arith, ◌≡◌, ◌∙◌, ◌<◌, ◌^◌, List, [], ◌∷◌, map, Option, Some, None, option_map, unwrap_or, refl, ap, All-head, All-tail, Item, byte_string, text_string, boolean, null, IfPresent, Kind, truth_from, number_from, text_from, name_from, any_from, optional_from, each, bytes_from, list_from, accepted_from, IsReadBack, Any, IsByte, number_tree, list_tree, credential_type_named, transport_named, ℕ, ◌==◌, eq-eqb, if◌then◌else◌, length, length-map, items_of, elements-items_of, aaguid_from, sized_bytes_from, size_from, numbers_tree, result_ok, true, Result, Ok, Err, append-nil, data_from, put_each, entry, byte_map_from, map_values, short_first, entry_tree, byte_map_tree, elements, is_coherent, GivenIsCoherent, ReadIsGiven, WrittenDataAreReadBack, IsData, normal_data, DataParts, read_data, CoseError, algorithm_tree, auth_data_tree, tolerated_from, or_else_from, AreBytes, IsSize, option_tree, credential_type_tree, transport_tree, credential_type_own, transport_own, All-from_recursion, recursion_from_All}
use Rattle.std.proofs.Common.{lt-ltb}
use Rattle.passkey_kinds.proofs.Back.{Falls, option_place, falls_as}
use Rattle.passkey_kinds.proofs.ByteMaps.{short_first-each, short_first-placed}
use Rattle.passkey_kinds.proofs.Lists.{list_array, accepted_array, option_same, map_same, byte_map_from-map, map_values-map_values}
use Rattle.passkey_kinds.specs.Kind.{algorithm_from as an_algorithm}
use Rattle.std.specs.FinMap as fin

-- ---- kinds that decode the encoding of a value to that value

pub truth_back : IsReadBack truth_from boolean Any (λ b. b)
truth_back = record { back = λ b h. refl }

pub byte_back : IsReadBack (number_from (2 ^ 8)) number_tree IsByte (λ n. n)
byte_back = record { back = λ n h. rw (lt-ltb n (2 ^ 8) h) refl }

pub word_back : IsReadBack (number_from (2 ^ 32)) number_tree (λ n. n < 2 ^ 32) (λ n. n)
word_back = record { back = λ n h. rw (lt-ltb n (2 ^ 32) h) refl }

pub text_back : IsReadBack text_from text_string Any (λ t. t)
text_back = record { back = λ t h. refl }

pub bytes_back : IsReadBack bytes_from byte_string Any (λ b. b)
bytes_back = record { back = λ b h. refl }

pub kept_back : IsReadBack any_from (λ i. i) Any (λ i. i)
kept_back = record { back = λ i h. refl }

pub credential_type_back : IsReadBack (name_from credential_type_named) credential_type_tree Any (λ t. t)
credential_type_back = record { back = λ t h. credential_type_own t }

pub transport_back : IsReadBack (name_from transport_named) transport_tree Any (λ t. t)
transport_back = record { back = λ t h. transport_own t }

pub algorithm_back : IsReadBack an_algorithm algorithm_tree Any (λ a. a)
algorithm_back = grind arith

-- ---- options, lists and tolerated values

map-map : {A B C : Type 0} (f : B → C) (g : A → B) (xs : List A) → map f (map g xs) ≡ map (λ x. f (g x)) xs
map-map f g [] = refl
map-map f g (x ∷ xs) = ap (λ ys. f (g x) ∷ ys) (map-map f g xs)

-- null isn't accepted, so an accepted item isn't null
optional_some : {M : Type 0} (kind : Kind M) (i : Item) (y : M) → kind null ≡ None → kind i ≡ Some y
    → optional_from kind i ≡ Some (Some y)
optional_some kind null y none h = absurd cc
optional_some kind _ y none h = ap (option_map Some) h

-- a list, if each of its elements can be decoded again
module _ {A X M : Type 0} (kind : X → Option M) (tree : A → X) (Fits : A → Type 0) (normal : A → M)
    (back : (x : A) → Fits x → kind (tree x) ≡ Some (normal x)) where
  pub each_back : (xs : List A) → All Fits xs → each kind (map tree xs) ≡ Some (map normal xs)
  each_back [] h = refl
  each_back (x ∷ xs) h = rw (back x (All-head Fits x xs h), each_back xs (All-tail Fits x xs h)) refl

module _ {A M : Type 0} {kind : Kind M} {tree : A → Item} {Fits : A → Type 0} {normal : A → M}
    (r : IsReadBack kind tree Fits normal) where
  pub optional_back : kind null ≡ None → IsReadBack (optional_from kind) tree Fits (λ x. Some (normal x))
  optional_back none = record { back = λ x h. optional_some kind (tree x) (normal x) none (r.back x h) }

  pub tolerated_back : IsReadBack (tolerated_from kind) tree Fits (λ x. Some (normal x))
  tolerated_back = record { back = λ x h. ap Some (r.back x h) }

  pub or_else_back : (default : M) → IsReadBack (or_else_from default kind) tree Fits normal
  or_else_back default = record { back = λ x h. ap (λ (o : Option M). Some (unwrap_or o default)) (r.back x h) }

  filtered_back : (xs : List A) → All Fits xs → filter_map kind (map tree xs) ≡ map normal xs
  filtered_back [] h = refl
  filtered_back (x ∷ xs) h = rw (r.back x (All-head Fits x xs h), filtered_back xs (All-tail Fits x xs h)) refl

  pub list_back : IsReadBack (list_from kind) (list_tree tree) (All Fits) (map normal)
  list_back = record { back = λ xs h. list_array kind (map tree xs) ∙ each_back kind tree Fits normal r.back xs h }

  pub accepted_back : IsReadBack (accepted_from kind) (list_tree tree) (All Fits) (map normal)
  accepted_back = record { back = λ xs h. accepted_array kind (map tree xs) ∙ ap Some (filtered_back xs h) }

-- the same for a view of the normal form
pub seen_list_back : {A M : Type 0} {kind : Kind M} {tree : A → Item} {Fits : A → Type 0} {view : A → M}
    {normal : A → A} → IsReadBack kind tree Fits (λ x. view (normal x))
    → IsReadBack (list_from kind) (list_tree tree) (All Fits) (λ xs. map view (map normal xs))
seen_list_back {view = view} {normal = normal} r = grind (arith, list_back, map-map)

-- null or the value
pub or_null_back : {A M : Type 0} {kind : Kind M} {tree : A → Item} {Fits : A → Type 0} {normal : A → M}
    → IsReadBack kind tree Fits normal → kind null ≡ None
    → IsReadBack (optional_from kind) (option_tree tree) (IfPresent Fits) (option_map normal)
or_null_back {A} {M} {kind} {tree} {Fits} {normal} r none = grind (arith, optional_some)

-- null or the value, where the value is its own normal form
pub or_null_same : {M : Type 0} {kind : Kind M} {tree : M → Item} {Fits : M → Type 0} → IsReadBack kind tree Fits
    (λ x. x) → kind null ≡ None → IsReadBack (optional_from kind) (option_tree tree) (IfPresent Fits) (λ o. o)
or_null_same r none = record { back = λ o h. (or_null_back r none).back o h ∙ ap Some (option_same o) }

-- ---- places whose values are their own normal forms

pub if_fits : {A : Type 0} {Fits : A → Type 0} → ((x : A) → Fits x) → (o : Option A) → IfPresent Fits o
if_fits fits None = tt
if_fits fits (Some x) = fits x

pub anything : {A : Type 0} (o : Option A) → IfPresent Any o
anything o = if_fits (λ x. tt) o

pub all_of_anything : {A : Type 0} (o : Option (List A)) → IfPresent (All Any) o
all_of_anything o = if_fits (λ xs k d less. tt) o

module _ {M : Type 0} {kind : Kind M} {tree : M → Item} {Fits : M → Type 0} (r : IsReadBack kind tree Fits (λ x. x))
  where
    -- a member that may be absent or null
    pub optional_place : kind null ≡ None → (o : Option M) → IfPresent Fits o
        → Falls (optional_from kind) None (option_map tree o) o
    optional_place none o h = falls_as (option_same o) (option_place (optional_back r none) o h)

    -- a member that becomes `None` if its value is refused
    pub tolerated_place : (o : Option M) → IfPresent Fits o → Falls (tolerated_from kind) None (option_map tree o) o
    tolerated_place o h = falls_as (option_same o) (option_place (tolerated_back r) o h)

    pub accepted_same : IsReadBack (accepted_from kind) (list_tree tree) (All Fits) (λ xs. xs)
    accepted_same = record { back = λ xs h. (accepted_back r).back xs h ∙ ap Some (map_same xs) }

    pub accepted_place : (o : Option (List M)) → IfPresent (All Fits) o
        → Falls (tolerated_from (accepted_from kind)) None (option_map (list_tree tree) o) o
    accepted_place o h = falls_as (option_same o) (option_place (tolerated_back accepted_same) o h)

-- a list whose elements are their own normal forms
pub list_same : {M : Type 0} {kind : Kind M} {tree : M → Item} {Fits : M → Type 0}
    → IsReadBack kind tree Fits (λ x. x) → IsReadBack (list_from kind) (list_tree tree) (All Fits) (λ xs. xs)
list_same r = record { back = λ xs h. (list_back r).back xs h ∙ ap Some (map_same xs) }

-- ---- the encodings of arrays of bytes, AAGUIDs and sizes can be decoded again

pub numbers_back : (n : ℕ) → IsReadBack (sized_bytes_from n) numbers_tree (AreBytes n) (λ b. b)
numbers_back n = record {
  back =
      λ b h. sized n (elements (items_of (map number_tree b))) b (ap length (elements-items_of (map number_tree b))
      ∙ length-map b number_tree ∙ h.0) (ap (each (number_from 256)) (elements-items_of (map number_tree b))
      ∙ each_back (number_from (2 ^ 8)) number_tree IsByte (λ n. n) byte_back.back b h.1 ∙ ap Some (map_same b));
} where
  sized : (n : ℕ) (xs : List Item) (b : List ℕ) → length xs ≡ n → each (number_from 256) xs ≡ Some b
      → (if length xs == n then each (number_from 256) xs else None) ≡ Some b
  sized n xs b long h = rw (eq-eqb (length xs) n long) h

pub size_back : IsReadBack size_from number_tree IsSize (λ n. n)
size_back = record { back = λ n h. rw (lt-ltb 0 n h.0, lt-ltb n (2 ^ 64) h.1) refl }

pub aaguid_back : IsReadBack aaguid_from byte_string (λ b. length b ≡ 16) (λ b. b)
aaguid_back = record { back = λ b h. rw h refl }

-- ---- authenticator data in a byte string: its encoding can be decoded again, and decoded data is coherent

abbrev pub IsCoherentData : DataParts → Type 0
IsCoherentData d = IsData d × (is_coherent d ≡ true)

pub auth_data_back : WrittenDataAreReadBack → ReadIsGiven
    → IsReadBack data_from auth_data_tree IsCoherentData normal_data
auth_data_back written given = grind (arith, append-nil)

data_of : (r : Result DataParts CoseError) (d : DataParts) → result_ok r ≡ Some d → r ≡ Ok d
data_of (Ok x) d e = cc
data_of (Err f) d e = absurd cc

pub auth_data_coherent : GivenIsCoherent → (i : Item) (d : DataParts) → data_from i ≡ Some d
    → is_coherent d ≡ true
auth_data_coherent law (byte_string s) d e = law s d (data_of (read_data s) d e)
auth_data_coherent law i d e = absurd cc

-- ---- the encoding of a map from byte strings can be decoded again

module _ {A M : Type 0} {kind : Kind M} {tree : A → Item} {Fits : A → Type 0} {normal : A → M}
    (r : IsReadBack kind tree Fits normal) where
  abbrev normal_entry : List ℕ × A → List ℕ × M
  normal_entry e = (e.0, normal e.1)

  entry_back : (e : List ℕ × A) → Fits e.1 → entry kind (entry_tree tree e) ≡ Some (normal_entry e)
  entry_back e h = rw (r.back e.1 h) refl

  pub map_back : IsReadBack (byte_map_from kind) (byte_map_tree tree) (λ m. All (λ e. Fits e.1) (fin.entries m))
      (map_values normal)
  map_back = record {
    back = λ m h.
        byte_map_from-map kind (map (entry_tree tree) (short_first (fin.entries m)))
        ∙ ap (option_map (put_each fin.empty)) (each_back (entry kind) (entry_tree tree) (λ e. Fits e.1)
        normal_entry entry_back (short_first (fin.entries m))
        (All-from_recursion _ _ (short_first-each Fits (fin.entries m) (recursion_from_All _ _ h))))
        ∙ ap Some (short_first-placed normal m);
  }

-- the same for a view of the normal form
pub seen_map_back : {A M : Type 0} {kind : Kind M} {tree : A → Item} {Fits : A → Type 0} (view : A → M)
    (normal : A → A) → IsReadBack kind tree Fits (λ x. view (normal x)) → IsReadBack (byte_map_from kind)
    (byte_map_tree tree) (λ m. All (λ e. Fits e.1) (fin.entries m)) (λ m. map_values view (map_values normal m))
seen_map_back view normal r = grind (arith, map_back, map_values-map_values)
