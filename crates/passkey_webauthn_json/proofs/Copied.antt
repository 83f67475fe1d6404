-- Members that are copied one by one into a map that keeps the order of insertion.
use Rattle.std.proofs.Common.{◌≡◌, ◌∙◌, ℕ, List, [], ◌∷◌, Bool, true, false, if◌then◌else◌, Less, Greater, Result, Ok, Err, String, Global, string_bytes, string_cmp, string_eq, nat_cmp, is_eq, bytes_eq, refl, sym, ap, subst}
use Rattle.std.proofs.lemmas.Cmp.{nat_list_cmp_total}
use Rattle.std.proofs.lemmas.Map.Text.{is_eq-slice_cmp}
use Rattle.std.specs.Cmp.Lexicographic.{slice_cmp}
use Rattle.std.specs.List.{AllByRecursion, AllZip}
use Rattle.std.specs.List.Sorted.{IsStrictlySortedBy}
use Rattle.std.specs.Map.{keys_of}
use Rattle.std.specs.Ordering.{ordering_reverse}
use Rattle.std.specs.Result.{OnErr}
use Rattle.indexmap.specs.IndexMap.{insert_entry}
use Rattle.passkey_webauthn_json.specs.client_data.MemberLists.{added, joined, members_where}
use Rattle.serde_json.specs.Data.{Data, Members, no_members, member}
use Rattle.serde_json.specs.View.{view, members_view}
use Rattle.serde_json.specs.declared.value.Value.{Value}

abbrev pub Entry : Type 0
Entry = String Global × Value

members_view-if : (b : Bool) (es fs : List Entry)
    → members_view (if b then es else fs) ≡ (if b then members_view es else members_view fs)
members_view-if true es fs = refl
members_view-if false es fs = refl

pub members_view-inserted : (es : List Entry) (name : String Global) (v : Value)
    → members_view (insert_entry string_eq es name v) ≡ added (string_bytes name) (view v) (members_view es)
members_view-inserted [] name v = refl
members_view-inserted (e ∷ es) name v =
    members_view-if (string_eq name e.0) _ _ ∙ rw (members_view-inserted es name v) refl

-- ---- names that differ

-- none of the members has the name of the one before them
abbrev DifferFrom : List ℕ → Members → Type 0
DifferFrom first no_members = Unit {0}
DifferFrom first (member name d ms) = (bytes_eq name first ≡ false) × DifferFrom first ms

-- no name occurs twice
abbrev AreApart : Members → Type 0
AreApart no_members = Unit {0}
AreApart (member name d ms) = DifferFrom name ms × AreApart ms

differ_if : (b : Bool) (first name : List ℕ) (d : Data) (ms : Members) → bytes_eq name first ≡ false
    → DifferFrom first ms → DifferFrom first (if b then member name d ms else ms)
differ_if true first name d ms other rest = (other, rest)
differ_if false first name d ms other rest = rest

differ_where : (test : List ℕ → Bool) (first : List ℕ) (ms : Members) → DifferFrom first ms
    → DifferFrom first (members_where test ms)
differ_where test first no_members differ = differ
differ_where test first (member name d ms) differ =
    differ_if (test name) first name d (members_where test ms) differ.0 (differ_where test first ms differ.1)

apart_if : (b : Bool) (name : List ℕ) (d : Data) (ms : Members) → DifferFrom name ms → AreApart ms
    → AreApart (if b then member name d ms else ms)
apart_if true name d ms differ apart = (differ, apart)
apart_if false name d ms differ apart = apart

apart_where : (test : List ℕ → Bool) (ms : Members) → AreApart ms → AreApart (members_where test ms)
apart_where test no_members apart = apart
apart_where test (member name d ms) apart = apart_if (test name) name d (members_where test ms)
    (differ_where test name ms apart.0) (apart_where test ms apart.1)

-- ---- a new name is added at the end

differs : (first : List ℕ) (ms : Members) (name : List ℕ) (d : Data) (ns : Members)
    → DifferFrom first (joined ms (member name d ns)) → bytes_eq name first ≡ false
differs first no_members name d ns differ = differ.0
differs first (member other e ms) name d ns differ = differs first ms name d ns differ.1

added_last : (ms : Members) (name : List ℕ) (d : Data) (ns : Members) → AreApart (joined ms (member name d ns))
    → joined (added name d ms) ns ≡ joined ms (member name d ns)
added_last no_members name d ns apart = refl
added_last (member other e ms) name d ns apart =
    rw (differs other ms name d ns apart.0) (ap (member other e) (added_last ms name d ns apart.1))

pub joined_none : (ms : Members) → joined ms no_members ≡ ms
joined_none no_members = refl
joined_none (member name d ms) = ap (member name d) (joined_none ms)

-- ---- the members of an object

other_name : (first later : String Global) → string_cmp first later ≡ Less
    → bytes_eq (string_bytes later) (string_bytes first) ≡ false
other_name first later below =
    let above : slice_cmp nat_cmp (string_bytes later) (string_bytes first) ≡ Greater =
    nat_list_cmp_total.antisymm (string_bytes later) (string_bytes first) ∙ ap ordering_reverse below in
    sym (is_eq-slice_cmp (string_bytes later) (string_bytes first)) ∙ ap is_eq above

differ_sorted : (e : Entry) (es : List Entry) → AllByRecursion (λ k. string_cmp e.0 k ≡ Less) (keys_of es)
    → DifferFrom (string_bytes e.0) (members_view es)
differ_sorted e [] below = record {}
differ_sorted e (f ∷ es) below = (other_name e.0 f.0 below.0, differ_sorted e es below.1)

apart_sorted : (es : List Entry) → IsStrictlySortedBy string_cmp (keys_of es) → AreApart (members_view es)
unfolding IsStrictlySortedBy
apart_sorted [] sorted = record {}
apart_sorted (e ∷ es) sorted = (differ_sorted e es sorted.0, apart_sorted es sorted.1)

-- one more of an object's members that pass a test is copied in its order
pub copied_next : (test : List ℕ → Bool) (es : List Entry) → IsStrictlySortedBy string_cmp (keys_of es)
    → (copies : Members) (name : List ℕ) (d : Data) (left : Members)
    → joined copies (member name d left) ≡ members_where test (members_view es)
    → joined (added name d copies) left ≡ members_where test (members_view es)
copied_next test es sorted copies name d left same =
    added_last copies name d left (subst AreApart (sym same) (apart_where test (members_view es) (apart_sorted es sorted)))
    ∙ same

pub on_any_error : {T E P : Type 0} (r : Result T E) → P → OnErr r P
on_any_error (Ok x) h = tt
on_any_error (Err e) h = h

-- ---- clones

-- the members in a map's clone
pub members_view-clone : (es copies : List Entry) → AllZip (λ e copy. (string_bytes copy.0 ≡ string_bytes e.0)
    × (view copy.1 ≡ view e.1)) es copies → members_view copies ≡ members_view es
members_view-clone [] [] same = refl
members_view-clone [] (copy ∷ copies) same = absurd same
members_view-clone (e ∷ es) [] same = absurd same
members_view-clone (e ∷ es) (copy ∷ copies) same = rw (same.0.0, same.0.1, members_view-clone es copies same.1) refl
