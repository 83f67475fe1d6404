-- Pairs that are taken one by one, while those after them stay as they are.
use Rattle.std.proofs.Common.{◌≡◌, ℕ, suc, ◌+◌, ◌<◌, ◌≤◌, ◌∙◌, Bool, not, true, false, if◌then◌else◌, List, [], ◌∷◌, ◌++◌, length, get_or, map, take, drop, None, ap, sym, arith, drop-cons, drop-drop, take-suc, subst}
use Rattle.std.proofs.Math.Numerals.{add-one}
use Rattle.std.proofs.Math.Nat.{add-zero}
use Rattle.std.proofs.lemmas.List.{append-nil, append_assoc, map-append, get_or-drop, drop_all}
use Rattle.passkey_cbor.specs.Item.{Item}
use Rattle.passkey_cbor.specs.View.{item_of, pair_of}
use Rattle.passkey_cbor.specs.declared.value.Value.{Value}
use Rattle.passkey_cose.specs.KeyFaults.{name_fault, member_fault, first_fault}
use Rattle.passkey_cose.specs.KeyLabels.{Members, is_common}
use Rattle.passkey_cose.specs.KeyReading.{further}
use Rattle.passkey_cose.specs.Seen.{labels_of}
use Rattle.passkey_cose.proofs.KeyFurther.{none_either}

pub before_end : (ms : List (Value × Value)) (i end : ℕ) → i < end → end ≤ length ms → i < length ms
before_end ms i end before within = omega arith

pub same_left : (ms ns : List (Value × Value)) (i : ℕ) → drop i ms ≡ drop i ns → drop (i + 1) ms ≡ drop (i + 1) ns
same_left ms ns i left =
    sym (drop-drop 1 i ms) ∙ ap (λ (os : List (Value × Value)). drop 1 os) left ∙ drop-drop 1 i ns

pub same_after : (ms ns os : List (Value × Value)) (i : ℕ) → drop (suc i) ms ≡ drop (suc i) ns
    → drop i ns ≡ drop i os → drop (i + 1) ms ≡ drop (i + 1) os
same_after ms ns os i following left =
    (let here : drop (i + 1) ms ≡ drop (i + 1) ns = rw (add-one i) following in here) ∙ same_left ns os i left

first_left : (ms : List (Value × Value)) (i : ℕ) (m : Value × Value) → get_or (drop i ms) 0 m ≡ get_or ms i m
first_left ms i m = rw (get_or-drop, add-zero)

-- the same member is at the index, if those from there on are the same
pub same_at : (ms ns : List (Value × Value)) (i : ℕ) (m : Value × Value) → m ≡ get_or ms i m → drop i ms ≡ drop i ns
    → m ≡ get_or ns i m
same_at ms ns i m is left =
    is ∙ sym (first_left ms i m) ∙ ap (λ (os : List (Value × Value)). get_or os 0 m) left ∙ first_left ns i m

-- the member at an index, and those after it
pub member_from : (ms : List (Value × Value)) (i : ℕ) (m : Value × Value) → i < length ms → m ≡ get_or ms i m
    → map pair_of (drop i ms) ≡ pair_of m ∷ map pair_of (drop (suc i) ms)
member_from ms i m within is =
    ap (λ (ns : List (Value × Value)). map pair_of ns) (drop-cons ms i m within)
    ∙ ap (λ (n : Value × Value). pair_of n ∷ map pair_of (drop (suc i) ms)) (sym is)

pub member_at : (ms : List (Value × Value)) (i : ℕ) (m : Value × Value) → i < length ms → m ≡ get_or ms i m
    → map pair_of (drop i ms) ≡ pair_of m ∷ map pair_of (drop (i + 1) ms)
member_at ms i m within is = rw (add-one i) (member_from ms i m within is)

pub common_at : (ms : List (Value × Value)) (i : ℕ) (m : Value × Value) (b c : Bool) → m ≡ get_or ms i m
    → b ≡ is_common (item_of (get_or ms i m).0) → b ≡ c → is_common (item_of m.0) ≡ c
common_at ms i m b c is told found =
    ap (λ (n : Value × Value). is_common (item_of n.0)) is ∙ sym told ∙ found

pub first_of : (m n : Item × Item) (ms ns : Members) → m ∷ ms ≡ n ∷ ns → m ≡ n
first_of m n ms ns same = ap (λ (os : Members). get_or os 0 m) same

-- a member that is a common parameter adds nothing
further_common : (ms : Members) (m : Item × Item) → is_common m.0 ≡ true → further (m ∷ ms) ≡ further ms
further_common ms m common = ap (λ (b : Bool). if not b then m ∷ further ms else further ms) common

further_more : (ms : Members) (m : Item × Item) → is_common m.0 ≡ false → further (m ∷ ms) ≡ m ∷ further ms
further_more ms m other = ap (λ (b : Bool). if not b then m ∷ further ms else further ms) other

pub pass_common : (ps ms ns all : Members) (m : Item × Item) → is_common m.0 ≡ true → ms ≡ m ∷ ns
    → ps ++ further ms ≡ all → ps ++ further ns ≡ all
pass_common ps ms ns all m common at done =
    ap (λ (os : Members). ps ++ os) (sym (ap further at ∙ further_common ns m common)) ∙ done

pub take_further : (ps ms ns all : Members) (m : Item × Item) → is_common m.0 ≡ false → ms ≡ m ∷ ns
    → ps ++ further ms ≡ all → (ps ++ m ∷ []) ++ further ns ≡ all
take_further ps ms ns all m other at done =
    append_assoc ps (m ∷ []) (further ns)
    ∙ ap (λ (os : Members). ps ++ os) (sym (ap further at ∙ further_more ns m other)) ∙ done

some : (ps ns : Members) (m : Item × Item) → 0 < length ((ps ++ m ∷ []) ++ ns)
some [] ns m = omega arith
some (p ∷ ps) ns m = omega arith

some_further : (ps ms ns all : Members) (m : Item × Item) → is_common m.0 ≡ false → ms ≡ m ∷ ns
    → ps ++ further ms ≡ all → 0 < length all
some_further ps ms ns all m other at done =
    subst (λ (os : Members). 0 < length os) (take_further ps ms ns all m other at done) (some ps (further ns) m)

-- the other parameters that the pairs began with, if one of them is still there
pub one_left : (ps all : Members) (ms now slice : List (Value × Value)) (i end : ℕ) (m : Value × Value) (b : Bool)
    → i < end → end ≤ length ms → slice ≡ now → m ≡ get_or slice i m → drop i now ≡ drop i ms
    → b ≡ is_common (item_of (get_or slice i m).0) → b ≡ false → ps ++ further (map pair_of (drop i ms)) ≡ all
    → 0 < length all
one_left ps all ms now slice i end m b before within same is left told other done =
    let is_now : m ≡ get_or now i m = subst (λ (ns : List (Value × Value)). m ≡ get_or ns i m) same is in
    some_further ps (map pair_of (drop i ms)) (map pair_of (drop (i + 1) ms)) all (pair_of m)
    (common_at slice i m b false is told other)
    (member_at ms i m (before_end ms i end before within) (same_at now ms i m is_now left)) done

pub none_left : (ps all : Members) (ms : List (Value × Value)) (i : ℕ) → length ms ≤ i
    → ps ++ further (map pair_of (drop i ms)) ≡ all → ps ≡ all
none_left ps all ms i past done =
    sym (append-nil ps) ∙ ap (λ (os : List (Value × Value)). ps ++ further (map pair_of os)) (sym (drop_all i ms past))
    ∙ done

-- one more member is taken
taken_more : (ms : List (Value × Value)) (i : ℕ) (m : Value × Value) → i < length ms → m ≡ get_or ms i m
    → map pair_of (take (i + 1) ms) ≡ map pair_of (take i ms) ++ pair_of m ∷ []
taken_more ms i m within is =
    rw (add-one i) (ap (λ (ns : List (Value × Value)). map pair_of ns) (take-suc ms i m within)
    ∙ map-append pair_of (take i ms) (get_or ms i m ∷ [])
    ∙ ap (λ (n : Value × Value). map pair_of (take i ms) ++ pair_of n ∷ []) (sym is))

pub labels_more : (ms : List (Value × Value)) (i : ℕ) (m : Value × Value) → i < length ms → m ≡ get_or ms i m
    → labels_of (map pair_of (take (i + 1) ms)) ≡ labels_of (map pair_of (take i ms)) ++ item_of m.0 ∷ []
labels_more ms i m within is =
    rw (taken_more ms i m within is) (map-append (λ (n : Item × Item). n.0) (map pair_of (take i ms)) (pair_of m ∷ []))

-- the first fault is that of the member at the index, or else of those after it
pub first_more : (ms : List (Value × Value)) (i : ℕ) (m : Value × Value) → i < length ms → m ≡ get_or ms i m
    → member_fault (map pair_of (take i ms)) (pair_of m) ≡ None
    → first_fault (map pair_of (take i ms)) (map pair_of (drop i ms))
    ≡ first_fault (map pair_of (take (i + 1) ms)) (map pair_of (drop (i + 1) ms))
first_more ms i m within is none =
    rw (member_at ms i m within is, none, taken_more ms i m within is)

pub good_more : (ms : List (Value × Value)) (i : ℕ) (m : Value × Value) → i < length ms → m ≡ get_or ms i m
    → first_fault (map pair_of (take i ms)) (map pair_of (drop i ms)) ≡ None
    → first_fault (map pair_of (take (i + 1) ms)) (map pair_of (drop (i + 1) ms)) ≡ None
good_more ms i m within is good =
    let here = rw (member_at ms i m within is) at good in
    rw (taken_more ms i m within is) (none_either (member_fault (map pair_of (take i ms)) (pair_of m))
    (first_fault (map pair_of (take i ms) ++ pair_of m ∷ []) (map pair_of (drop (i + 1) ms))) here).1

-- the label of a member that comes next is no fault
pub next_name : (earlier ms ns : Members) (m : Item × Item) → first_fault earlier ms ≡ None → ms ≡ m ∷ ns
    → name_fault m.0 ≡ None
next_name earlier ms ns m good at =
    let here : first_fault earlier (m ∷ ns) ≡ None = rw at at good in
    let fault = none_either (member_fault earlier m) (first_fault (earlier ++ m ∷ []) ns) here in
    (none_either (name_fault m.0) _ fault.0).0
