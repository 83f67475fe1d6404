-- The members of an object are in CTAP2's order.
use Rattle.std.proofs.Common.{◌≡◌, ◌∙◌, ℕ, zero, suc, ◌+◌, ◌<◌, ◌≤◌, arith, List, [], ◌∷◌, length, get_or, Option, Some, None, option_map, Result, Ok, Err, inl, inr, ◌⊎◌, refl, sym, ap, subst}
use Rattle.std.proofs.lemmas.Bool.{cases_lt}
use Rattle.std.proofs.lemmas.Cmp.{nat_cmp_total, nat_list_cmp_total}
use Rattle.std.specs.Cmp.{then_flip}
use Rattle.std.specs.List.{insert}
use Rattle.std.specs.Ordering.{nat_cmp, ordering_reverse, ordering_then}
use Rattle.std.specs.declared.cmp.Ordering.{Ordering}
use Rattle.std.specs.declared.cmp.Ordering.TheVariants.{Less, Equal, Greater}
use Rattle.json.specs.Json as json
use Rattle.passkey_cbor.specs.Canonical.{Ascend, AscendFrom, ComesAfter}
use Rattle.passkey_cbor.specs.Item.{pairs_of}
use Rattle.passkey_cbor.specs.Order.{IsBefore, ctap2_order, key_type}
use Rattle.passkey_cbor.specs.Written.{written}
use Rattle.passkey_cbor_text.specs.declared.values.leaf.StringForm.TheVariants.{Text}
use Rattle.passkey_cbor_text.specs.declared.values.no_item.ItemReason.TheVariants.{Repeated}
use Rattle.passkey_cbor_text.specs.values.JsonItem.{MembersAscend, leaf_item, member_of, members_item, placed}
use Rattle.passkey_cbor_text.specs.values.Keys.{any_key}
use Rattle.passkey_cbor_text.specs.values.NoItem.{Read, at, or_reason, then_with}
use Rattle.passkey_cbor_text.specs.values.Ordered.{Member, by_order, no_member, place_below, with_member}

reversed : (a b : List ℕ) → ctap2_order b a ≡ ordering_reverse (ctap2_order a b)
reversed a b = rw (
  nat_cmp_total.antisymm (key_type b) (key_type a),
  nat_cmp_total.antisymm (length b) (length a),
  nat_list_cmp_total.antisymm b a,
)
    (ap (λ (o : Ordering). ordering_then (ordering_reverse (nat_cmp (key_type a) (key_type b))) o) (then_flip _ _)
    ∙ then_flip _ _)

flip : (a b : List ℕ) → ctap2_order a b ≡ Greater → IsBefore b a
flip a b e = reversed a b ∙ ap ordering_reverse e

-- What stands before the place of a key, and what from there on.
record IsPlace (ms : List Member) (key : List ℕ) (len n : ℕ) : Type 0 where
  within : n ≤ len
  below : (k : ℕ) → k + 1 ≡ n → IsBefore (written (get_or ms k no_member).0) key
  above : (k : ℕ) → n ≤ k → k < len → IsBefore key (written (get_or ms k no_member).0)

here_or_before : (ms : List Member) (key : List ℕ) (m n k : ℕ) → IsPlace ms key m n
    → IsBefore key (written (get_or ms m no_member).0) → n ≤ k → k < suc m → (k < m) ⊎ (m ≤ k)
    → IsBefore key (written (get_or ms k no_member).0)
here_or_before ms key m n k p last few less (inl before) = p.above k few before
here_or_before ms key m n k p last few less (inr there) =
    let same : k ≡ m = omega arith in
    subst (λ (l : ℕ). IsBefore key (written (get_or ms l no_member).0)) (sym same) last

one_more : (ms : List Member) (key : List ℕ) (m n : ℕ) (o : Ordering) (nearer : Option ℕ)
    → ctap2_order (written (get_or ms m no_member).0) key ≡ o → (nearer ≡ Some n → IsPlace ms key m n)
    → by_order o m nearer ≡ Some n → IsPlace ms key (suc m) n
one_more ms key m n Less nearer is closer e =
    let same : suc m ≡ n = cc in
    record {
      within = omega arith;
      below = λ k next. (let there : k ≡ m = omega arith in
          subst (λ (l : ℕ). IsBefore (written (get_or ms l no_member).0) key) (sym there) is);
      above = λ k few less. absurd (omega arith);
    }
one_more ms key m n Equal nearer is closer e = absurd cc
one_more ms key m n Greater nearer is closer e =
    let p = closer e in
    record {
      within = omega (arith, p.within);
      below = p.below;
      above = λ k few less. here_or_before ms key m n k p (flip (written (get_or ms m no_member).0) key is) few less (cases_lt k m);
    }

place_is : (ms : List Member) (key : List ℕ) (len n : ℕ) → place_below ms key len ≡ Some n → IsPlace ms key len n
place_is ms key zero n e =
    let same : 0 ≡ n = cc in
    record { within = omega arith; below = λ k next. absurd (omega arith); above = λ k few less. absurd (omega arith) }
place_is ms key (suc m) n e = one_more ms key m n _ _ refl (place_is ms key m n) e

-- a member that is put between those that it belongs between
put_ascends : (before : Option (List ℕ)) (ms : List Member) (n : ℕ) (m : Member) → AscendFrom before (pairs_of ms)
    → n ≤ length ms → (n ≡ 0 → ComesAfter before (written m.0))
    → ((k : ℕ) → k + 1 ≡ n → IsBefore (written (get_or ms k no_member).0) (written m.0))
    → (n < length ms → IsBefore (written m.0) (written (get_or ms n no_member).0))
    → AscendFrom before (pairs_of (insert ms n m))
put_ascends before [] zero m asc few first below above = (first refl, tt)
put_ascends before (x ∷ xs) zero m asc few first below above = (first refl, (above (omega arith), asc.1))
put_ascends before [] (suc n) m asc few first below above = absurd (omega arith)
put_ascends before (x ∷ xs) (suc n) m asc few first below above = (
  asc.0,
  put_ascends (Some (written x.0)) xs n m asc.1 (omega arith)
      (λ e. below 0 (omega arith)) (λ k next. below (suc k) (omega arith)) (λ less. above (omega arith)),
)

with_ascends : (ms all : List Member) (m : Member) (o : Option ℕ) → Ascend (pairs_of ms)
    → (o ≡ place_below ms (written m.0) (length ms)) → option_map (λ n. insert ms n m) o ≡ Some all → Ascend (pairs_of all)
with_ascends ms all m (Some n) asc is e =
    let p = place_is ms (written m.0) (length ms) n (sym is) in
    let same : insert ms n m ≡ all = cc in
    subst (λ (ns : List Member). Ascend (pairs_of ns)) same
    (put_ascends None ms n m asc p.within (λ first. tt) p.below (λ less. p.above n (omega arith) less))
with_ascends ms all m None asc is e = absurd cc

placed_ascends : (ms all : List Member) (n : ℕ) (m : Read Member) → Ascend (pairs_of ms) → at n (placed ms m) ≡ Ok all
    → Ascend (pairs_of all)
placed_ascends ms all n (Err f) asc e = absurd cc
placed_ascends ms all n (Ok m) asc e = from (with_member ms m) refl e where
  from : (o : Option (List Member)) → o ≡ with_member ms m → at n (or_reason Repeated o) ≡ Ok all → Ascend (pairs_of all)
  from (Some ns) is f =
      let same : ns ≡ all = cc in with_ascends ms all m _ asc refl (sym is ∙ ap (λ (l : List Member). Some l) same)
  from None is f = absurd cc

after_one : (before all : List Member) (n : ℕ) (ms : json.Members) (m : Read Member) (r : Read (List Member))
    → Ascend (pairs_of before) → r ≡ at n (placed before m)
    → ((more : List Member) → Ascend (pairs_of more) → members_item more (suc n) ms ≡ Ok all → Ascend (pairs_of all))
    → then_with (λ more. members_item more (suc n) ms) r ≡ Ok all → Ascend (pairs_of all)
after_one before all n ms m (Ok more) asc is rest e = rest more (placed_ascends before more n m asc (sym is)) e
after_one before all n ms m (Err f) asc is rest e = absurd cc

ascend_from : (ms : json.Members) (before all : List Member) (n : ℕ) → Ascend (pairs_of before)
    → members_item before n ms ≡ Ok all → Ascend (pairs_of all)
ascend_from json.no_members before all n asc e =
    let same : before ≡ all = cc in subst (λ (ns : List Member). Ascend (pairs_of ns)) same asc
ascend_from (json.member k j ms) before all n asc e =
    after_one before all n ms (member_of (any_key k) (leaf_item Text j)) _ asc refl
    (λ more there. ascend_from ms more all (suc n) there) e

pub members_ascend : MembersAscend
members_ascend ms all e = ascend_from ms [] all 0 tt e
