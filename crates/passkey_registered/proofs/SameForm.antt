-- An item in order is its own canonical form.
use Rattle.passkey_cbor.specs.Canonical.{AreOrdered, ArePairsOrdered, AscendFrom, IsCanonical, IsOrdered}
use Rattle.passkey_cbor.specs.Item.{Item, Items, Pairs, array, boolean, byte_string, float, item, members, no_items, no_pairs, null, number, pair, pairs_of, simple, tagged, text_string}
use Rattle.passkey_cbor.specs.Item as spec
use Rattle.passkey_cbor.specs.Laws.{AtMostOneLeadingItem, WrittenIsLeadingItem}
use Rattle.passkey_cbor.specs.LeadingItem.{IsLeadingItem}
use Rattle.passkey_cbor.specs.Order.{IsBefore, ctap2_order, key_type}
use Rattle.passkey_cbor.specs.Written.{written}
use Rattle.passkey_kinds.proofs.Common.{append-nil, append_assoc, is_lt, length, pairs_of-members}
use Rattle.passkey_kinds.specs.Words.{Members}
use Rattle.passkey_registered.proofs.Ascending.{order_flips}
use Rattle.passkey_registered.specs.CanonicalForm.{canonical_form, canonical_items, canonical_pairs, sorted}
use Rattle.passkey_registered.specs.extensions.Others.{placed, with_all}
use Rattle.std.proofs.Common.{List, Option, Some, None, [], ap, false, refl, subst, sym, ℕ, ◌++◌, ◌∙◌, ◌≡◌, ◌∷◌}
use Rattle.std.proofs.lemmas.Cmp.{nat_cmp_total, nat_list_cmp_total, on_total, then_total}
use Rattle.std.specs.Cmp.{IsTotalOrder}
use Rattle.std.specs.Ordering.{ordering_reverse}

order_total : IsTotalOrder ctap2_order
order_total = then_total (on_total key_type nat_cmp_total) (then_total (on_total length nat_cmp_total) nat_list_cmp_total)

-- ---- a member whose key comes after all others is placed at the end

abbrev AllBefore : Members → List ℕ → Type 0
AllBefore [] key = Unit {0}
AllBefore (m ∷ ms) key = IsBefore (written m.0) key × AllBefore ms key

later : (ms : Members) (a b : List ℕ) → AllBefore ms a → IsBefore a b → AllBefore ms b
later [] a b h k = tt
later (m ∷ ms) a b h k = (order_total.trans (written m.0) a b h.0 k, later ms a b h.1 k)

one_more : (ms : Members) (m : Item × Item) (key : List ℕ) → AllBefore ms key → IsBefore (written m.0) key
    → AllBefore (ms ++ m ∷ []) key
one_more [] m key h k = (k, tt)
one_more (x ∷ xs) m key h k = (h.0, one_more xs m key h.1 k)

not_less : (a b : List ℕ) → IsBefore a b → is_lt (ctap2_order b a) ≡ false
not_less a b h = ap is_lt (order_flips a b ∙ ap ordering_reverse h)

at_end : (m : Item × Item) (ms : Members) → AllBefore ms (written m.0) → placed m ms ≡ ms ++ m ∷ []
at_end m [] h = refl
at_end m (x ∷ xs) h =
    rw (not_less (written x.0) (written m.0) h.0) (ap (λ (ns : Members). x ∷ ns) (at_end m xs h.1))

-- ---- members that ascend stay as they are

abbrev BeforeFirst : Members → Members → Type 0
BeforeFirst ms [] = Unit {0}
BeforeFirst ms (o ∷ os) = AllBefore ms (written o.0)

goes_on : (ms : Members) (o : Item × Item) (os : Members) → AllBefore ms (written o.0)
    → AscendFrom (Some (written o.0)) (pairs_of os) → BeforeFirst (ms ++ o ∷ []) os
goes_on ms o [] h up = tt
goes_on ms o (p ∷ ps) h up = one_more ms o (written p.0) (later ms (written o.0) (written p.0) h up.0) up.0

stays : (os ms : Members) (before : Option (List ℕ)) → BeforeFirst ms os → AscendFrom before (pairs_of os)
    → with_all os ms ≡ ms ++ os
stays [] ms before h up = sym (append-nil ms)
stays (o ∷ os) ms before h up =
    ap (with_all os) (at_end o ms h)
    ∙ stays os (ms ++ o ∷ []) (Some (written o.0)) (goes_on ms o os h up.1) up.1
    ∙ append_assoc ms (o ∷ []) os

before_any : (os : Members) → BeforeFirst [] os
before_any [] = tt
before_any (o ∷ os) = tt

sorted_same : (ps : Pairs) → AscendFrom None ps → pairs_of (sorted (members ps)) ≡ ps
sorted_same ps up =
    let back = pairs_of-members ps in
    ap pairs_of (stays (members ps) [] None (before_any (members ps)) (subst (AscendFrom None) (sym back) up)) ∙ back

mutual
  pub same_form : (x : Item) → IsOrdered x → canonical_form x ≡ x
  same_form (array xs) h = ap array (items_same xs h)
  same_form (spec.map ps) h =
      ap (λ qs. spec.map (pairs_of (sorted (members qs)))) (pairs_same ps h.1) ∙ ap spec.map (sorted_same ps h.0)
  same_form (tagged t x) h = absurd h
  same_form (number z) h = refl
  same_form (byte_string s) h = refl
  same_form (text_string s) h = refl
  same_form (boolean b) h = refl
  same_form null h = refl
  same_form (simple n) h = refl
  same_form (float f) h = refl

  items_same : (xs : Items) → AreOrdered xs → canonical_items xs ≡ xs
  items_same no_items h = refl
  items_same (item x xs) h = rw (same_form x h.0, items_same xs h.1) refl

  pairs_same : (ps : Pairs) → ArePairsOrdered ps → canonical_pairs ps ≡ ps
  pairs_same no_pairs h = refl
  pairs_same (pair k v ps) h = rw (same_form k h.0.0, same_form v h.0.1, pairs_same ps h.1) refl

-- ---- canonical bytes come back as they are

pub canonical_again : AtMostOneLeadingItem → WrittenIsLeadingItem → (bytes : List ℕ) (i : Item) (len : ℕ)
    → IsLeadingItem bytes i len → IsCanonical bytes → written (canonical_form i) ≡ bytes
canonical_again one front bytes i len begins c =
    let its = front c.item [] c.writable c.shallow in
    let same = one (bytes ++ []) i c.item len (length (written c.item))
    (subst (λ (s : List ℕ). IsLeadingItem s i len) (sym (append-nil bytes)) begins)
    (subst (λ (s : List ℕ). IsLeadingItem (s ++ []) c.item (length (written c.item))) (sym c.whole) its) in
    ap (λ x. written (canonical_form x)) same.0 ∙ ap written (same_form c.item c.ordered) ∙ sym c.whole
