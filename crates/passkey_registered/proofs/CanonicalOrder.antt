-- The members of each map of a canonical form ascend.
use Rattle.std.proofs.Common.{◌≡◌, ℕ, zero, suc, [], ◌∷◌, ◌++◌, drop, take, subst, sym}
use Rattle.passkey_cbor.specs.Canonical.{IsOrdered, AreOrdered, ArePairsOrdered}
use Rattle.passkey_cbor.specs.Item.{Item, Items, Pairs, array, boolean, byte_string, float, item, members, no_items, no_pairs, null, number, pair, pairs_of, simple, tagged, text_string}
use Rattle.passkey_cbor.specs.Item as spec
use Rattle.passkey_registered.proofs.Ascending.{kept_in_order}
use Rattle.passkey_registered.specs.CanonicalForm.{HasCanonicalForm, HaveCanonicalForms, HavePairsCanonicalForms, canonical_form, canonical_items, canonical_pairs}
use Rattle.passkey_registered.specs.extensions.Others.{placed, with_all}
use Rattle.passkey_kinds.specs.Words.{Members}

put_ordered : (n : ℕ) (m : Item × Item) (ms : Members) → IsOrdered m.0 × IsOrdered m.1
    → ArePairsOrdered (pairs_of ms) → ArePairsOrdered (pairs_of (take n ms ++ m ∷ drop n ms))
put_ordered zero m ms h k = (h, k)
put_ordered (suc n) m [] h k = (h, tt)
put_ordered (suc n) m (x ∷ xs) h k = (k.0, put_ordered n m xs h k.1)

all_put : (os ms : Members) → ArePairsOrdered (pairs_of os) → ArePairsOrdered (pairs_of ms)
    → ArePairsOrdered (pairs_of (with_all os ms))
all_put [] ms h k = k
all_put (o ∷ os) ms h k = all_put os (placed o ms) h.1 (put_ordered _ o ms h.0 k)

mutual
  ordered : (x : Item) → HasCanonicalForm x → IsOrdered (canonical_form x)
  ordered (array xs) h = items_ordered xs h
  ordered (spec.map ps) h = (
    kept_in_order (members (canonical_pairs ps)) [] tt h.1,
    all_put (members (canonical_pairs ps)) [] (pairs_ordered ps h.0) tt,
  )
  ordered (tagged t x) h = absurd h
  ordered (number z) h = tt
  ordered (byte_string s) h = tt
  ordered (text_string s) h = tt
  ordered (boolean b) h = tt
  ordered null h = tt
  ordered (simple n) h = tt
  ordered (float f) h = tt

  items_ordered : (xs : Items) → HaveCanonicalForms xs → AreOrdered (canonical_items xs)
  items_ordered no_items h = tt
  items_ordered (item x xs) h = (ordered x h.0, items_ordered xs h.1)

  pairs_ordered : (ps : Pairs) → HavePairsCanonicalForms ps → ArePairsOrdered (pairs_of (members (canonical_pairs ps)))
  pairs_ordered no_pairs h = tt
  pairs_ordered (pair k v ps) h = ((ordered k h.0.0, ordered v h.0.1), pairs_ordered ps h.1)

pub is_ordered : (x y : Item) → y ≡ canonical_form x → HasCanonicalForm x → IsOrdered y
is_ordered x y is h = subst IsOrdered (sym is) (ordered x h)
