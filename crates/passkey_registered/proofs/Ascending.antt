-- Keys ascend with others in their places.
use Rattle.passkey_cbor.specs.Canonical.{AscendFrom, ComesAfter}
use Rattle.passkey_cbor.specs.Order.{IsBefore, ctap2_order, key_type}
use Rattle.passkey_registered.specs.extensions.Others.{IsApart, OthersKeepOrder, placed}
use Rattle.passkey_kinds.proofs.Common.{Item, List, Members, None, Option, Some, is_lt, length, pairs_of, written}
use Rattle.std.proofs.Common.{Bool, [], false, refl, true, ℕ, ◌∙◌, ◌≡◌, ◌≢◌, ◌∷◌}
use Rattle.std.proofs.lemmas.Cmp.{nat_cmp_total, nat_list_cmp_total}
use Rattle.std.specs.Cmp.Lexicographic.{slice_cmp}
use Rattle.std.specs.Cmp.{then_flip}
use Rattle.std.specs.Ordering.{nat_cmp, ordering_reverse, ordering_then}
use Rattle.std.specs.declared.cmp.Ordering.TheVariants.{Equal, Greater, Less}
use Rattle.std.specs.declared.cmp.Ordering.{Ordering}

-- ---- of two keys that differ one comes first

pub order_flips : (a b : List ℕ) → ctap2_order b a ≡ ordering_reverse (ctap2_order a b)
order_flips a b =
    rw (
      nat_cmp_total.antisymm (key_type b) (key_type a),
      nat_cmp_total.antisymm (length b) (length a),
      nat_list_cmp_total.antisymm b a,
      then_flip (nat_cmp (length a) (length b)) (slice_cmp nat_cmp a b),
    ) (then_flip (nat_cmp (key_type a) (key_type b))
    (ordering_then (nat_cmp (length a) (length b)) (slice_cmp nat_cmp a b)))

less_is : (o : Ordering) → is_lt o ≡ true → o ≡ Less
less_is Less h = refl
less_is _ h = absurd cc

other_way : (o : Ordering) → is_lt o ≡ false → o ≢ Equal → ordering_reverse o ≡ Less
other_way Less h apart = absurd cc
other_way Equal h apart = absurd (apart refl)
other_way Greater h apart = refl

-- ---- the keys with one more

up_after : (before : Option (List ℕ)) (m : Item × Item) (ms : Members) → ComesAfter before (written m.0)
    → AscendFrom before (pairs_of ms) → IsApart m ms → AscendFrom before (pairs_of (placed m ms))
up_after before m [] after h apart = (after, tt)
up_after before m (x ∷ xs) after h apart =
    by_case (is_lt (ctap2_order (written m.0) (written x.0))) refl
    (λ later. up_after (Some (written x.0)) m xs later h.1 apart.1) where
      by_case : (b : Bool) → is_lt (ctap2_order (written m.0) (written x.0)) ≡ b
          → (IsBefore (written x.0) (written m.0) → AscendFrom (Some (written x.0)) (pairs_of (placed m xs)))
          → AscendFrom before (pairs_of (placed m (x ∷ xs)))
      by_case true is rest = rw is (after, (less_is _ is, h.1))
      by_case false is rest = rw is (
        h.0,
        rest (order_flips (written m.0) (written x.0) ∙ other_way _ is apart.0),
      )

pub kept_in_order : OthersKeepOrder
kept_in_order [] ms up apart = up
kept_in_order (o ∷ os) ms up apart =
    kept_in_order os (placed o ms) (up_after None o ms tt up apart.0) apart.1
