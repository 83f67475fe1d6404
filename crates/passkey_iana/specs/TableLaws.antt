-- If the look-up of each value's number finds that value, then a number finds a value exactly if it is the
-- value's own.
use Rattle.std.specs.Bool.{Decides}
use Rattle.std.proofs.Common.{◌≡◌, ◌↔◌, Bool, true, false, List, [], ◌∷◌, Some, refl, subst}
use Rattle.passkey_iana.specs.Table.{numbered}

module _ {T N : Type 0} (same : N → N → Bool) (decides : (x y : N) → Decides (same x y) (x ≡ y)) (number : T → N)
  where
    -- a value that is found has the number
    pub numbered_has : (values : List T) (n : N) (a : T) → numbered same number values n ≡ Some a → number a ≡ n
    numbered_has [] n a e = cc
    numbered_has (b ∷ bs) n a e =
        (elim (same (number b) n) as (λ (t : Bool). same (number b) n ≡ t → number a ≡ n) [
          | true ↦ λ h. (let s : Some b ≡ Some a = (rw h at e) in let it : b ≡ a =
              cc in subst (λ (x : T). number x ≡ n) it ((decides (number b) n).0 h))
          | false ↦ λ h. numbered_has bs n a (rw h at e)
        ]) refl

    pub numbered_as : (values : List T) → ((a : T) → numbered same number values (number a) ≡ Some a)
        → (n : N) (a : T) → (numbered same number values n ≡ Some a ↔ number a ≡ n)
    numbered_as values own n a =
        (numbered_has values n a, λ e. subst (λ (w : N). numbered same number values w ≡ Some a) e (own a))
