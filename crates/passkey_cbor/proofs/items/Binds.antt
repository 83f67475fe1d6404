-- One reading after another.
use Rattle.std.proofs.Common.{◌≡◌, Option, Some, None, refl, ap}
use Rattle.passkey_cbor.specs.HeadReading.{◌>>=◌}

pub some_is : {A : Type 0} (x y : A) → Some x ≡ Some y → x ≡ y
some_is x y e = cc

pub none_is_some : {A : Type 0} (x : A) → None ≡ Some x → ⊥
none_is_some x e = absurd cc

-- the result of the whole comes from the result of its first part
pub bind_some : {A B : Type 0} (o : Option A) (f : A → Option B) (y : B) → (o >>= f) ≡ Some y
    → (x : A) × (o ≡ Some x) × (f x ≡ Some y)
bind_some None f y e = absurd (none_is_some y e)
bind_some (Some x) f y e = (x, refl, e)

-- the reading goes on with the result of its first part
pub bind_at : {A B : Type 0} (o : Option A) (x : A) (f : A → Option B) → o ≡ Some x → (o >>= f) ≡ f x
bind_at o x f e = ap (λ q. q >>= f) e

pub bind_none : {A B : Type 0} (o : Option A) (f : A → Option B) → o ≡ None → (o >>= f) ≡ None
bind_none o f e = ap (λ q. q >>= f) e
