-- `named_eq` decides whether two values are equal: proofs that the impls of PartialEq and Eq cite.
use Rattle.std.specs.Bool.{Decides}
use Rattle.std.specs.Cmp.{IsEquivalence, decided, signed_Decides}
use Rattle.std.proofs.Common.{◌≡◌, ◌↔◌, ℤ, true, Option, Some, refl, sym, ap, subst}
use Rattle.std.proofs.lemmas.Bool.{true≢false}
use Rattle.std.proofs.lemmas.Slice.Eq.{bytes_eq-Decides}
use Rattle.passkey_cose.specs.Registered.{Named, assigned, other, text, named_eq}

-- the law of EnumI64 for a registry
abbrev pub NumbersName : {T : Type 0} → (T → ℤ) → (ℤ → Option T) → Type 0
NumbersName {T = T} number_of named = (z : ℤ) (a : T) → (named z ≡ Some a ↔ number_of a ≡ z)

-- no two values have the same number
one_number : {T : Type 0} {number_of : T → ℤ} {named : ℤ → Option T} → NumbersName number_of named → (a b : T)
    → number_of a ≡ number_of b → a ≡ b
one_number {number_of = number_of} {named = named} law a b e =
    let here : named (number_of b) ≡ Some a = (law (number_of b) a).1 e in
    let there : named (number_of b) ≡ Some b = (law (number_of b) b).1 refl in
    cc

named_same : {T : Type 0} {number_of : T → ℤ} {named : ℤ → Option T} → NumbersName number_of named → (x y : Named T)
    → named_eq number_of x y ≡ true → x ≡ y
named_same {number_of = number_of} law (assigned a) (assigned b) e =
    ap assigned (one_number law a b ((signed_Decides (number_of a) (number_of b)).0 e))
named_same law (other z) (other w) e = ap other ((signed_Decides z w).0 e)
named_same law (text s) (text t) e = ap text ((bytes_eq-Decides s t).0 e)
named_same law x y e = absurd (true≢false (sym e))

named_own : {T : Type 0} (number_of : T → ℤ) (x : Named T) → named_eq number_of x x ≡ true
named_own number_of (assigned a) = (signed_Decides (number_of a) (number_of a)).1 refl
named_own number_of (other z) = (signed_Decides z z).1 refl
named_own number_of (text s) = (bytes_eq-Decides s s).1 refl

pub named_Decides : {T : Type 0} {number_of : T → ℤ} {named : ℤ → Option T} → NumbersName number_of named
    → (x y : Named T) → Decides (named_eq number_of x y) (x ≡ y)
named_Decides {number_of = number_of} law x y =
    (named_same law x y, λ e. subst (λ (z : Named _). named_eq number_of x z ≡ true) e (named_own number_of x))

pub named_eq-equivalence : {T : Type 0} {number_of : T → ℤ} {named : ℤ → Option T} → NumbersName number_of named
    → IsEquivalence (named_eq number_of)
named_eq-equivalence {number_of = number_of} law = decided (named_eq number_of) (named_Decides law)
