-- How one more byte changes the state of a number's text.
use Rattle.std.proofs.Common.{◌≡◌, ℕ, zero, suc, pos, ◌+◌, ◌*◌, ◌-◌, ◌<◌, ◌≤◌, ◌^◌, ◌&&◌, Bool, true, false, List, [], ◌∷◌, ◌++◌, ◌==◌, None, length, nat_lt, nat_le, refl, sym, ap, ◌∙◌, append_assoc, arith}
use Rattle.std.specs.Prelude.{neg_ℤ}
use Rattle.std.specs.Char.{is_ascii_digit, digit_value}
use Rattle.std.specs.Int.{IsInRange}
use Rattle.std.specs.List.{position_or_len}
use Rattle.std.specs.Str.Parse.{digits_value_after}
use Rattle.std.proofs.lemmas.Bool.{lt-ltb, leb-true}
use Rattle.std.proofs.lemmas.Bool.Decides.{nat_tests}
use Rattle.std.proofs.lemmas.Str.{digit_value_digit}
use Rattle.passkey_iana.specs.Signed64.{is_signed_64}
use Rattle.passkey_webauthn.specs.NumberText.{is_point, before_point, after_point, whole_64}
use Rattle.passkey_webauthn.specs.NumberState.{number_64, are_digits, whole_after, IsOf}
use Rattle.passkey_webauthn.specs.declared.number_state.Digits.{Digits}
use Rattle.passkey_webauthn.specs.declared.number_state.NumberState.{NumberState}
use Rattle.passkey_webauthn.specs.declared.number_state.NumberState.TheVariants as state

-- ---- the point

-- any other byte is part of the text before the point
pub before_other : (c : ℕ) (cs : List ℕ) → (c == 46) ≡ false → before_point (c ∷ cs) ≡ c ∷ before_point cs
before_other c cs e = let n : 1 + position_or_len is_point cs ≡ suc (position_or_len is_point cs) =
    omega arith in rw (e, n) refl

pub after_other : (c : ℕ) (cs : List ℕ) → (c == 46) ≡ false → after_point (c ∷ cs) ≡ after_point cs
after_other c cs e = let n : 1 + position_or_len is_point cs + 1 ≡ suc (position_or_len is_point cs + 1) =
    omega arith in rw (e, n) refl

-- ---- a number that is too large

digits_more : (ds : List ℕ) (n : ℕ) → n ≤ digits_value_after 10 n ds
digits_more [] n = omega arith
digits_more (c ∷ ds) n = omega (arith, digits_more ds (n * 10 + digit_value c))

unsigned_large : (n : ℕ) → 2 ^ 63 < n → is_signed_64 (pos n) ≡ false
unsigned_large n h = grind (arith, nat_tests)

signed_large : (n : ℕ) → 2 ^ 63 < n → is_signed_64 (neg_ℤ (pos n)) ≡ false
signed_large zero h = absurd (omega arith)
signed_large (suc n) h = grind (arith, nat_tests)

too_large : (is_number is_negative : Bool) (n : ℕ) → 2 ^ 63 < n → number_64 is_number is_negative n ≡ None
too_large false is_negative n h = refl
too_large true true n h = rw (signed_large n h) refl
too_large true false n h = rw (unsigned_large n h) refl

-- ---- one byte more

-- a digit
is_digit : (c : ℕ) → is_ascii_digit c ≡ true → digit_value c ≡ c - 48
is_digit c e =
    let parts : (nat_le 48 c ≡ true) × (nat_le c 57 ≡ true) = both (nat_le 48 c) (nat_le c 57) e in
    let range : IsInRange 48 57 c = (leb-true 48 c parts.0, leb-true c 57 parts.1) in
    omega (arith, range, digit_value_digit c range)
  where
    both : (a b : Bool) → (a && b) ≡ true → (a ≡ true) × (b ≡ true)
    both true b e = (refl, e)
    both false b e = absurd cc

no_point : (c : ℕ) → is_ascii_digit c ≡ true → (c == 46) ≡ false
no_point c e = grind (arith, nat_tests)

one_more : (has : Bool) (c : ℕ) (ds : List ℕ) → is_ascii_digit c ≡ true
    → are_digits has (c ∷ ds) ≡ are_digits true ds
one_more true c ds e = rw e refl
one_more false c ds e = let some : nat_lt 0 (length (c ∷ ds)) ≡ true =
    lt-ltb 0 (length (c ∷ ds)) (omega arith) in rw (e, some) refl

no_digit : (has : Bool) (c : ℕ) (ds : List ℕ) → is_ascii_digit c ≡ false → are_digits has (c ∷ ds) ≡ false
no_digit has c ds e = rw e refl

whole_more : (d : Digits) (c : ℕ) (more : List ℕ) → is_ascii_digit c ≡ true
    → whole_after (state.Whole d) (c ∷ more) ≡ number_64 (are_digits true (before_point more ++ after_point more))
    d.is_negative (digits_value_after 10 (d.whole * 10 + (c - 48)) (before_point more))
whole_more d c more e =
    let other = no_point c e in
    let digits = before_point more ++ after_point more in
    rw (before_other c more other, after_other c more other, one_more d.has_digit c digits e)
    (ap (λ (v : ℕ). number_64 (are_digits true digits) d.is_negative
    (digits_value_after 10 (d.whole * 10 + v) (before_point more))) (is_digit c e))

pub whole_digit : (d e : Digits) (c : ℕ) (more : List ℕ) → is_ascii_digit c ≡ true
    → e ≡ record { is_negative = d.is_negative; whole = d.whole * 10 + (c - 48); has_digit = true }
    → whole_after (state.Whole d) (c ∷ more) ≡ whole_after (state.Whole e) more
whole_digit d e c more digit is =
    whole_more d c more digit ∙ ap (λ (n : Digits). whole_after (state.Whole n) more) (sym is)

pub whole_large : (d : Digits) (c : ℕ) (more : List ℕ) → is_ascii_digit c ≡ true → 922337203685477580 < d.whole
    → whole_after (state.Whole d) (c ∷ more) ≡ None
whole_large d c more digit large =
    whole_more d c more digit ∙ too_large _ d.is_negative _
    (omega (arith, large, digits_more (before_point more) (d.whole * 10 + (c - 48))))

pub whole_other : (d : Digits) (c : ℕ) (more : List ℕ) → (c == 46) ≡ false → is_ascii_digit c ≡ false
    → whole_after (state.Whole d) (c ∷ more) ≡ None
whole_other d c more other e =
    rw (
      before_other c more other,
      after_other c more other,
      no_digit d.has_digit c (before_point more ++ after_point more) e,
    ) refl

-- ---- a text that goes on

pub of_same : (a b : NumberState) (text t : List ℕ) → b ≡ a → t ≡ text → IsOf a text → IsOf b t
of_same a b text t state_is text_is is more =
    ap (λ (u : List ℕ). whole_64 (u ++ more)) text_is ∙ is more
    ∙ ap (λ (s : NumberState). whole_after s more) (sym state_is)

pub of_more : (a b : NumberState) (c : ℕ) (text : List ℕ) → IsOf a text
    → ((more : List ℕ) → whole_after a (c ∷ more) ≡ whole_after b more) → IsOf b (text ++ c ∷ [])
of_more a b c text is step more = ap whole_64 (append_assoc text (c ∷ []) more) ∙ is (c ∷ more) ∙ step more
