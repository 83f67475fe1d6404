-- What is still to be written.
use Rattle.std.proofs.Common.{◌≡◌, ℕ, zero, suc, ◌+◌, ◌-◌, ◌*◌, ◌/◌, ◌%◌}
use Rattle.std.proofs.Common.{◌<◌, List, ◌++◌, ◌∷◌, ◌==◌, true, false, refl, arith, div-lt_iff_lt-mul}
use Rattle.std.proofs.Common.{sym, ap, ◌∙◌, append_assoc, length, drop, [], ◌≤◌}
use Rattle.passkey_cbor.specs.View.{items_view, pairs_view}
use Rattle.passkey_cbor.specs.declared.value.Value.{Value}
use Rattle.std.proofs.lemmas.List.{append-nil, drop_all}
use Rattle.std.proofs.lemmas.Bool.{ne_eqb}
use native.Mathlib.Numerals.{unary_clauses}
use Rattle.passkey_cbor_text.specs.diagnose.Diagnosis.{have_no_items, have_no_pairs, items_text, pairs_text}
use Rattle.passkey_cbor_text.specs.diagnose.FloatText.{digits_after, halved_text, quotient_text}

-- the digits after the point, and those that are still to be written
pub record WritesDigits (left rest whole count first : ℕ) (old new : List ℕ) : Type 0 where
  pub below : rest < whole
  pub written : new ++ digits_after left rest whole ≡ old ++ digits_after count first whole

pub digit_below : (rest whole : ℕ) → rest < whole → rest * 10 / whole < 10
digit_below rest whole h = (div-lt_iff_lt-mul {k = whole} (omega (arith, h))).1 (omega (arith, h))

-- one more digit is written
pub digit_written : (left next rest whole count first byte : ℕ) (old out new : List ℕ) → left ≡ suc next
    → WritesDigits left rest whole count first old out → byte ≡ 48 + rest * 10 / whole → new ≡ out ++ byte ∷ []
    → WritesDigits next (rest * 10 % whole) whole count first old new
digit_written left next rest whole count first byte old out new one_less w is appended = record {
  below = omega (arith, w.below);
  written = ap (λ (s : List ℕ). s ++ digits_after next (rest * 10 % whole) whole) appended
      ∙ append_assoc out (byte ∷ []) (digits_after next (rest * 10 % whole) whole)
      ∙ ap (λ (n : ℕ). out ++ n ∷ digits_after next (rest * 10 % whole) whole) is
      ∙ ap (λ (n : ℕ). out ++ digits_after n rest whole) (sym one_less)
      ∙ w.written;
}

pub halved_step : (n k : ℕ) → 0 < k → (n % 2 == 0) ≡ true → halved_text n k ≡ halved_text (n / 2) (k - 1)
halved_step n zero h e = absurd (omega arith)
halved_step n (suc k) h e = simp unary_clauses (rw e refl)

pub halved_odd : (n k : ℕ) → (n % 2 == 0) ≡ false → halved_text n k ≡ quotient_text n k
halved_odd n zero e = refl
halved_odd n (suc k) e = rw e refl

pub no_items_in : (vs : List Value) → have_no_items (items_view vs) ≡ (length vs == 0)
no_items_in [] = refl
no_items_in (v ∷ vs) = sym (ne_eqb (length (v ∷ vs)) 0 (λ e. omega (arith, e)))

pub no_pairs_in : (vs : List (Value × Value)) → have_no_pairs (pairs_view vs) ≡ (length vs == 0)
no_pairs_in [] = refl
no_pairs_in (v ∷ vs) = sym (ne_eqb (length (v ∷ vs)) 0 (λ e. omega (arith, e)))

-- the text of an array or a map: its opening bracket, what is inside, and its end
pub closed : (bracket : ℕ) (old pushed looped new inside end : List ℕ) → pushed ≡ old ++ bracket ∷ []
    → looped ++ [] ≡ pushed ++ inside → new ≡ looped ++ end → new ≡ old ++ bracket ∷ (inside ++ end)
closed bracket old pushed looped new inside end begun all ended =
    ended
    ∙ ap (λ (s : List ℕ). s ++ end) (sym (append-nil looped) ∙ all ∙ ap (λ (s : List ℕ). s ++ inside) begun)
    ∙ append_assoc (old ++ bracket ∷ []) inside end ∙ append_assoc old (bracket ∷ []) (inside ++ end)

-- nothing is left to be written
pub items_done : (vs : List Value) (i : ℕ) (out before inner all : List ℕ) → length vs ≤ i
    → out ++ items_text (items_view (drop i vs)) before inner ≡ all → out ++ [] ≡ all
items_done vs i out before inner all h e =
    ap (λ (rest : List Value). out ++ items_text (items_view rest) before inner) (sym (drop_all i vs h)) ∙ e

pub pairs_done : (ps : List (Value × Value)) (i : ℕ) (out before inner all : List ℕ) → length ps ≤ i
    → out ++ pairs_text (pairs_view (drop i ps)) before inner ≡ all → out ++ [] ≡ all
pairs_done ps i out before inner all h e =
    ap (λ (rest : List (Value × Value)). out ++ pairs_text (pairs_view rest) before inner) (sym (drop_all i ps h)) ∙ e
