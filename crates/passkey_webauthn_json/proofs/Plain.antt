-- Texts that a JSON string has as they are.
use Rattle.std.proofs.Common.{◌≡◌, ◌∙◌, ℕ, ◌==◌, ◌||◌, nat_lt, Bool, true, false, List, [], ◌∷◌, ◌++◌, append_assoc, true≢false, refl, ap, sym}
use Rattle.std.proofs.lemmas.Bool.{and_parts, eqb-true, not-true, or_parts}
use Rattle.std.specs.List.{list_all}
use Rattle.json.specs.Print.{escape, escape_byte}
use Rattle.passkey_webauthn_json.specs.client_data.ClientDataText.{is_plain}
use Rattle.serde_json.specs.Data.{string}
use Rattle.serde_json.specs.Written.{compact_text}

is_other : (b : Bool) (x k : ℕ) → (x == k) ≡ b → nat_lt x 32 ≡ false → nat_lt k 32 ≡ true → b ≡ false
is_other false x k same high low = refl
is_other true x k same high low =
    absurd (true≢false (sym low ∙ ap (λ (n : ℕ). nat_lt n 32) (sym (eqb-true x k same)) ∙ high))

plain_byte : (x : ℕ) → nat_lt x 32 ≡ false → (x == 34) ≡ false → (x == 92) ≡ false → escape_byte x ≡ x ∷ []
unfolding escape_byte
plain_byte x high quote backslash = rw (
  quote,
  backslash,
  is_other (x == 8) x 8 refl high refl,
  is_other (x == 12) x 12 refl high refl,
  is_other (x == 10) x 10 refl high refl,
  is_other (x == 13) x 13 refl high refl,
  is_other (x == 9) x 9 refl high refl,
  high,
) refl

pub plain_text : (s : List ℕ) → list_all is_plain s ≡ true → escape s ≡ s
plain_text [] plain = refl
plain_text (x ∷ xs) plain =
    let parts = and_parts (is_plain x) (list_all is_plain xs) plain in
    let either = or_parts (nat_lt x 32 || (x == 34)) (x == 92) (not-true _ parts.0) in
    let low = or_parts (nat_lt x 32) (x == 34) either.0 in
    rw (plain_byte x low.0 low.1 either.1, plain_text xs parts.1) refl

pub plain_string : (front s : List ℕ) → list_all is_plain s ≡ true
    → ((front ++ 34 ∷ []) ++ s) ++ 34 ∷ [] ≡ front ++ compact_text (string s)
plain_string front s plain = rw (plain_text s plain)
    (append_assoc (front ++ 34 ∷ []) s (34 ∷ []) ∙ append_assoc front (34 ∷ []) (s ++ 34 ∷ []))
