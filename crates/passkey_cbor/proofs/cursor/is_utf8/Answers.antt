use Rattle.std.proofs.Common.{◌≡◌, ◌∙◌, sym, List, ℕ, Bool, true, false, Result, Ok, Err, refl}
use Rattle.std.specs.Result.{MatchResult, is_ok}
use Rattle.std.specs.Str.{IsUtf8, is_utf8}
use Rattle.std.proofs.lemmas.Str.{IsUtf8-from_is_utf8, is_utf8-from_IsUtf8}
use Rattle.passkey_cbor.proofs.cursor.is_utf8.Goals as goal

not_utf8 : (bytes : List ℕ) (b : Bool) → is_utf8 bytes ≡ b → ¬ IsUtf8 bytes → false ≡ b
not_utf8 bytes false e n = refl
not_utf8 bytes true e n = absurd (n (IsUtf8-from_is_utf8 bytes e))

utf8_test : {T E : Type 0} (bytes : List ℕ) (r : Result T E) (P : T → Type 0) (Q : E → Type 0)
    → MatchResult r (λ s. P s × IsUtf8 bytes) (λ e. ¬ IsUtf8 bytes × Q e) → is_ok r ≡ is_utf8 bytes
utf8_test bytes (Ok s) P Q m = sym (is_utf8-from_IsUtf8 bytes m.1)
utf8_test bytes (Err e) P Q m = not_utf8 bytes (is_utf8 bytes) refl m.0

pub returns : goal.returns
returns c = c.is_ok.ensures.value ∙ utf8_test c.args.bytes.now c.from_utf8.result _ _ c.from_utf8.ensures.cases
