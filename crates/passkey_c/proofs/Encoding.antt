-- What is written of an encoding, by what is known of it.
use Rattle.std.specs.Prelude.{◌≡◌, ◌++◌, ℕ, List, length, take, drop, Option, None, Some, option_map, Result, Ok, Err, IfOk, IfErr, string_bytes}
use Rattle.std.proofs.Common.{subst, sym, inl, inr, refl}
use Rattle.passkey_c.specs.Values.{Encoded, fits, long, refused, Encoding, IsPut, TellsEncoding}
use Rattle.passkey_c.specs.Values.{IsRejection, IsUnencoded, exhausted, rejected}
use Rattle.passkey_c.specs.declared.encode.Unencoded.{Unencoded}
use Rattle.passkey_catalogue.specs.Rewriting.{IsRefusal}
use Rattle.passkey_catalogue.specs.Values.{StandsFor, values_of}
use Rattle.passkey_catalogue.specs.declared.form.Form.{Form}
use Rattle.passkey_rewrite.specs.Definition.{Definition}
use Rattle.passkey_rewrite.specs.declared.fault.RunFault.{RunFault}

-- The input that the text stands for is refused.
pub unencoded_by : {d : Definition Form} {text : List ℕ} {status : ℕ} {told : Option (List ℕ)} (fault : RunFault)
    (input : List ℕ) → StandsFor (values_of d) text input → IsRefusal d input fault
    → IsRejection d input fault status told → IsUnencoded d text status told
unencoded_by fault input stands refusal rejection = elim rejection [
  | inl h ↦ exhausted h.0 h.1
  | inr h ↦ rejected input stands fault refusal h.0 h.1 h.2
]

module _ {old : Encoding} where
  -- What is put into the output is what is written of a result.
  pub encoded_by : {out : List ℕ} {len status : ℕ} (bytes : List ℕ) → IsPut bytes old.out out len status
      → Encoded (λ b. b ≡ bytes) (λ s t. ⊥) old (record old { out = out; len = len }) status
  encoded_by bytes put = elim put.1 [
    | inl h ↦ fits h.0 bytes refl h.1 (rw (h.2, put.0) refl)
    | inr h ↦ long h.0 bytes refl h.1 (rw (h.2, put.0) refl)
  ]

  -- Nothing is written where there is no text.
  pub untold : (u : Unencoded) → option_map string_bytes u.text ≡ None
      → Encoded (λ b. ⊥) (λ s t. (s ≡ u.status) × (t ≡ option_map string_bytes u.text)) old old u.status
  untold u none = refused None (refl, sym none) refl

  -- The text is written, as much of it as there is room for, and its length.
  pub told_as : (u : Unencoded) {why : List ℕ} {size : ℕ} (text bytes : List ℕ) → option_map string_bytes u.text ≡ Some text
      → bytes ≡ text → why ≡ take (length old.why) bytes ++ drop (length bytes) old.why → size ≡ length bytes
      → Encoded (λ b. ⊥) (λ s t. (s ≡ u.status) × (t ≡ option_map string_bytes u.text)) old
      (record old { why = why; why_size = size }) u.status
  told_as u text bytes some is put size-is =
      refused (Some text) (refl, sym some) (rw (put, size-is, is) refl)

module _ {old new : Encoding} {status : ℕ} where
  -- more is known of the bytes and of the fault
  same_encoded : {P Q : List ℕ → Type 0} {F G : ℕ → Option (List ℕ) → Type 0} → ((b : List ℕ) → P b → Q b)
      → ((s : ℕ) (t : Option (List ℕ)) → F s t → G s t) → Encoded P F old new status → Encoded Q G old new status
  same_encoded p f (fits is bytes wanted room after) = fits is bytes (p bytes wanted) room after
  same_encoded p f (long is bytes wanted room after) = long is bytes (p bytes wanted) room after
  same_encoded p f (refused text fault after) = refused text (f status text fault) after

  pub encoded_of : {A : Type 0} (view : A → List ℕ) (IsWanted : List ℕ → Type 0) (IsFault : ℕ → Option (List ℕ) → Type 0)
      (r : Result A Unencoded) → IfOk r (λ v. IsWanted (view v))
      → IfErr r (λ u. IsFault u.status (option_map string_bytes u.text))
      → TellsEncoding view r old new status → Encoded IsWanted IsFault old new status
  encoded_of view P F (Ok v) ok err tells =
      same_encoded (λ b is. subst P (sym is) ok) (λ s t none. absurd none) tells
  encoded_of view P F (Err u) ok err tells = same_encoded (λ b none. absurd none)
      (λ s t is. subst (λ (n : ℕ). F n t) (sym is.0) (subst (F u.status) (sym is.1) err)) tells
