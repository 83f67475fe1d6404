-- Each byte has exactly one status: a test of every byte.
use Rattle.std.specs.Cmp.{unsigned_Decides}
use Rattle.std.specs.Option.{option_to_list}
use Rattle.std.proofs.Common.{arith, ◌≡◌, ◌==◌, ◌<◌, ◌∙◌, ℕ, Bool, true, false, List, [], ◌∷◌, ◌++◌, length, Some, None, option_map, if◌then◌else◌, refl, sym, ap, append_assoc, zero, suc, ◌&&◌, subst}
use Rattle.std.proofs.lemmas.Bool.{and_parts}
use Rattle.std.proofs.lemmas.Bool.Decides.{nat_tests}
use Rattle.passkey_core.specs.declared.status.ctap2_error.Ctap2Error.{Ctap2Error}
use Rattle.passkey_core.specs.declared.status.StatusCode.{StatusCode}
use Rattle.passkey_core.specs.declared.status.StatusCode.TheVariants as status
use Rattle.passkey_core.specs.StatusBytes.{is_in, unassigned, extension, vendor}
use Rattle.passkey_core.specs.Statuses.{ctap2_error, code_in, statuses, IsStatus}
use Rattle.passkey_core.proofs.StatusTable.{ctap2_error_has}

-- a test of every number below this one
abbrev holds_below : (ℕ → Bool) → ℕ → Bool
holds_below p zero = true
holds_below p (suc n) = p n && holds_below p n

holds_at : (p : ℕ → Bool) (n k : ℕ) → holds_below p n ≡ true → k < n → p k ≡ true
holds_at p zero k h small = absurd (omega (arith, small))
holds_at p (suc n) k h small =
    let parts = and_parts (p n) (holds_below p n) h in
    (elim (k == n) as (λ (b : Bool). (k == n) ≡ b → p k ≡ true) [
      | true ↦ λ e. subst (λ (m : ℕ). p m ≡ true) (sym ((unsigned_Decides k n).0 e)) parts.0
      | false ↦ λ e. holds_at p n k parts.1 (grind (arith, nat_tests, e, small))
    ]) refl

abbrev has_one : ℕ → Bool
has_one byte = length (statuses byte) == 1

one : (byte : ℕ) → byte < 256 → length (statuses byte) ≡ 1
one byte small = (unsigned_Decides (length (statuses byte)) 1).0 (holds_at has_one 256 byte refl small)

-- an element of a list of length one is the whole list
alone : (before : List StatusCode) (x : StatusCode) (after : List StatusCode) → length (before ++ x ∷ after) ≡ 1
    → before ++ x ∷ after ≡ x ∷ []
alone [] x [] h = refl
alone [] x (y ∷ ys) h = absurd (omega arith)
alone (y ∷ []) x after h = absurd (omega arith)
alone (y ∷ z ∷ zs) x after h = absurd (omega arith)

-- the code of a byte in ranges is that byte
code_in_has : (ranges : List (ℕ × ℕ)) (byte x : ℕ) → code_in ranges byte ≡ Some x → x ≡ byte
code_in_has ranges byte x =
    elim (is_in ranges byte) as (λ (t : Bool). (if t then Some byte else None) ≡ Some x → x ≡ byte) [
      | true ↦ λ h. cc
      | false ↦ λ h. cc
    ]

alone_as : {xs : List StatusCode} (before : List StatusCode) (x : StatusCode) (after : List StatusCode)
    → xs ≡ before ++ x ∷ after → length xs ≡ 1 → xs ≡ x ∷ []
alone_as before x after e h = e ∙ alone before x after (ap length (sym e) ∙ h)

module _ (byte : ℕ) (small : byte < 256) where
  abbrev k : List StatusCode
  k = option_to_list (option_map status.Known (ctap2_error byte))

  abbrev o : List StatusCode
  o = option_to_list (option_map status.Other (code_in unassigned byte))

  abbrev e : List StatusCode
  e = option_to_list (option_map status.Extension (code_in extension byte))

  abbrev v : List StatusCode
  v = option_to_list (option_map status.Vendor (code_in vendor byte))

  pub known_is : (error : Ctap2Error) → ctap2_error byte ≡ Some error → IsStatus byte (status.Known error)
  known_is error is =
      let here : k ≡ status.Known error ∷ [] = ap (λ c. option_to_list (option_map status.Known c)) is in (
        alone_as [] (status.Known error) (o ++ e ++ v) (ap (λ xs. xs ++ o ++ e ++ v) here) (one byte small),
        ctap2_error_has byte error is,
      )

  pub other_is : (x : ℕ) → code_in unassigned byte ≡ Some x → IsStatus byte (status.Other x)
  other_is x is =
      let here : o ≡ status.Other x ∷ [] = ap (λ c. option_to_list (option_map status.Other c)) is in
      let before : k ++ o ++ e ++ v ≡ k ++ (status.Other x ∷ []) ++ e ++ v = ap (λ xs. k ++ xs ++ e ++ v) here in (
        alone_as k (status.Other x) (e ++ v) (before ∙ append_assoc (k ++ status.Other x ∷ []) e v
            ∙ append_assoc k (status.Other x ∷ []) (e ++ v)) (one byte small),
        code_in_has unassigned byte x is,
      )

  pub extension_is : (x : ℕ) → code_in extension byte ≡ Some x → IsStatus byte (status.Extension x)
  extension_is x is =
      let here : e ≡ status.Extension x ∷ [] = ap (λ c. option_to_list (option_map status.Extension c)) is in (
        alone_as (k ++ o) (status.Extension x) v (ap (λ xs. k ++ o ++ xs ++ v) here
            ∙ append_assoc (k ++ o) (status.Extension x ∷ []) v) (one byte small),
        code_in_has extension byte x is,
      )

  pub vendor_is : (x : ℕ) → code_in vendor byte ≡ Some x → IsStatus byte (status.Vendor x)
  vendor_is x is =
      let here : v ≡ status.Vendor x ∷ [] = ap (λ c. option_to_list (option_map status.Vendor c)) is in (
        alone_as (k ++ o ++ e) (status.Vendor x) [] (ap (λ xs. k ++ o ++ e ++ xs) here) (one byte small),
        code_in_has vendor byte x is,
      )

  -- a byte that has no name and is in neither other class
  pub left_is_unassigned : ctap2_error byte ≡ None → code_in extension byte ≡ None → code_in vendor byte ≡ None
      → is_in unassigned byte ≡ true
  left_is_unassigned no_name no_extension no_vendor =
      (elim (is_in unassigned byte) as (λ (t : Bool). is_in unassigned byte ≡ t → is_in unassigned byte ≡ true) [
        | true ↦ λ h. h
        | false ↦ λ h.
            let no_code : code_in unassigned byte ≡ None = ap (λ (t : Bool). if t then Some byte else None) h in
            let nothing : k ++ o ++ e ++ v ≡ [] = rw (no_name, no_code, no_extension, no_vendor) in
            absurd (omega (arith, one byte small, ap length nothing))
      ]) refl
