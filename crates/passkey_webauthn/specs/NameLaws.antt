-- Each value is found by its own name; a value is found by its name as by the name's index.
use denote.Bor.{Bor}
use Rattle.std.proofs.Common.{◌≡◌, ℕ, ◌+◌, ◌<◌, ◌≤◌, suc, add-one, arith, List, [], ◌∷◌, ◌++◌, cond, Option, Some, None, get_or, length, map, position, nat_lt, set, slice_get, option_map, refl, take}
use Rattle.std.proofs.Math.Seq.{take-suc}
use Rattle.std.proofs.lemmas.Bool.{cases_lt}
use Rattle.std.proofs.lemmas.Bool.Decides.{nat_tests}
use Rattle.std.proofs.lemmas.List.{length-map, map_push, take_more_set}
use Rattle.std.proofs.lemmas.Option.{slice_get-map, slice_get_past, slice_get_read}
use Rattle.std.specs.List.{position_or_len}
use Rattle.std.specs.Str.{bytes_eq}
use Rattle.passkey_webauthn.specs.CredentialType.{credential_type_name, credential_type_named}
use Rattle.passkey_webauthn.specs.Names.{Names, row_of, texts, value_at, value_in}
use Rattle.passkey_webauthn.specs.Transport.{transport_name, transport_named}
use Rattle.passkey_webauthn.specs.declared.credential_type.PublicKeyCredentialType.{PublicKeyCredentialType}
use Rattle.passkey_webauthn.specs.declared.credential_type.PublicKeyCredentialType.TheVariants as kind
use Rattle.passkey_webauthn.specs.declared.transport.AuthenticatorTransport.{AuthenticatorTransport}
use Rattle.passkey_webauthn.specs.declared.transport.AuthenticatorTransport.TheVariants as transport

pub credential_type_own : (t : PublicKeyCredentialType) → credential_type_named (credential_type_name t) ≡ Some t
credential_type_own kind.PublicKey = refl
credential_type_own kind.Unknown = refl

pub transport_own : (t : AuthenticatorTransport) → transport_named (transport_name t) ≡ Some t
transport_own transport.Usb = refl
transport_own _ = refl

-- ---- the value at the index of its name

one_and : (k : ℕ) → 1 + k ≡ suc k
one_and k = omega arith

at_first : {T : Type 0} (s : List ℕ) (ns : Names T)
    → option_map (λ n. n.1) (slice_get ns (position_or_len (λ n. bytes_eq n s) (texts ns))) ≡ value_in ns s
at_first s [] = refl
at_first s (n ∷ ns) = grind (arith, one_and, at_first s ns)

within : {T : Type 0} (ns : Names T) (k len : ℕ) → len ≡ length ns
    → value_at ns (cond (nat_lt k len) (Some k) None) ≡ option_map (λ n. n.1) (slice_get ns k)
within ns k len same = grind (arith, cases_lt, slice_get_past, nat_tests)

pub value_of_name : {T : Type 0} (s : List ℕ) (ns : Names T)
    → value_at ns (position (λ n. bytes_eq n s) (texts ns)) ≡ value_in ns s
value_of_name s ns = grind (arith, within, length-map, at_first)

-- ---- the rows of a table in code

module _ {T : Type 0} (rows : List (Bor (List ℕ) × T)) where
  -- the names of one more row, in a longer list
  pub one_more_text : (names : List (Bor (List ℕ))) (i : ℕ) (name : Bor (List ℕ)) (d : Bor (List ℕ) × T)
      → i < length rows → i < length names → name.now ≡ (get_or rows i d).0.now
      → map (λ (n : Bor (List ℕ)). n.now) (take i names) ≡ texts (map row_of (take i rows))
      → map (λ (n : Bor (List ℕ)). n.now) (take (i + 1) (set names i name)) ≡ texts (map row_of (take (i + 1) rows))
  one_more_text names i name d less within is before =
      rw (take_more_set names i name within, add-one, take-suc rows i d less)
      (simp map_push (λ j. before j ++ is j ∷ []))

  module _ (i : Option ℕ) (k : ℕ) (is : i ≡ Some k) where
    pub row_there : (row : Bor (List ℕ) × T) → k < length rows → row ≡ get_or rows k row
        → Some row.1 ≡ value_at (map row_of rows) i
    row_there row less e =
        rw (is, slice_get-map row_of rows k, slice_get_read rows (length rows) k row refl less e) refl

    pub row_missing : length rows ≤ k → None ≡ value_at (map row_of rows) i
    row_missing past = rw (is, slice_get-map row_of rows k, slice_get_past rows k past) refl
