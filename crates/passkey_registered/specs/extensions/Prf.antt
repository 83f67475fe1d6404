-- Inputs and outputs of the extension prf, as browsers send them to authenticators (WebAuthn Level 3, section 10.1.4).
use Rattle.std.specs.Prelude.{[], ◌∷◌, ◌≡◌, ℕ, List, None, codes, length, replicate}
use Rattle.passkey_registered.specs.declared.extensions.prf.PrfInputs.{PrfInputs}
use Rattle.passkey_registered.specs.declared.extensions.prf.PrfOutputs.{PrfOutputs}
use Rattle.passkey_registered.specs.declared.extensions.prf.PrfValues.{PrfValues}
use Rattle.passkey_kinds.specs.Coded.{byte_map, sized_bytes, truth}
use Rattle.passkey_kinds.specs.Words.{Coded, PlainTable, byte_string, optional_as, optional_as_or, plain, required_as}

-- exactly 32 bytes, encoded as a byte string
abbrev pub prf_value : Coded (List ℕ)
prf_value = record { typed = (sized_bytes 32).typed; tree = byte_string; Fits = λ s. length s ≡ 32 }

abbrev pub prf_values : PlainTable PrfValues
prf_values = record {
  blank = record { first = replicate 32 0; second = None };
  members = required_as 1 (codes "first") prf_value (λ v. v.first) (λ x v. record v { first = x })
      ∷ optional_as 2 (codes "second") prf_value (λ v. v.second) (λ x v. record v { second = x })
      ∷ [];
}

-- the second name of the salts by credential ids is that of earlier platforms
abbrev pub prf_inputs : PlainTable PrfInputs
prf_inputs = record {
  blank = record { eval = None; eval_by_credential = None };
  members = optional_as 1 (codes "eval") (plain prf_values) (λ i. i.eval) (λ x i. record i { eval = x })
      ∷ optional_as_or 2 (codes "evalByCredential") (codes "eval_by_credential") (byte_map (plain prf_values))
      (λ i. i.eval_by_credential) (λ x i. record i { eval_by_credential = x })
      ∷ [];
}

abbrev pub prf_outputs : PlainTable PrfOutputs
prf_outputs = record {
  blank = record { enabled = None; results = None };
  members = optional_as 1 (codes "enabled") truth (λ r. r.enabled) (λ x r. record r { enabled = x })
      ∷ optional_as 2 (codes "results") (plain prf_values) (λ r. r.results) (λ x r. record r { results = x })
      ∷ [];
}
