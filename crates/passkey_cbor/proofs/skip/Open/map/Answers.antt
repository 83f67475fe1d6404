use Rattle.std.proofs.Common.{◌≡◌, ◌⊎◌, ◌*◌, ◌<◌, Option, ℕ, length, ap, sym, ◌∙◌, arith, inl, inr}
use Rattle.std.proofs.lemmas.Bool.{cases_lt}
use Rattle.passkey_cbor.specs.Courses.{pairs_course}
use Rattle.passkey_cbor.proofs.skipping.Courses.{open_map, open_pairs}
use Rattle.passkey_cbor.proofs.skip.Open.map.Goals as goal

pub returns-in-Some : goal.returns-in-Some
returns-in-Some c levels bytes few =
    let n = c.in-Some.len in
    let m = c.saturating_mul.result in
    let fits : (m ≡ n * 2) ⊎ ((length bytes < m) × (length bytes < n * 2)) =
    elim (cases_lt 18446744073709551615 (n * 2)) [ inl lt ↦ inr (omega arith, omega arith) | inr le ↦ inl (omega arith) ] in
    open_map levels n m bytes fits ∙ ap (λ (l : Option ℕ). pairs_course levels l bytes) (sym c.in-Some.is)

pub returns-in-None : goal.returns-in-None
returns-in-None c levels bytes few = open_pairs levels bytes
    ∙ ap (λ (l : Option ℕ). pairs_course levels l bytes) (sym c.in-None.is)
