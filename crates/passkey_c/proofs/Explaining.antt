-- What is written of a verdict, by what is known of it.
use Rattle.std.specs.Prelude.{ℕ, List, Result, Ok, Err, IfOk}
use Rattle.passkey_c.specs.Explaining.{Memory, Explaining, accepted, exhausted, told, IsVerdict, TellsResult}
use Rattle.passkey_c.specs.declared.verdict.Refusal.{Refusal}
use Rattle.passkey_c.specs.declared.verdict.Verdict.{Verdict}
use Rattle.passkey_c.specs.declared.verdict.Verdict.TheVariants as verdict

pub explains_of : {old new : Memory} {status : ℕ} {E : Type 0} (Accepts : ℕ → Type 0)
    (Tells : ℕ → Refusal → List ℕ → Type 0) (r : Result Verdict E) → IfOk r (IsVerdict Accepts Tells)
    → TellsResult r old new status → Explaining Accepts Tells old new status
explains_of A T (Ok (verdict.Accepted n)) ok is = accepted is.0 n ok is.1
explains_of {old} {new} {status} A T (Ok (verdict.Refused r)) ok is = told (record {
  text = is.text;
  tells = rw (is.tells.0, is.tells.1, is.tells.2) ok;
  output = is.output;
  size = is.size;
  same = is.same;
})
explains_of A T (Err e) ok is = exhausted is.0 is.1
