-- What is written of a result, where more is asked of the input.
use Rattle.std.specs.Prelude.{◌≡◌, ℕ, List, Bool, Option, Result, Ok, Err, IfOk, IfErr}
use Rattle.std.proofs.Common.{subst, sym}
use Rattle.passkey_malformed.specs.declared.demands.Demands.{Demands}
use Rattle.passkey_rewrite.specs.declared.fault.RunFault.{RunFault}
use Rattle.passkey_c.specs.Asked.{Admits, IsDenial, IsUnasked, MeetsAsked, WritesAsked}
use Rattle.passkey_c.specs.Writing.{Outputs, WritesResult}
use Rattle.passkey_c.specs.declared.status.Denial.{Denial}
use Rattle.passkey_c.specs.declared.status.Denial.TheVariants as denial
use Rattle.passkey_c.proofs.Writing.{writes_of}

module _ {A : Type 0} (view : A → List ℕ × ℕ) (IsWanted : List ℕ → ℕ → Type 0) (HasFault : RunFault → Type 0)
    (demands : Option Demands) (is_one : Bool) (input : List ℕ) where
  abbrev IsAsked : List ℕ → ℕ → Type 0
  IsAsked s n = IsWanted s n × MeetsAsked demands is_one input n

  abbrev IsDenied : Denial → Type 0
  IsDenied = IsDenial HasFault (IsUnasked IsWanted demands is_one input)

  pub asked_of : {old new : Outputs} {status : ℕ} (made : Result A RunFault) (left : Result A Denial)
      → IfOk made (λ v. IsWanted (view v).0 (view v).1) → IfErr made HasFault
      → Admits view demands is_one input made left → WritesResult view left old new status
      → WritesAsked IsWanted HasFault demands is_one input old new status
  asked_of (Ok v) (Ok w) ok err a writes = writes_of view IsAsked IsDenied (Ok w)
      (subst (λ (p : List ℕ × ℕ). IsWanted p.0 p.1 × MeetsAsked demands is_one input p.1) (sym a.0) (ok, a.1)) tt writes
  asked_of (Ok v) (Err (denial.Fault f)) ok err a writes = absurd a
  asked_of (Ok v) (Err (denial.NotCanonical r)) ok err a writes =
      writes_of view IsAsked IsDenied (Err (denial.NotCanonical r)) tt
      (record { bytes = (view v).0; read = (view v).1; wanted = ok; offset = a.0; unmet = a.1 }) writes
  asked_of (Err f) (Ok w) ok err a writes = absurd a
  asked_of (Err f) (Err (denial.Fault g)) ok err a writes =
      writes_of view IsAsked IsDenied (Err (denial.Fault g)) tt (subst HasFault (sym a) err) writes
  asked_of (Err f) (Err (denial.NotCanonical r)) ok err a writes = absurd a

pub asked_as : {IsWanted : List ℕ → ℕ → Type 0} {HasFault : RunFault → Type 0} {demands given : Option Demands}
    {is_one is_item : Bool} {input : List ℕ} {old new : Outputs} {status : ℕ} → given ≡ demands → is_one ≡ is_item
    → WritesAsked IsWanted HasFault given is_one input old new status
    → WritesAsked IsWanted HasFault demands is_item input old new status
asked_as {IsWanted} {HasFault} {demands} {given} {is_one} {is_item} {input} {old} {new} {status} e f w =
    subst (λ (b : Bool). WritesAsked IsWanted HasFault demands b input old new status) f
    (subst (λ (a : Option Demands). WritesAsked IsWanted HasFault a is_one input old new status) e w)
