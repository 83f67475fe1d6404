-- What a call that writes bytes returns, and leaves in the caller's memory.
use Rattle.std.specs.Prelude.{◌≡◌, ℕ, ◌<◌, ◌≤◌, List, ◌++◌, drop, length, Result, Ok, Err}
use Rattle.passkey_c.specs.Statuses.{denial_status}
use Rattle.passkey_c.specs.declared.status.Denial.{Denial}

-- What the caller's memory holds: how many bytes of the input were decoded, the output, and the length of what is written.
pub record Outputs : Type 0 where
  pub read : ℕ
  pub out : List ℕ
  pub len : ℕ

-- The output begins with the bytes that are wanted, for so many of the input's, and is the same after them.
pub record IsWritten (IsWanted : List ℕ → ℕ → Type 0) (old new : Outputs) : Type 0 where
  pub bytes : List ℕ
  pub wanted : IsWanted bytes new.read
  pub room : length bytes ≤ length old.out
  pub output : new.out ≡ bytes ++ drop (length bytes) old.out
  pub size : new.len ≡ length bytes

-- The bytes that are wanted have this length, which is more than the output has; the output is unchanged.
pub record IsTooLong (IsWanted : List ℕ → ℕ → Type 0) (old new : Outputs) : Type 0 where
  pub bytes : List ℕ
  pub wanted : IsWanted bytes new.read
  pub long : length old.out < length bytes
  pub same : new.out ≡ old.out
  pub size : new.len ≡ length bytes

-- The input has this fault, or isn't as is asked, and the status says so; nothing is written.
pub record IsRejected (HasFault : Denial → Type 0) (old new : Outputs) (status : ℕ) : Type 0 where
  pub fault : Denial
  pub cause : HasFault fault
  pub status_is : status ≡ denial_status fault
  pub same : new ≡ old

-- Status 0 with the bytes, status 1 with their length, or the status of a fault, which is 2 or at least 16.
pub data Writes (IsWanted : List ℕ → ℕ → Type 0) (HasFault : Denial → Type 0) (old new : Outputs) (status : ℕ)
    : Type 0 where
  written : status ≡ 0 → IsWritten IsWanted old new → Writes IsWanted HasFault old new status
  long : status ≡ 1 → IsTooLong IsWanted old new → Writes IsWanted HasFault old new status
  rejected : IsRejected HasFault old new status → Writes IsWanted HasFault old new status

-- Nothing is written where there is no such kind.
abbrev pub IsUnknown : Outputs → Outputs → ℕ → Type 0
IsUnknown old new status = (status ≡ 3) × (new ≡ old)

-- what is written of a result: of the bytes, and how many of the input's they are made from
abbrev pub WritesResult : {A : Type 0} → (A → List ℕ × ℕ) → Result A Denial → Outputs → Outputs → ℕ → Type 0
WritesResult view (Ok v) old new status =
    Writes (λ s n. (s ≡ (view v).0) × (n ≡ (view v).1)) (λ e. ⊥) old new status
WritesResult view (Err fault) old new status = Writes (λ s n. ⊥) (λ e. e ≡ fault) old new status
