-- What is written of a result, by what is known of it.
use Rattle.std.specs.Prelude.{ℕ, List, Result, Ok, Err, IfOk, IfErr}
use Rattle.std.proofs.Common.{subst, sym}
use Rattle.passkey_c.specs.declared.status.Denial.{Denial}
use Rattle.passkey_c.specs.Writing.{Outputs, Writes, written, long, rejected, WritesResult}

module _ {old new : Outputs} {status : ℕ} where
  -- more is known of the bytes and of the fault
  same_written : {P Q : List ℕ → ℕ → Type 0} {F G : Denial → Type 0} → ((s : List ℕ) (n : ℕ) → P s n → Q s n)
      → ((e : Denial) → F e → G e) → Writes P F old new status → Writes Q G old new status
  same_written p f (written is w) = written is (record {
    bytes = w.bytes;
    wanted = p w.bytes new.read w.wanted;
    room = w.room;
    output = w.output;
    size = w.size;
  })
  same_written p f (long is w) = long is (record {
    bytes = w.bytes;
    wanted = p w.bytes new.read w.wanted;
    long = w.long;
    same = w.same;
    size = w.size;
  })
  same_written p f (rejected r) = rejected
      (record { fault = r.fault; cause = f r.fault r.cause; status_is = r.status_is; same = r.same })

  pub writes_of : {A : Type 0} (view : A → List ℕ × ℕ) (IsWanted : List ℕ → ℕ → Type 0) (HasFault : Denial → Type 0)
      (r : Result A Denial) → IfOk r (λ v. IsWanted (view v).0 (view v).1) → IfErr r HasFault
      → WritesResult view r old new status → Writes IsWanted HasFault old new status
  writes_of view P F (Ok v) ok err writes = same_written
      (λ s n is. subst (λ (t : List ℕ). P t n) (sym is.0) (subst (P (view v).0) (sym is.1) ok)) (λ e none. absurd none)
      writes
  writes_of view P F (Err e) ok err writes =
      same_written (λ s n none. absurd none) (λ e is. subst F (sym is) err) writes
