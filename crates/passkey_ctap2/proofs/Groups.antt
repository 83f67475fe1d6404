-- Tables of members in groups: a number that no member of the first group has leads to the members after it.
use Rattle.passkey_kinds.proofs.Steps.{◌≡◌, ◌==◌, ◌++◌, ℕ, Bool, List, Result, Item, false, arith, refl}
use Rattle.std.specs.Prelude.{[], ◌∷◌}
use Rattle.passkey_kinds.specs.Placed.{Placed, fields_with, members_of}
use Rattle.passkey_kinds.specs.Record.{accepts_at, put_at, rows_of, takes_at}
use Rattle.passkey_kinds.specs.RecordReading.{Puts}
use Rattle.passkey_kinds.specs.declared.fault.Refusal.{Refusal}

module _ {P : Type 0} where
  -- none of the members has the number
  abbrev pub IsNone : List (Placed P) → ℕ → Type 0
  IsNone [] n = Unit {0}
  IsNone (m ∷ ms) n = ((m.member.entry.number == n) ≡ false) × IsNone ms n

  -- what these tables say of the number is what the members after it say
  abbrev SameAfter : List (Placed P) → List (Placed P) → ℕ → Type 0
  SameAfter ms rest n =
      ((i : Item) → accepts_at (rows_of (members_of (ms ++ rest))) n i ≡ accepts_at (rows_of (members_of rest)) n i)
      × ((i : Item) (old : P) → put_at (members_of (ms ++ rest)) n i old ≡ put_at (members_of rest) n i old)
      × (takes_at (rows_of (members_of (ms ++ rest))) n ≡ takes_at (rows_of (members_of rest)) n)

  same_after : (ms rest : List (Placed P)) (n : ℕ) → IsNone ms n → SameAfter ms rest n
  same_after [] rest n none = (λ i. refl, λ i old. refl, refl)
  same_after (m ∷ ms) rest n none = rw none.0 (same_after ms rest n none.1)

  pub puts_after : (is_numbered : Bool) (blank : P) (ms rest : List (Placed P)) (n : ℕ) (i : Item) (old new : P)
      (result : Result (Unit {0}) Refusal) → IsNone ms n
      → Puts (fields_with is_numbered blank rest) n i old new result
      → Puts (fields_with is_numbered blank (ms ++ rest)) n i old new result
  puts_after is_numbered blank ms rest n i old new result none h =
      let same = same_after ms rest n none in grind (arith, same.0 i, same.1 i old, same.2)
