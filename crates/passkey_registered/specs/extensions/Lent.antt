-- Extension inputs and outputs, decoded from the messages that hold them (CTAP 2.3, sections 6.1 and 6.2).
use Rattle.std.specs.Prelude.{◌≡◌, ℕ, List, Option, Some, None, Result, Ok, Err}
use Rattle.passkey_kinds.specs.LentItem.{LendsMember}
use Rattle.passkey_kinds.specs.Message.{Begins, ReadsMessage}
use Rattle.passkey_kinds.specs.Record.{Table}
use Rattle.passkey_kinds.specs.Words.{Item}
use Rattle.passkey_kinds.specs.declared.fault.Fault.{Fault}

-- the result of decoding the encoding of a member that may be absent
abbrev pub ReadsLent : {A M : Type 0} → (A → M) → (Item → Result M Fault) → Option (List ℕ) → Result (Option A) Fault
    → Type 0
ReadsLent view read None result = result ≡ Ok None
ReadsLent view read (Some bytes) (Ok None) = ⊥
ReadsLent view read (Some bytes) (Ok (Some x)) = Begins bytes (λ i len. read i ≡ Ok (view x))
ReadsLent view read (Some bytes) (Err e) = ReadsMessage view read bytes (Err e)

-- the same for row n of the message at the beginning of the bytes
abbrev pub ReadsMember : {A M : Type 0} → Table → ℕ → List ℕ → (A → M) → (Item → Result M Fault)
    → Result (Option A) Fault → Type 0
ReadsMember table n bytes view read result =
    (lent : Option (List ℕ)) × (LendsMember table n bytes lent × ReadsLent view read lent result)
