use Rattle.std.specs.Option.{IsSomeAnd}
use Rattle.std.specs.Result.{IsErrAnd}
use Rattle.std.proofs.Common.{◌≡◌, ◌<◌, ℕ, List, length, Option, Some, None, Result, refl}
use Rattle.std.proofs.lemmas.Result.{err_from_is_err_and}
use Rattle.passkey_bytes.proofs.bytes.Bytes.try_from.Goals as goal
use Rattle.passkey_bytes.specs.Bytes.{bytes_or_fault, is_memory}
use Rattle.passkey_bytes.specs.Encoding.{base64_bytes, base64url_bytes, first_of}
use Rattle.passkey_bytes.specs.declared.bytes.BytesFault.{BytesFault}
use Rattle.passkey_bytes.specs.declared.bytes.BytesFault.TheVariants.{OutOfMemory}
use Rattle.passkey_memory.specs.Memory.{Answers}

abbrev Reads : Option (List ℕ) → Result (List ℕ) BytesFault → Type 0
Reads o r = Answers is_memory (λ bytes. 0 < length bytes) (λ bytes. bytes) (bytes_or_fault o) r

no_memory : (o other : Option (List ℕ)) (r : Result (List ℕ) BytesFault) → IsSomeAnd o (λ bytes. 0 < length bytes)
    → IsErrAnd r (λ fault. fault ≡ OutOfMemory) → Reads (first_of o other) r
no_memory (Some x) other r long lacks =
    let p = err_from_is_err_and r lacks in
    rw (p.1, p.2) long
no_memory None other r long lacks = absurd long

no_memory_later : (o other : Option (List ℕ)) (r : Result (List ℕ) BytesFault) → None ≡ o
    → IsSomeAnd other (λ bytes. 0 < length bytes) → IsErrAnd r (λ fault. fault ≡ OutOfMemory)
    → Reads (first_of o other) r
no_memory_later o (Some x) r none long lacks = rw (← none) (no_memory (Some x) None r long lacks)
no_memory_later o None r none long lacks = absurd long

pub returns-in-Some : goal.returns-in-Some
returns-in-Some c =
    let e = rw c.in-Some.is at c.in_ok-bytes.ensures.same in
    rw (← e) refl

pub returns-in-Some-2 : goal.returns-in-Some-2
returns-in-Some-2 c =
    let none = rw c.in_default.is at c.in_ok-bytes.ensures.same in
    let e = rw c.in-Some-2.is at c.in_ok-bytes-2.ensures.same in
    rw (← none, ← e) refl

pub returns-in-None : goal.returns-in-None
returns-in-None c =
    let none = rw c.in_default.is at c.in_ok-bytes.ensures.same in
    let e = rw c.in-None.is at c.in_ok-bytes-2.ensures.same in
    rw (← none, ← e) refl

pub returns-in_err-bytes : goal.returns-in_err-bytes
returns-in_err-bytes c =
    no_memory (base64url_bytes c.args.text.now) (base64_bytes c.args.text.now) c.from_residual.result
    c.in_err-bytes.ensures.grows c.from_residual.ensures.1

pub returns-in_err-bytes-2 : goal.returns-in_err-bytes-2
returns-in_err-bytes-2 c =
    no_memory_later (base64url_bytes c.args.text.now) (base64_bytes c.args.text.now)
    c.from_residual-in_err-bytes-2.result (rw c.in_default.is at c.in_ok-bytes.ensures.same)
    c.in_err-bytes-2.ensures.grows c.from_residual-in_err-bytes-2.ensures.1
