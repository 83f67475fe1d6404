-- What is decoded as a structure that has one encoding is encoded as the bytes that it was decoded from.
use Rattle.std.proofs.Common.{◌≡◌, ℕ, List, Option, Some, sym}
use Rattle.passkey_catalogue.specs.Rewriting.{RewritesStructure}

pub bytes_again : {P : Type 0} (read : List ℕ → Option P) (encoded : P → List ℕ) (bytes out : List ℕ) (p : P)
    → Some p ≡ read bytes → (read bytes ≡ Some p → encoded p ≡ bytes) → out ≡ bytes
    → RewritesStructure read encoded bytes out
bytes_again read encoded bytes out p reads same is =
    record { parts = p; reads = sym reads; rewritten = rw is (sym (same (sym reads))) }
