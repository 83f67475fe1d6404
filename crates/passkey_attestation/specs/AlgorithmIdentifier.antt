-- COSE algorithm identifiers, registered or not (WebAuthn Level 3, section 5.8.5).
use Rattle.std.specs.Prelude.{ℤ, ◌≡◌, true, option_map}
use Rattle.passkey_attestation.specs.declared.algorithm_identifier.AlgorithmIdentifier.{AlgorithmIdentifier}
use Rattle.passkey_iana.specs.Signed64.{is_signed_64}
use Rattle.passkey_kinds.specs.Placed.{Coded}
use Rattle.passkey_kinds.specs.Reader.{signed_in}
use Rattle.passkey_kinds.specs.Typed.{fixed}
use Rattle.passkey_kinds.specs.Words.{Item, Typed, number}
use Rattle.passkey_kinds.specs.declared.wanted.Wanted.TheVariants as wanted

abbrev pub identifier_of : ℤ → AlgorithmIdentifier
identifier_of z = record { 0 = z }

-- any integer that fits in 64 bits
abbrev pub signed : Typed AlgorithmIdentifier
signed = fixed 1 wanted.Algorithm (λ i. option_map identifier_of (signed_in i))

abbrev pub identifier_tree : AlgorithmIdentifier → Item
identifier_tree a = number a.0

abbrev pub algorithm_identifier : Coded AlgorithmIdentifier
algorithm_identifier = record { typed = signed; tree = identifier_tree; Fits = λ a. is_signed_64 a.0 ≡ true }
