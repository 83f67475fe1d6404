-- The names of the transports (WebAuthn Level 3, section 5.8.4).
use Rattle.std.specs.Prelude.{ℕ, List, [], ◌∷◌, Option, codes}
use Rattle.passkey_webauthn.specs.Names.{Names, own_name, value_in}
use Rattle.passkey_webauthn.specs.contracts.transport.AuthenticatorTransport.{the_type}
use Rattle.passkey_webauthn.specs.declared.transport.AuthenticatorTransport.{AuthenticatorTransport}
use Rattle.passkey_webauthn.specs.declared.transport.AuthenticatorTransport.TheVariants as transport

-- `cable` is an earlier name
abbrev pub transports : Names AuthenticatorTransport
transports = (codes "usb", transport.Usb)
    ∷ (codes "nfc", transport.Nfc)
    ∷ (codes "ble", transport.Ble)
    ∷ (codes "hybrid", transport.Hybrid)
    ∷ (codes "internal", transport.Internal)
    ∷ (codes "cable", transport.Hybrid)
    ∷ []

abbrev pub transport_name : AuthenticatorTransport → List ℕ
transport_name = own_name the_type transports

abbrev pub transport_named : List ℕ → Option AuthenticatorTransport
transport_named = value_in transports
