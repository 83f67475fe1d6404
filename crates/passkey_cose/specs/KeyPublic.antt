-- What a public key of each type consists of, among its parameters that aren't common.
use Rattle.std.specs.Prelude.{ℤ, ℕ, negsuc, Bool, if◌then◌else◌, List, Option, Some, None, option_map}
use Rattle.std.specs.Option.{option_and_then}
use Rattle.passkey_cbor.specs.Item.{Item, number}
use Rattle.passkey_iana.specs.Iana.{key_type_number}
use Rattle.passkey_iana.specs.Signed64.{is_signed_64}
use Rattle.passkey_iana.specs.declared.key_type.KeyType.{KeyType}
use Rattle.passkey_iana.specs.declared.key_type.KeyType.TheVariants.{OKP, EC2, RSA}
use Rattle.passkey_cose.specs.KeyLabels.{value_at}
use Rattle.passkey_cose.specs.KeyParts.{KeyParts}
use Rattle.passkey_cose.specs.KeyReading.{bytes_in}
use Rattle.passkey_cose.specs.Registered.{assigned, named_eq}

-- the other parameter with this label, as a number of 64 signed bits or as a byte string
abbrev pub signed_64_in : Item → Option ℤ
signed_64_in (number z) = if is_signed_64 z then Some z else None
signed_64_in _ = None

abbrev pub number_param : ℤ → KeyParts → Option ℤ
number_param label k = option_and_then signed_64_in (value_at (number label) k.params)

abbrev pub bytes_param : ℤ → KeyParts → Option (List ℕ)
bytes_param label k = option_and_then bytes_in (value_at (number label) k.params)

-- both values, if both are there
abbrev pub both : {A B : Type 0} → Option A → Option B → Option (A × B)
both a b = option_and_then (λ x. option_map (λ y. (x, y)) b) a

abbrev pub is_of : KeyType → KeyParts → Bool
is_of t k = named_eq key_type_number k.kty (assigned t)

-- the curve, x and y (RFC 9053, section 7.1.1)
abbrev pub ec2_parts : KeyParts → Option (ℤ × (List ℕ × List ℕ))
ec2_parts k = if is_of EC2 k
    then both (number_param (negsuc 0) k) (both (bytes_param (negsuc 1) k) (bytes_param (negsuc 2) k))
    else None

-- the curve and x (RFC 9053, section 7.2)
abbrev pub okp_parts : KeyParts → Option (ℤ × List ℕ)
okp_parts k = if is_of OKP k then both (number_param (negsuc 0) k) (bytes_param (negsuc 1) k) else None

-- the modulus n and the public exponent e (RFC 8230, section 4)
abbrev pub rsa_parts : KeyParts → Option (List ℕ × List ℕ)
rsa_parts k = if is_of RSA k then both (bytes_param (negsuc 0) k) (bytes_param (negsuc 1) k) else None
