-- Names in IANA's COSE registries: "COSE Algorithms", "COSE Key Types" and "COSE Elliptic Curves".
use Rattle.std.specs.Prelude.{ℕ, ℤ, pos, List, [], ◌∷◌, if◌then◌else◌, Option, Some, None, codes}
use Rattle.std.specs.Borrow.{Bor}
use Rattle.std.specs.Str.{bytes_eq}
use Rattle.passkey_iana.specs.declared.algorithm.Algorithm.{Algorithm}
use Rattle.passkey_iana.specs.declared.algorithm.Algorithm.TheVariants as algorithm

abbrev pub Row : Type 0 → Type 0
Row T = List ℕ × T

-- a row of the code's table
abbrev pub row_of : {T : Type 0} → Bor (List ℕ) × T → Row T
row_of r = (r.0.now, r.1)

abbrev pub algorithms : List (Row Algorithm)
algorithms = (codes "RS1", algorithm.RS1)
    ∷ (codes "RS512", algorithm.RS512)
    ∷ (codes "RS384", algorithm.RS384)
    ∷ (codes "RS256", algorithm.RS256)
    ∷ (codes "ML-DSA-87", algorithm.ML_DSA_87)
    ∷ (codes "ML-DSA-65", algorithm.ML_DSA_65)
    ∷ (codes "ML-DSA-44", algorithm.ML_DSA_44)
    ∷ (codes "ES256K", algorithm.ES256K)
    ∷ (codes "PS512", algorithm.PS512)
    ∷ (codes "PS384", algorithm.PS384)
    ∷ (codes "PS256", algorithm.PS256)
    ∷ (codes "ES512", algorithm.ES512)
    ∷ (codes "ES384", algorithm.ES384)
    ∷ (codes "ECDH-ES + HKDF-256", algorithm.ECDH_ES_HKDF_256)
    ∷ (codes "EdDSA", algorithm.EdDSA)
    ∷ (codes "ES256", algorithm.ES256)
    ∷ []

abbrev pub key_types : List (Row ℤ)
key_types = (codes "OKP", pos 1)
    ∷ (codes "EC2", pos 2)
    ∷ (codes "RSA", pos 3)
    ∷ (codes "Symmetric", pos 4)
    ∷ (codes "HSS-LMS", pos 5)
    ∷ (codes "WalnutDSA", pos 6)
    ∷ (codes "AKP", pos 7)
    ∷ []

abbrev pub curves : List (Row ℤ)
curves = (codes "P-256", pos 1)
    ∷ (codes "P-384", pos 2)
    ∷ (codes "P-521", pos 3)
    ∷ (codes "X25519", pos 4)
    ∷ (codes "X448", pos 5)
    ∷ (codes "Ed25519", pos 6)
    ∷ (codes "Ed448", pos 7)
    ∷ (codes "secp256k1", pos 8)
    ∷ []

-- what the first row with this name has
abbrev pub named_in : {T : Type 0} → List ℕ → List (Row T) → Option T
named_in name [] = None
named_in name (row ∷ rows) = if bytes_eq row.0 name then Some row.1 else named_in name rows

abbrev pub algorithm_named : List ℕ → Option Algorithm
algorithm_named name = named_in name algorithms
