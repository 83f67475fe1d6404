-- The numbers that IANA assigns in the COSE registries; `negsuc n` is -1 - n.
use Rattle.std.specs.Prelude.{ℤ, pos, negsuc, List, [], ◌∷◌, Option}
use Rattle.std.specs.Ordering.{int_eq}
use Rattle.passkey_iana.specs.Table.{numbered}
use Rattle.passkey_iana.specs.declared.algorithm.Algorithm.{Algorithm}
use Rattle.passkey_iana.specs.declared.key_type.KeyType.{KeyType}
use Rattle.passkey_iana.specs.declared.key_operation.KeyOperation.{KeyOperation}
use Rattle.passkey_iana.specs.declared.algorithm.Algorithm.TheVariants as algorithm
use Rattle.passkey_iana.specs.declared.key_type.KeyType.TheVariants as key_type
use Rattle.passkey_iana.specs.declared.key_operation.KeyOperation.TheVariants as key_operation

abbrev pub algorithm_number : Algorithm → ℤ
algorithm_number algorithm.RS1 = negsuc 65534
algorithm_number algorithm.RS512 = negsuc 258
algorithm_number algorithm.RS384 = negsuc 257
algorithm_number algorithm.RS256 = negsuc 256
algorithm_number algorithm.ML_DSA_87 = negsuc 49
algorithm_number algorithm.ML_DSA_65 = negsuc 48
algorithm_number algorithm.ML_DSA_44 = negsuc 47
algorithm_number algorithm.ES256K = negsuc 46
algorithm_number algorithm.PS512 = negsuc 38
algorithm_number algorithm.PS384 = negsuc 37
algorithm_number algorithm.PS256 = negsuc 36
algorithm_number algorithm.ES512 = negsuc 35
algorithm_number algorithm.ES384 = negsuc 34
algorithm_number algorithm.ECDH_ES_HKDF_256 = negsuc 24
algorithm_number algorithm.EdDSA = negsuc 7
algorithm_number algorithm.ES256 = negsuc 6

abbrev pub algorithms : List Algorithm
algorithms =
    algorithm.RS1 ∷ algorithm.RS512 ∷ algorithm.RS384 ∷ algorithm.RS256 ∷ algorithm.ML_DSA_87 ∷ algorithm.ML_DSA_65
    ∷ algorithm.ML_DSA_44 ∷ algorithm.ES256K ∷ algorithm.PS512 ∷ algorithm.PS384 ∷ algorithm.PS256 ∷ algorithm.ES512
    ∷ algorithm.ES384 ∷ algorithm.ECDH_ES_HKDF_256 ∷ algorithm.EdDSA ∷ algorithm.ES256 ∷ []

abbrev pub algorithm_named : ℤ → Option Algorithm
algorithm_named = numbered int_eq algorithm_number algorithms

abbrev pub key_type_number : KeyType → ℤ
key_type_number key_type.Reserved = pos 0
key_type_number key_type.OKP = pos 1
key_type_number key_type.EC2 = pos 2
key_type_number key_type.RSA = pos 3
key_type_number key_type.Symmetric = pos 4

abbrev pub key_types : List KeyType
key_types = key_type.Reserved ∷ key_type.OKP ∷ key_type.EC2 ∷ key_type.RSA ∷ key_type.Symmetric ∷ []

abbrev pub key_type_named : ℤ → Option KeyType
key_type_named = numbered int_eq key_type_number key_types

abbrev pub key_operation_number : KeyOperation → ℤ
key_operation_number key_operation.Sign = pos 1
key_operation_number key_operation.Verify = pos 2
key_operation_number key_operation.Encrypt = pos 3
key_operation_number key_operation.Decrypt = pos 4
key_operation_number key_operation.WrapKey = pos 5
key_operation_number key_operation.UnwrapKey = pos 6
key_operation_number key_operation.DeriveKey = pos 7
key_operation_number key_operation.DeriveBits = pos 8
key_operation_number key_operation.MacCreate = pos 9
key_operation_number key_operation.MacVerify = pos 10

abbrev pub key_operations : List KeyOperation
key_operations = key_operation.Sign ∷ key_operation.Verify ∷ key_operation.Encrypt ∷ key_operation.Decrypt
    ∷ key_operation.WrapKey ∷ key_operation.UnwrapKey ∷ key_operation.DeriveKey ∷ key_operation.DeriveBits
    ∷ key_operation.MacCreate ∷ key_operation.MacVerify ∷ []

abbrev pub key_operation_named : ℤ → Option KeyOperation
key_operation_named = numbered int_eq key_operation_number key_operations
