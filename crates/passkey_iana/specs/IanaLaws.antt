-- No two values of a registry have the same number: proofs that the impls of EnumI64 cite.
use Rattle.std.specs.Cmp.{signed_Decides}
use Rattle.std.specs.Ordering.{int_eq}
use Rattle.std.proofs.Common.{◌≡◌, ◌↔◌, ℤ, Some, refl}
use Rattle.passkey_iana.specs.TableLaws.{numbered_as}
use Rattle.passkey_iana.specs.declared.algorithm.Algorithm.{Algorithm}
use Rattle.passkey_iana.specs.declared.key_type.KeyType.{KeyType}
use Rattle.passkey_iana.specs.declared.key_operation.KeyOperation.{KeyOperation}
use Rattle.passkey_iana.specs.declared.algorithm.Algorithm.TheVariants as algorithm
use Rattle.passkey_iana.specs.declared.key_type.KeyType.TheVariants as key_type
use Rattle.passkey_iana.specs.declared.key_operation.KeyOperation.TheVariants as key_operation
use Rattle.passkey_iana.specs.Iana.{algorithms, algorithm_number, algorithm_named, key_types, key_type_number, key_type_named, key_operations, key_operation_number, key_operation_named}

algorithm_own : (a : Algorithm) → algorithm_named (algorithm_number a) ≡ Some a
algorithm_own algorithm.RS1 = refl
algorithm_own _ = refl

pub algorithm_named-number : (z : ℤ) (a : Algorithm) → (algorithm_named z ≡ Some a ↔ algorithm_number a ≡ z)
algorithm_named-number = numbered_as int_eq signed_Decides algorithm_number algorithms algorithm_own

key_type_own : (a : KeyType) → key_type_named (key_type_number a) ≡ Some a
key_type_own key_type.Reserved = refl
key_type_own _ = refl

pub key_type_named-number : (z : ℤ) (a : KeyType) → (key_type_named z ≡ Some a ↔ key_type_number a ≡ z)
key_type_named-number = numbered_as int_eq signed_Decides key_type_number key_types key_type_own

key_operation_own : (a : KeyOperation) → key_operation_named (key_operation_number a) ≡ Some a
key_operation_own key_operation.Sign = refl
key_operation_own _ = refl

pub key_operation_named-number : (z : ℤ) (a : KeyOperation)
    → (key_operation_named z ≡ Some a ↔ key_operation_number a ≡ z)
key_operation_named-number = numbered_as int_eq signed_Decides key_operation_number key_operations key_operation_own
