-- The normal form of a key: what is read back after the key is written.
use Rattle.std.specs.Prelude.{◌≡◌, ℤ, true, [], map, Option, None, option_map}
use Rattle.passkey_iana.specs.Iana.{algorithm_named, key_type_named, key_operation_named}
use Rattle.passkey_cose.specs.KeyFaults.{first_fault}
use Rattle.passkey_cose.specs.KeyLabels.{are_separate}
use Rattle.passkey_cose.specs.KeyParts.{KeyParts, key_members}
use Rattle.passkey_cose.specs.KeyReading.{assigned_or_other}
use Rattle.passkey_cose.specs.Registered.{Named, assigned, other, text}

-- a number that the registry assigns becomes the assigned value
abbrev pub normal_named : {T : Type 0} → (ℤ → Option T) → Named T → Named T
normal_named named (assigned a) = assigned a
normal_named named (other z) = assigned_or_other z (named z)
normal_named named (text s) = text s

abbrev pub normal_key : KeyParts → KeyParts
normal_key k = record k {
  kty = normal_named key_type_named k.kty;
  alg = option_map (normal_named algorithm_named) k.alg;
  key_ops = map (normal_named key_operation_named) k.key_ops;
}

-- No member that is written is bad; the other parameters have distinct labels, none of them a common
-- parameter's.
pub record IsKey (k : KeyParts) : Type 0 where
  pub good : first_fault [] (key_members k) ≡ None
  pub separate : are_separate k.params ≡ true
