-- The parts of a key, from the fields of a `CoseKey`.
use Rattle.std.specs.Prelude.{ℕ, [], map, Option, option_map, unwrap_or}
use Rattle.std.specs.declared.alloc.Global.{Global}
use Rattle.std.specs.declared.vec.Vec.{Vec}
use Rattle.passkey_cbor.specs.declared.value.Value.{Value}
use Rattle.passkey_cose.specs.KeyParams.{params_held}
use Rattle.passkey_cose.specs.KeyParts.{KeyParts}
use Rattle.passkey_cose.specs.Registered.{named_of}
use Rattle.passkey_iana.specs.declared.algorithm.Algorithm.{Algorithm}
use Rattle.passkey_iana.specs.declared.key_operation.KeyOperation.{KeyOperation}
use Rattle.passkey_iana.specs.declared.key_type.KeyType.{KeyType}
use Rattle.passkey_cose.specs.declared.label.Label.{Label}
use Rattle.passkey_cose.specs.declared.registered.Registered.{Registered}

abbrev pub parts_held : Registered KeyType → Option (Vec ℕ Global) → Option (Registered Algorithm) → Option
    (Vec (Registered KeyOperation) Global) → Option (Vec ℕ Global) → Option (Vec (Label × Value) Global) → KeyParts
parts_held kty key_id alg key_ops base_iv params = record {
  kty = named_of kty;
  key_id = option_map (λ v. v.items) key_id;
  alg = option_map named_of alg;
  key_ops = map named_of (unwrap_or (option_map (λ v. v.items) key_ops) []);
  base_iv = option_map (λ v. v.items) base_iv;
  params = params_held params;
}
