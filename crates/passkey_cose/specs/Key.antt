-- The parts of a `CoseKey`.
use Rattle.passkey_cose.specs.KeyFields.{parts_held}
use Rattle.passkey_cose.specs.KeyParts.{KeyParts}
use Rattle.passkey_cose.specs.declared.key.CoseKey.{CoseKey}

abbrev pub key_parts : CoseKey → KeyParts
key_parts k = parts_held k.kty k.key_id k.alg k.key_ops k.base_iv k.params
