-- The bytes that were appended to an encoder.
use Rattle.std.specs.Prelude.{ℕ, List}
use Rattle.passkey_cbor.specs.declared.encoder.Encoder.{Encoder}

abbrev pub encoding : Encoder → List ℕ
encoding e = e.bytes.items
