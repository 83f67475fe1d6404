-- Members that are encoded one after the other.
use Rattle.std.specs.Prelude.{◌≡◌, ℕ, List, ◌++◌}
use Rattle.passkey_cbor.specs.Item.{pairs_of}
use Rattle.passkey_cbor.specs.Writable.{ArePairsWritable}
use Rattle.passkey_cbor.specs.Written.{pairs_written}
use Rattle.passkey_cose.specs.KeyLabels.{Members}

-- The encodings of the members were appended.
pub record Appended (ms : Members) (old new : List ℕ) : Type 0 where
  pub bytes : new ≡ old ++ pairs_written (pairs_of ms)
  pub writable : ArePairsWritable (pairs_of ms)
