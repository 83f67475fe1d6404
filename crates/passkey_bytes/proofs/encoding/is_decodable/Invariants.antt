use Rattle.std.proofs.Common.{◌≡◌, is_ok, length}
use Rattle.base64.specs.GeneralPurpose.{decode_of}
use Rattle.passkey_bytes.proofs.encoding.is_decodable.Given as goal

abbrev pub invariant-loop-rest : goal.invariant-loop-rest
invariant-loop-rest l = is_ok (decode_of l.engine l.rest) ≡ is_ok (decode_of l.engine l.symbols)

abbrev pub decreases-loop-rest : goal.decreases-loop-rest
decreases-loop-rest l = length l.rest
