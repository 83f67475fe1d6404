use Rattle.std.proofs.Common.{rules, refl}
use Rattle.base64.specs.Decode.{groups_error, groups_bytes, scan_steps}
use Rattle.passkey_bytes.specs.Encoding.{ReadsZeros, url_safe_loose}
use Rattle.passkey_bytes.proofs.encoding.try_from_base64url.Goals as goal

loose_reads : ReadsZeros url_safe_loose
unfolding groups_error groups_bytes scan_steps
loose_reads = refl

pub decode-requires : goal.decode-requires
decode-requires c = search (rules, loose_reads)
