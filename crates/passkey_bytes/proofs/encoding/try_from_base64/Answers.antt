use Rattle.std.proofs.Common.{rules, refl}
use Rattle.base64.specs.Decode.{groups_error, groups_bytes, scan_steps}
use Rattle.base64.specs.Engines.{standard_no_pad}
use Rattle.passkey_bytes.specs.Encoding.{ReadsZeros}
use Rattle.passkey_bytes.proofs.encoding.try_from_base64.Goals as goal

standard_reads : ReadsZeros standard_no_pad
unfolding groups_error groups_bytes scan_steps
standard_reads = refl

pub decode-requires : goal.decode-requires
decode-requires c = search (rules, standard_reads)
