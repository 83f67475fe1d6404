use Rattle.passkey_kinds.proofs.Members.{reads_one}
use Rattle.passkey_kinds.proofs.Steps.{arith}
use Rattle.passkey_kinds.proofs.record.read_member.Goals as goal

pub returns-in-Ok-clause-reads : goal.returns-in-Ok-clause-reads
returns-in-Ok-clause-reads g c = grind (arith, reads_one)

pub returns-in-Err-Refused-clause-reads : goal.returns-in-Err-Refused-clause-reads
returns-in-Err-Refused-clause-reads g c = grind (arith, reads_one)
