use Rattle.passkey_kinds.proofs.Steps.{numbers_back}
use Rattle.passkey_kinds.proofs.read_back.ArrayU832ReadBack.read_back.Goals as goal

pub returns-clause-back : goal.returns-clause-back
returns-clause-back c = numbers_back 32
