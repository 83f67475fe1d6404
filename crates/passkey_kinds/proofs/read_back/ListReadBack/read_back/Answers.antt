use Rattle.passkey_kinds.proofs.Steps.{seen_list_back}
use Rattle.passkey_kinds.proofs.read_back.ListReadBack.read_back.Goals as goal

pub returns-clause-back : goal.returns-clause-back
returns-clause-back g c = seen_list_back c.read_back.ensures.back
