use Rattle.passkey_kinds.proofs.Steps.{seen_map_back}
use Rattle.passkey_kinds.proofs.read_back.MapBytesReadBack.read_back.Goals as goal

pub returns-clause-back : goal.returns-clause-back
returns-clause-back g c = seen_map_back g.T.FromCbor.view g.T.ReadBack.normal c.read_back.ensures.back
