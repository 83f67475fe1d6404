use Rattle.passkey_bytes.proofs.Maps.{ClonesValues-empty, ClonesValues-same}
use Rattle.passkey_bytes.proofs.map.Map.try_clone.Goals as goal

pub returns-then-is_empty-clause-clones : goal.returns-then-is_empty-clause-clones
returns-then-is_empty-clause-clones g c = ClonesValues-empty g.V.Clone.is_clone c.args.self.now c.empty.result
    (c.is_empty.ensures.0 c.if-is_empty.true) c.empty.ensures

pub returns-clause-same : goal.returns-clause-same
returns-clause-same g c exact =
    ClonesValues-same g.V.Clone.is_clone exact c.args.self.now c.in_ok-clone.field-0 c.in_ok-clone.ensures.cases
