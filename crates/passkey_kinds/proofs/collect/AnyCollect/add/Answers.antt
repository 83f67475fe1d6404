use Rattle.passkey_kinds.proofs.Steps.{◌≡◌, true, arith, ends_ok, one_spare, stands_long}
use Rattle.passkey_kinds.proofs.Counting.{kept_least}
use Rattle.std.proofs.Common.{is_ok}
use Rattle.passkey_kinds.proofs.collect.AnyCollect.add.Goals as goal

pub returns-clause-adds : goal.returns-clause-adds
returns-clause-adds g c = λ x to l.
    let told = c.add.ensures.adds x to l in
    let spent = c.add.ensures.spends x to l in
    let less = one_spare _ _ _ _ _ (stands_long x l) spent.spends in
    let keeps = g.G.Gather.gathering.keeps in
    let counts = ends_ok c.add.result (λ (ok : is_ok c.add.result ≡ true).
    kept_least keeps x _ _ c.add.ensures.onward (spent.counts ok)) in
    grind (arith, ends_ok, told, spent, less, counts)
