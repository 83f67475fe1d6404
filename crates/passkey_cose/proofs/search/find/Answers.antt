use Rattle.std.proofs.Common.{rules}
use Rattle.passkey_cose.proofs.Searching.{find_from}
use Rattle.passkey_cose.proofs.search.find.Goals as goal

pub loop-other-preserved : goal.loop-other-preserved
loop-other-preserved g c =
    let at = find_from (g.L.PartialEq.eq c.args.label.now) c.args.pairs.now c.loop-other.other-index
    c.loop-other-item.result c.loop-other-test.true c.loop-other-item.is in
    search (rules, at)
