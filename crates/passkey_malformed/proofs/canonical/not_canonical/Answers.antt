use Rattle.passkey_malformed.proofs.BrokenThere.{ends_short, is_not_canonical}
use Rattle.passkey_malformed.proofs.canonical.not_canonical.Goals as goal

pub overflow_sub-offset : goal.overflow_sub-offset
overflow_sub-offset c = ends_short c.in_ok-rule.ensures

pub returns : goal.returns
returns c = is_not_canonical _ _ _ c.min.ensures c.in_ok-rule.ensures
