use Rattle.passkey_malformed.proofs.UnmetThere.{is_unmet, unmet_short}
use Rattle.passkey_malformed.proofs.demands.unmet.Goals as goal

pub overflow_sub-offset : goal.overflow_sub-offset
overflow_sub-offset c = unmet_short c.in_ok-rule.ensures

pub returns : goal.returns
returns c = is_unmet _ _ _ c.in_ok-rule.ensures
