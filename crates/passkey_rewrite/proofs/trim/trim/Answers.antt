use Rattle.passkey_rewrite.proofs.Trimming.{trimmed_is_core}
use Rattle.passkey_rewrite.proofs.trim.trim.Goals as goal

pub returns-clause-core : goal.returns-clause-core
returns-clause-core c = rw (c.trim_end.ensures, c.trim_start.ensures) (trimmed_is_core c.args.text.now)
