use Rattle.passkey_core.proofs.StatusAlone.{known_is}
use Rattle.passkey_core.proofs.status.StatusCodeFromU8.from.Goals as goal

pub returns-in-Ok : goal.returns-in-Ok
returns-in-Ok c = known_is c.args.byte c.ranges.byte.fits c.in-Ok.error c.in-Ok.ensures
