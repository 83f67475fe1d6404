use Rattle.passkey_kinds.proofs.Common.{refl}
use Rattle.passkey_registered.proofs.extensions.prf.PrfInputsPlainRecord.put_members.Goals as goal

pub returns-clause-put : goal.returns-clause-put
returns-clause-put g c = rw (c.in_ok-put_some-2.ensures.put, c.in_ok-put_some.ensures.put) refl
