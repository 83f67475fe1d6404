use Rattle.passkey_kinds.proofs.Common.{refl}
use Rattle.passkey_registered.proofs.extensions.make_credential.signed_outputs.SignedExtensionOutputsTableRecord.put_members.Goals as goal

pub returns-clause-put : goal.returns-clause-put
returns-clause-put g c =
    rw (
      c.in_ok-put_some-6.ensures.put,
      c.in_ok-put_some-5.ensures.put,
      c.in_ok-put_some-4.ensures.put,
      c.in_ok-put_some-3.ensures.put,
      c.in_ok-put_level.ensures.put,
      c.in_ok-put_some-2.ensures.put,
      c.in_ok-put_some.ensures.put,
    ) refl
