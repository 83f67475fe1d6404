use Rattle.passkey_kinds.proofs.Common.{refl}
use Rattle.passkey_registered.proofs.get_info.options.Options.put_last.Goals as goal

pub returns-clause-put : goal.returns-clause-put
returns-clause-put g c =
    rw (
      c.in_ok-put_some-10.ensures.put,
      c.in_ok-put_some-9.ensures.put,
      c.in_ok-put_some-8.ensures.put,
      c.in_ok-put_some-7.ensures.put,
      c.in_ok-put_some-6.ensures.put,
      c.in_ok-put_some-5.ensures.put,
      c.in_ok-put_some-4.ensures.put,
      c.in_ok-put_some-3.ensures.put,
      c.in_ok-put_some-2.ensures.put,
      c.in_ok-put_some.ensures.put,
    ) refl
