use Rattle.passkey_c.proofs.asked.admitted.Goals as goal

pub returns-in-Some : goal.returns-in-Some
returns-in-Some c = rw c.in-Ok.is (c.in-Some.found.offset, c.in-Some.ensures.met)
