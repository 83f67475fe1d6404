use Rattle.passkey_core.proofs.laws.read_data_is_coherent.Goals as goal

pub returns : goal.returns
returns c = λ bytes d h. c.given_data_are_coherent.ensures bytes d (c.read_is_given.ensures bytes d h)
