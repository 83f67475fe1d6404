use Rattle.passkey_kinds.proofs.Looks.{leaf_looks}
use Rattle.passkey_registered.proofs.kept_data.KeptAuthenticatorDataFromCbor.look.Goals as goal

pub returns : goal.returns
returns c = leaf_looks _ _ _ _ _ _ c.from_value.result _ c.looked.ensures c.from_value.ensures
