use Rattle.passkey_kinds.proofs.Common.{MayGrow, item_of, any_from, true}
use Rattle.passkey_kinds.proofs.Looks.{leaf_looks}
use Rattle.passkey_kinds.proofs.from_cbor.ValueFromCbor.look.Goals as goal

pub returns : goal.returns
returns c =
    let i = item_of c.args.value.now in
    leaf_looks item_of any_from (MayGrow true i) _ _ i c.from_value.result _ c.looked.ensures c.from_value.ensures
