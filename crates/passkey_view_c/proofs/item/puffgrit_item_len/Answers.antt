use Rattle.passkey_view_c.proofs.Outputs.{is_length}
use Rattle.passkey_view_c.proofs.item.puffgrit_item_len.Goals as goal

pub returns-in-Some : goal.returns-in-Some
returns-in-Some c = is_length c.args.bytes.now c.in-Some.ensures.0 c.in-Some.len c.in-Some.ensures.1
