use Rattle.passkey_kinds.proofs.Common.{◌≡◌, ◌++◌, Option, subst, Item, written, places_of, record_tree}
use Rattle.std.proofs.Common.{IfOk}
use Rattle.passkey_ctap2.specs.GetInfo.{first_members_with, middle_members, last_members, get_info_parts}
use Rattle.passkey_ctap2.proofs.get_info.response.Response.to_vec.Goals as goal

pub returns-clause-written : goal.returns-clause-written
returns-clause-written c =
    let r = get_info_parts c.args.self.now in
    subst (λ (size : Option Item). IfOk c.write_message.result
    (λ bytes. bytes.items ≡ written (record_tree (places_of (first_members_with (λ _. size) ++ middle_members ++ last_members) r))))
    c.in_ok-max_msg_size.ensures.item c.write_message.ensures.written
