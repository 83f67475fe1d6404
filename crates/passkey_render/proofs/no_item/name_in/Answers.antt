use Rattle.passkey_render.proofs.NoItems.{member_name, no_member_name}
use Rattle.passkey_render.proofs.no_item.name_in.Goals as goal

pub returns-in-Some : goal.returns-in-Some
returns-in-Some c = member_name c.args.json.now c.in-Object.all c.deref.result.now c.args.index c.in-Object.is
    c.deref.ensures.value c.in-Some.member.now c.in-Some.ensures.lookup.3.0 c.in-Some.ensures.lookup.1

pub returns-in-None : goal.returns-in-None
returns-in-None c = no_member_name c.args.json.now c.in-Object.all c.deref.result.now c.args.index c.in-Object.is
    c.deref.ensures.value c.in-None.ensures.lookup.3
