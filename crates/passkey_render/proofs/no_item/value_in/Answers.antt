use Rattle.passkey_render.proofs.NoItems.{element_value, member_value, no_member_value}
use Rattle.passkey_render.proofs.no_item.value_in.Goals as goal

pub returns-in-Array : goal.returns-in-Array
returns-in-Array c = element_value c.args.json.now c.in-Array.all c.deref.result.now c.args.index c.get.result _
    c.in-Array.is c.deref.ensures.value c.get.ensures.lookup.3 c.get.ensures.lookup.1

pub returns-in-Some : goal.returns-in-Some
returns-in-Some c = member_value c.args.json.now c.in-Object.all c.deref-in-Object.result.now c.args.index c.in-Object.is
    c.deref-in-Object.ensures.value c.in-Some.member.now c.in-Some.ensures.lookup.3.0 c.in-Some.ensures.lookup.1

pub returns-in-None : goal.returns-in-None
returns-in-None c = no_member_value c.args.json.now c.in-Object.all c.deref-in-Object.result.now c.args.index
    c.in-Object.is c.deref-in-Object.ensures.value c.in-None.ensures.lookup.3
