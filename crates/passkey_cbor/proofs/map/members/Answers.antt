use Rattle.passkey_cbor.proofs.items.MapMembers.{no_item, no_head, no_map, all_left, some_of_all}
use Rattle.passkey_cbor.proofs.map.members.Goals as goal

pub returns-then-not-skip : goal.returns-then-not-skip
returns-then-not-skip c =
    no_item c.args.bytes.now c.new-cursor.result c.skip.new.self c.new-cursor.ensures c.if-not-skip.ensures.front

pub invariant_of-result : goal.invariant_of-result
invariant_of-result c =
    let l = all_left c.args.bytes.now c.new-cursor.result c.skip.new.self c.go_back.new.self c.head.new.self
    c.in-Some.head c.in-Map.left c.new-cursor.ensures c.if-not-skip.ensures.front c.go_back.ensures
    c.in-Some.ensures.found.bytes c.in-Map.is c.in-Some.ensures.opens in
    (l.0, some_of_all _ _ l.1)

pub returns-in-None : goal.returns-in-None
returns-in-None c = no_head c.args.bytes.now c.new-cursor.result c.skip.new.self c.go_back.new.self
    c.new-cursor.ensures c.if-not-skip.ensures.front.bytes c.go_back.ensures c.in-None.ensures.opens

pub returns-in-Map : goal.returns-in-Map
returns-in-Map c =
    let l = all_left c.args.bytes.now c.new-cursor.result c.skip.new.self c.go_back.new.self c.head.new.self
    c.in-Some.head c.in-Map.left c.new-cursor.ensures c.if-not-skip.ensures.front c.go_back.ensures
    c.in-Some.ensures.found.bytes c.in-Map.is c.in-Some.ensures.opens in
    l.1

pub returns-in_default : goal.returns-in_default
returns-in_default c = no_map c.args.bytes.now c.new-cursor.result c.skip.new.self c.go_back.new.self
    c.head.new.self c.in-Some.head c.new-cursor.ensures c.if-not-skip.ensures.front.bytes c.go_back.ensures
    c.in_default.not-Map c.in-Some.ensures.opens
