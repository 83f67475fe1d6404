use Rattle.passkey_kinds.proofs.Steps.{table_of, sym, ◌∙◌, head_map, map_opened, parts_open, None, Some, PairWithin, max_depth}
use Rattle.passkey_kinds.proofs.Common.{members_in}
use Rattle.passkey_kinds.proofs.LentItem.{enters, enters_none, map_passed}
use Rattle.passkey_kinds.proofs.lent_item.enter_value.Goals as goal

pub returns-in-Some-clause-enters : goal.returns-in-Some-clause-enters
returns-in-Some-clause-enters g c = λ i to l.
    let is = sym c.in-Some.is ∙ c.map_len.ensures in
    let o = parts_open members_in (PairWithin max_depth) head_map map_opened _ i to c.head.new.self
    (Some c.in-Some.left) is (c.head.ensures.opens i to l) in
    enters (table_of g.R.Record.fields) c.args.number i to _ _ _
    (map_passed _ _ c.head.result c.in-Some.left (sym is) c.head.ensures.found) o c.find_value.ensures.onward.same
    c.find_value.result (c.find_value.ensures.lies o.0 to o.1.1) (c.find_value.ensures.finds o.0 to o.1.1)

pub returns-in-None-clause-enters : goal.returns-in-None-clause-enters
returns-in-None-clause-enters g c = λ i to l.
    enters_none (table_of g.R.Record.fields) c.args.number i (parts_open members_in (PairWithin max_depth) head_map
    map_opened c.head.result i to c.head.new.self None (sym c.in-None.is ∙ c.map_len.ensures)
    (c.head.ensures.opens i to l))
