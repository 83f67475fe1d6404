use Rattle.std.proofs.Common.{rules}
use Rattle.passkey_cbor.proofs.items.MapMembers.{ends, key_there, value_there, gives, some_left_after, nearer}
use Rattle.passkey_cbor.proofs.member.MembersIterator.next.Goals as goal

pub returns-then-not-more-clause-steps : goal.returns-then-not-more-clause-steps
returns-then-not-more-clause-steps c =
    rw (← c.self.view_is) (ends c.self.inside.left c.more.new.left c.self.inside.cursor c.more.new.self
    c.self.inside.bytes.now c.self.invariant.0 c.self.invariant.1 c.if-not-more.ensures.walks)

pub invariant_of-self-in_err-key : goal.invariant_of-self-in_err-key
invariant_of-self-in_err-key c =
    absurd
    (key_there c.self.inside.left c.more.new.left c.self.inside.cursor c.more.new.self c.self.inside.bytes.now
    c.self.invariant.0 c.self.invariant.1 c.if-not-more.ensures.walks c.in_err-key.ensures.lends)

pub returns-in_err-key-clause-steps : goal.returns-in_err-key-clause-steps
returns-in_err-key-clause-steps c =
    absurd
    (key_there c.self.inside.left c.more.new.left c.self.inside.cursor c.more.new.self c.self.inside.bytes.now
    c.self.invariant.0 c.self.invariant.1 c.if-not-more.ensures.walks c.in_err-key.ensures.lends)

pub invariant_of-self-in_err-value : goal.invariant_of-self-in_err-value
invariant_of-self-in_err-value c =
    absurd (value_there c.self.inside.left c.more.new.left c.self.inside.cursor c.more.new.self
    c.pass_item.new.cursor c.self.inside.bytes.now c.in_ok-key.key c.self.invariant.0 c.self.invariant.1
    c.if-not-more.ensures.walks c.in_ok-key.ensures.same c.in_ok-key.ensures.lends c.in_err-value.ensures.lends)

pub returns-in_err-value-clause-steps : goal.returns-in_err-value-clause-steps
returns-in_err-value-clause-steps c =
    absurd (value_there c.self.inside.left c.more.new.left c.self.inside.cursor c.more.new.self
    c.pass_item.new.cursor c.self.inside.bytes.now c.in_ok-key.key c.self.invariant.0 c.self.invariant.1
    c.if-not-more.ensures.walks c.in_ok-key.ensures.same c.in_ok-key.ensures.lends c.in_err-value.ensures.lends)

pub invariant_of-self-2 : goal.invariant_of-self-2
invariant_of-self-2 c =
    let g = gives c.self.inside.left c.more.new.left c.self.inside.cursor c.more.new.self c.pass_item.new.cursor
    c.pass_item-2.new.cursor c.self.inside.bytes.now c.in_ok-key.key c.in_ok-value.value c.self.invariant.0
    c.self.invariant.1 c.if-not-more.ensures.walks c.in_ok-key.ensures.same c.in_ok-key.ensures.lends
    c.in_ok-value.ensures.lends in
    (search rules, some_left_after _ _ _ g)

pub returns-clause-steps : goal.returns-clause-steps
returns-clause-steps c =
    rw (← c.self.view_is) (gives c.self.inside.left c.more.new.left c.self.inside.cursor c.more.new.self
    c.pass_item.new.cursor c.pass_item-2.new.cursor c.self.inside.bytes.now c.in_ok-key.key c.in_ok-value.value
    c.self.invariant.0 c.self.invariant.1 c.if-not-more.ensures.walks c.in_ok-key.ensures.same
    c.in_ok-key.ensures.lends c.in_ok-value.ensures.lends)

pub returns-clause-goes : goal.returns-clause-goes
returns-clause-goes c =
    let g = gives c.self.inside.left c.more.new.left c.self.inside.cursor c.more.new.self c.pass_item.new.cursor
    c.pass_item-2.new.cursor c.self.inside.bytes.now c.in_ok-key.key c.in_ok-value.value c.self.invariant.0
    c.self.invariant.1 c.if-not-more.ensures.walks c.in_ok-key.ensures.same c.in_ok-key.ensures.lends
    c.in_ok-value.ensures.lends in
    rw (← c.self.view_is) (record { on = λ finite. (tt, tt, nearer _ _ _ g); keeps = tt; rests = λ finite. tt })
