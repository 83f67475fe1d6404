use Rattle.std.proofs.Common.{◌∙◌, ◌++◌, sym, append_assoc, ap, List, ℕ}
use Rattle.passkey_cbor.proofs.strings.Naming.{same_after, begins_so, begins_not}
use Rattle.passkey_cbor.proofs.names.begin_of.Goals as goal

pub returns-in-None-clause-begins : goal.returns-in-None-clause-begins
returns-in-None-clause-begins c =
    sym (begins_not (c.args.front.now ++ c.args.more.now) c.args.name.now (λ rest e. c.in-None.ensures
    (c.args.more.now ++ rest) (e ∙ append_assoc c.args.front.now c.args.more.now rest)))

pub returns-in-None-following-clause-begins : goal.returns-in-None-following-clause-begins
returns-in-None-following-clause-begins c =
    sym (begins_not (c.args.front.now ++ c.args.more.now) c.args.name.now
    (λ rest e. c.in-None-following.ensures rest (same_after c.args.front.now c.in-Some.others.now (c.args.more.now
    ++ rest) (sym c.in-Some.ensures ∙ e ∙ append_assoc c.args.front.now c.args.more.now rest))))

pub returns-in-Some-following-clause-begins : goal.returns-in-Some-following-clause-begins
returns-in-Some-following-clause-begins c =
    sym (begins_so (c.args.front.now ++ c.args.more.now) c.args.name.now c.in-Some-following.field-0.now
    (c.in-Some.ensures ∙ ap (λ (t : List ℕ). c.args.front.now ++ t) c.in-Some-following.ensures
    ∙ sym (append_assoc c.args.front.now c.args.more.now c.in-Some-following.field-0.now)))
