use Rattle.std.proofs.Common.{rules, ◌∙◌, map, take, sym, ap}
use Rattle.passkey_cbor.specs.View.{pair_of}
use Rattle.passkey_cose.specs.KeyFaults.{first_fault}
use Rattle.passkey_cose.specs.KeyLabels.{Members}
use Rattle.passkey_cose.proofs.TakenPairs.{member_at, first_more, labels_more}
use Rattle.passkey_cose.proofs.checking.check_members.Goals as goal

pub returns-in_err-check_member : goal.returns-in_err-check_member
returns-in_err-check_member c =
    let ms = c.args.members.now in
    let i = c.loop-i.i in
    let first = sym c.loop-i.invariant.left ∙ ap (λ (ns : Members). first_fault (map pair_of (take i ms)) ns)
    (member_at ms i c.index-members-i.result c.loop-i-test.true c.index-members-i.is) in
    rw (first, c.in_err-check_member.ensures.fault.0) (search rules)

pub loop-i-preserved : goal.loop-i-preserved
loop-i-preserved c =
    let ms = c.args.members.now in
    let i = c.loop-i.i in
    let m = c.index-members-i.result in
    record {
      left = sym (first_more ms i m c.loop-i-test.true c.index-members-i.is c.in_ok-check_member.ensures.fault)
          ∙ c.loop-i.invariant.left;
      held = λ whole. rw (labels_more ms i m c.loop-i-test.true c.index-members-i.is)
          (c.in_ok-check_member.ensures.held whole);
    }
