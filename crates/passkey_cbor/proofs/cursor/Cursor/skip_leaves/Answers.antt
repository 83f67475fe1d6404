use Rattle.std.proofs.Common.{◌≡◌, suc, ◌-◌, ap, subst, arith}
use Rattle.std.proofs.lemmas.List.{take_rest}
use Rattle.passkey_cbor.specs.CursorState.{CursorState}
use Rattle.passkey_cbor.specs.Leaf.{IsLeafLen}
use Rattle.passkey_cbor.proofs.skipping.Advancing.{leaves_none, leaves_one, leaves_passed, leaves_missed}
use Rattle.passkey_cbor.proofs.cursor.Cursor.skip_leaves.Goals as goal

pub loop-left-init : goal.loop-left-init
loop-left-init c = leaves_none c.args.most c.self.inside.place c.args.self.now c.requires
    (ap (λ (w : CursorState). w.place) c.self.view_is)

pub loop-left-preserved : goal.loop-left-preserved
loop-left-preserved c =
    let at = c.loop-left in
    let one : at.left ≡ suc (at.left - 1) = omega (arith, c.loop-left-test.true) in
    leaves_one c.args.most at.left (at.left - 1) at.place c.leaf_len-len.result c.args.self.now at.invariant one
    (omega (arith, c.if-len-eq0.false)) (rw (← c.self.view_is) (subst (λ s. IsLeafLen s c.leaf_len-len.result)
    (take_rest c.self.inside.bytes.now at.place) (c.leaf_len-len.ensures.leaf (omega (arith, c.if-len-eq0.false)))))

pub returns-then-left-most : goal.returns-then-left-most
returns-then-left-most c = leaves_missed c.args.most c.loop-left.left c.args.self.now c.requires c.if-left-most.true

pub returns : goal.returns
returns c = leaves_passed c.args.most c.loop-left.left c.loop-left.place c.args.self.now c.pass_leaves.new.self
    c.loop-left.invariant c.pass_leaves.ensures.passed c.pass_leaves.ensures.rises
