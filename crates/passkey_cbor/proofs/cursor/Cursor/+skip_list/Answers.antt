use Rattle.std.proofs.Common.{◌≡◌, suc, ◌-◌, ◌∷◌, [], get_or, set, refl, arith}
use Rattle.std.proofs.lemmas.List.{length-set}
use Rattle.passkey_cbor.specs.CursorState.{ahead}
use Rattle.passkey_cbor.specs.Courses.{open_course}
use Rattle.passkey_cbor.specs.declared.skip.Open.TheVariants as opens
use Rattle.passkey_cbor.proofs.skipping.Advancing.{opened_first, opened_over, opened_failed, opened_end, opened_item, opened_inner, opened_too_deep, opened_called, opened_call_failed}
use Rattle.passkey_cbor.proofs.cursor.Cursor.+skip_list.Goals as goal

pub loop-depth-init : goal.loop-depth-init
loop-depth-init t c =
    let none = opens.Items 0 in (
      opened_first c.args.levels c.args.first (none ∷ none ∷ none ∷ none ∷ none ∷ none ∷ none ∷ none ∷ none ∷ none ∷ none
          ∷ none ∷ none ∷ none ∷ none ∷ none ∷ []) c.args.self.now c.requires (omega arith),
      refl,
    )

pub returns-in-Malformed : goal.returns-in-Malformed
returns-in-Malformed t c =
    let at = c.loop-depth in
    let one : at.depth ≡ suc (at.depth - 1) = omega (arith, c.loop-depth-test.true) in
    opened_failed at.invariant.0 (at.depth - 1) one (get_or at.opened (at.depth - 1) (opens.Items 0)) c.skip_more.new.list
    refl c.skip_more.new.self c.in-Malformed.ensures

pub loop-depth-preserved-in-End : goal.loop-depth-preserved-in-End
loop-depth-preserved-in-End t c =
    let at = c.loop-depth in
    let one : at.depth ≡ suc (at.depth - 1) = omega (arith, c.loop-depth-test.true) in (
      opened_end at.invariant.0 (at.depth - 1) one (get_or at.opened (at.depth - 1) (opens.Items 0)) c.skip_more.new.list
          refl c.skip_more.new.self c.in-End.ensures,
      omega (arith, at.invariant.1, length-set at.opened (at.depth - 1) c.skip_more.new.list),
    )

pub loop-depth-preserved-in-Item : goal.loop-depth-preserved-in-Item
loop-depth-preserved-in-Item t c =
    let at = c.loop-depth in
    let one : at.depth ≡ suc (at.depth - 1) = omega (arith, c.loop-depth-test.true) in (
      opened_item at.invariant.0 (at.depth - 1) one (get_or at.opened (at.depth - 1) (opens.Items 0)) c.skip_more.new.list
          refl c.skip_more.new.self c.in-Item.ensures,
      omega (arith, at.invariant.1, length-set at.opened (at.depth - 1) c.skip_more.new.list),
    )

pub returns-then-levels-depth : goal.returns-then-levels-depth
returns-then-levels-depth t c =
    let at = c.loop-depth in
    let one : at.depth ≡ suc (at.depth - 1) = omega (arith, c.loop-depth-test.true) in
    opened_too_deep at.invariant.0 (at.depth - 1) one (get_or at.opened (at.depth - 1) (opens.Items 0))
    c.skip_more.new.list refl c.in-Head.inner c.skip_more.new.self c.in-Head.ensures c.if-levels-depth.true

pub loop-depth-preserved-then-depth-lt-ROOM : goal.loop-depth-preserved-then-depth-lt-ROOM
loop-depth-preserved-then-depth-lt-ROOM t c =
    let at = c.loop-depth in
    let one : at.depth ≡ suc (at.depth - 1) = omega (arith, c.loop-depth-test.true) in
    let after = c.skip_more.new.list in (
      opened_inner at.invariant.0 (at.depth - 1) one (get_or at.opened (at.depth - 1) (opens.Items 0)) after refl
          c.in-Head.inner c.skip_more.new.self c.in-Head.ensures c.if-levels-depth.false
          (omega (arith, c.if-depth-lt-ROOM.true, at.invariant.1)),
      omega (
        arith,
        at.invariant.1,
        length-set at.opened (at.depth - 1) after,
        length-set (set at.opened (at.depth - 1) after) at.depth c.in-Head.inner,
      ),
    )

pub returns-then-not-skip_list : goal.returns-then-not-skip_list
returns-then-not-skip_list t c =
    let at = c.loop-depth in
    let one : at.depth ≡ suc (at.depth - 1) = omega (arith, c.loop-depth-test.true) in
    let full : at.depth ≡ 16 = omega (arith, at.invariant.0.few, at.invariant.1, c.if-depth-lt-ROOM.false) in
    opened_call_failed at.invariant.0 (at.depth - 1) one (get_or at.opened (at.depth - 1) (opens.Items 0))
    c.skip_more.new.list refl c.in-Head.inner c.skip_more.new.self c.skip_list.new.self c.in-Head.ensures
    c.if-levels-depth.false (rw full c.if-not-skip_list.ensures)

pub loop-depth-preserved : goal.loop-depth-preserved
loop-depth-preserved t c =
    let at = c.loop-depth in
    let one : at.depth ≡ suc (at.depth - 1) = omega (arith, c.loop-depth-test.true) in
    let full : at.depth ≡ 16 = omega (arith, at.invariant.0.few, at.invariant.1, c.if-depth-lt-ROOM.false) in (
      opened_called at.invariant.0 (at.depth - 1) one (get_or at.opened (at.depth - 1) (opens.Items 0))
          c.skip_more.new.list refl c.in-Head.inner c.skip_more.new.self c.skip_list.new.self c.in-Head.ensures
          c.if-levels-depth.false (rw full c.if-not-skip_list.ensures),
      omega (arith, at.invariant.1, length-set at.opened (at.depth - 1) c.skip_more.new.list),
    )

pub returns : goal.returns
returns t c =
    let at = c.loop-depth in
    opened_over (open_course c.args.levels c.args.first (ahead c.args.self.now)) c.args.levels at.depth at.opened
    c.args.self.now at.self at.invariant.0 (omega (arith, c.loop-depth-test.false))
