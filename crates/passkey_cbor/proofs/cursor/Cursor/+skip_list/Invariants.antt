use Rattle.std.proofs.Common.{◌≡◌, ◌+◌, ◌*◌, ◌-◌, length}
use Rattle.passkey_cbor.specs.CursorState.{ahead}
use Rattle.passkey_cbor.specs.Courses.{open_course}
use Rattle.passkey_cbor.proofs.skipping.Advancing.{Opened}
use Rattle.passkey_cbor.proofs.cursor.Cursor.+skip_list.Given as goal

abbrev pub decreases-skip_list : goal.decreases-skip_list
decreases-skip_list l = l.levels

abbrev pub invariant-loop-depth : goal.invariant-loop-depth
invariant-loop-depth l =
    Opened (open_course l.levels l.fn.first (ahead l.fn.self)) l.levels l.depth l.opened l.fn.self l.self × (length l.opened ≡ 16)

abbrev pub decreases-loop-depth : goal.decreases-loop-depth
decreases-loop-depth l = 2 * (length l.self.bytes - l.self.place) + l.depth
