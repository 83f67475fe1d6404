use Rattle.std.proofs.Common.{◌≡◌, ◌+◌, ◌*◌, length, true, string_bytes}
use Rattle.passkey_cbor_text.specs.diagnose.BytesText.{item_text, member_text, parts_text}
use Rattle.passkey_cbor_text.proofs.diagnose.bytes_text.+bytes.Given as goal

abbrev pub decreases-push_after : goal.decreases-push_after
decreases-push_after l = 8 * l.levels + 1

abbrev pub decreases-push_item : goal.decreases-push_item
decreases-push_item l = 8 * l.levels + 2

abbrev pub decreases-push_member : goal.decreases-push_member
decreases-push_member l = 8 * l.levels + 3

abbrev pub decreases-push_members : goal.decreases-push_members
decreases-push_members l = 8 * l.levels + 4

abbrev pub decreases-push_list : goal.decreases-push_list
decreases-push_list l = 8 * l.levels + 5

abbrev pub decreases-push_tagged : goal.decreases-push_tagged
decreases-push_tagged l = 8 * l.levels + 5

abbrev pub invariant-push_members-loop-alloc : goal.invariant-push_members-loop-alloc
invariant-push_members-loop-alloc l =
    parts_text (member_text (item_text l.levels l.margin) l.is_map) l.margin l.others l.left l.is_first l.here
    (string_bytes l.out)
    ≡ parts_text (member_text (item_text l.levels l.margin) l.is_map) l.margin (length l.bytes) l.initial.left true l.bytes
    (string_bytes l.initial.out)

abbrev pub decreases-push_members-loop-alloc : goal.decreases-push_members-loop-alloc
decreases-push_members-loop-alloc l = l.others
