use Rattle.passkey_kinds.proofs.Common.{◌≡◌, Some, map, item_of, pair_of, entry_of, names}
use Rattle.std.proofs.Common.{take}
use Rattle.passkey_explain.specs.Described.{key, labelled, label_of, described, described_row, described_of, describe_member}
use Rattle.passkey_explain.specs.Next.{IsRecordAt}
use Rattle.passkey_kinds.specs.Look.{tested}
use Rattle.passkey_kinds.specs.Shape.{Rows, Tested, reached}
use Rattle.passkey_explain.proofs.description.+describe.Given as goal

abbrev pub invariant-describe_elements-loop-element : goal.invariant-describe_elements-loop-element
invariant-describe_elements-loop-element g l =
    (t : Tested) → reached l.way (tested g.M.FromCbor.typed) ≡ Some t
    → map described_of l.all.items ≡ map (described t.shape) (map item_of (take l.element-index l.elements))

abbrev pub invariant-describe_entries-loop-key : goal.invariant-describe_entries-loop-key
invariant-describe_entries-loop-key g l =
    (t : Tested) → reached l.way (tested g.M.FromCbor.typed) ≡ Some t
    → map (λ p. labelled (key (item_of p.0)) (described_of p.1)) l.all.items
    ≡ map (λ m. labelled (key m.0) (described t.shape m.1)) (map pair_of (take l.key-index l.pairs))

abbrev pub invariant-describe_fields-loop-key : goal.invariant-describe_fields-loop-key
invariant-describe_fields-loop-key g l =
    (rows : Rows)
    → IsRecordAt l.way (tested g.M.FromCbor.typed) rows l.table.is_numbered (map entry_of l.table.rows.now)
    → map (λ p. labelled (label_of p.0) (described_of p.1)) l.all.items
    ≡ map (λ m. describe_member (map entry_of l.table.rows.now) (described_row rows)
    (names l.table.is_numbered (map entry_of l.table.rows.now) m.0) m.0 m.1) (map pair_of (take l.key-index l.pairs))
