use Rattle.passkey_kinds.proofs.Common.{◌≡◌, ℕ, Item, map, drop, get_or, false, pair_of, entry_of}
use Rattle.passkey_explain.specs.Blame.{Blame}
use Rattle.passkey_explain.specs.Blaming.{accepts_in, blame_from}
use Rattle.passkey_explain.specs.Next.{IsRecordAt}
use Rattle.passkey_kinds.specs.Look.{tested}
use Rattle.passkey_kinds.specs.Shape.{Rows}
use Rattle.passkey_explain.proofs.descent.next_pair.Given as goal

abbrev pub invariant-loop-index : goal.invariant-loop-index
invariant-loop-index g l =
    (rows : Rows)
    → IsRecordAt l.way (tested g.M.FromCbor.typed) rows l.table.is_numbered (map entry_of l.table.rows.now)
    → (of : ℕ → Item → Blame) → (
    let from = blame_from (map entry_of l.table.rows.now) (accepts_in rows) of l.table.is_numbered in
    from 0 (map pair_of l.pairs) (λ n. false)
    ≡ from l.index (drop l.index (map pair_of l.pairs)) (λ n. get_or l.seen n false))
