use Rattle.passkey_kinds.proofs.Common.{◌≡◌, map, drop, get_or, false, first_missing, entry_of}
use Rattle.passkey_kinds.proofs.record.first_missing.Given as goal

abbrev pub invariant-loop-row : goal.invariant-loop-row
invariant-loop-row l =
    first_missing (map entry_of (drop l.row-index l.rows)) (λ n. get_or l.seen n false)
    ≡ first_missing (map entry_of l.rows) (λ n. get_or l.seen n false)
