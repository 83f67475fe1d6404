use Rattle.passkey_kinds.proofs.Common.{find, ◌≡◌, ◌==◌, map, drop, entry_of, Entry}
use Rattle.passkey_kinds.proofs.rows.numbered.Given as goal

abbrev pub invariant-loop-row : goal.invariant-loop-row
invariant-loop-row l =
    find (λ (e : Entry). e.number == l.number) (map entry_of (drop l.row-index l.rows))
    ≡ find (λ (e : Entry). e.number == l.number) (map entry_of l.rows)
