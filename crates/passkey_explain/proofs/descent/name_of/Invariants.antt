use Rattle.passkey_kinds.proofs.Common.{◌≡◌, map, drop, entry_of}
use Rattle.passkey_explain.specs.Blaming.{name_at}
use Rattle.passkey_explain.proofs.descent.name_of.Given as goal

abbrev pub invariant-loop-row : goal.invariant-loop-row
invariant-loop-row l =
    name_at (map entry_of (drop l.row-index l.rows)) l.number ≡ name_at (map entry_of l.rows) l.number
