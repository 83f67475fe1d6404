use Rattle.passkey_kinds.proofs.Common.{find, ◌≡◌, None, map, drop, entry_of, Entry, bytes_eq}
use Rattle.passkey_kinds.proofs.rows.with_other_name.Given as goal

abbrev pub invariant-loop-row : goal.invariant-loop-row
invariant-loop-row l = record {
  own : find (λ (e : Entry). bytes_eq e.name l.name) (map entry_of (drop l.row-index l.rows)) ≡ None;
  other : find (λ (e : Entry). bytes_eq e.other l.name) (map entry_of (drop l.row-index l.rows))
      ≡ find (λ (e : Entry). bytes_eq e.other l.name) (map entry_of l.rows);
}
