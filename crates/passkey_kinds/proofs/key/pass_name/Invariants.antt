use Rattle.passkey_kinds.proofs.Common.{find, ◌≡◌, map, drop, entry_of, Entry}
use Rattle.passkey_cbor.specs.CursorState.{ahead}
use Rattle.passkey_cbor.specs.Lent.{begins_text}
use Rattle.passkey_kinds.proofs.key.pass_name.Given as goal

abbrev pub invariant-loop-row : goal.invariant-loop-row
invariant-loop-row l = record {
  same : l.cursor ≡ l.fn.cursor;
  first : find (λ (e : Entry). begins_text e.name (ahead l.cursor)) (map entry_of (drop l.row-index l.rows))
      ≡ find (λ (e : Entry). begins_text e.name (ahead l.cursor)) (map entry_of l.rows);
}
