use Rattle.passkey_kinds.proofs.Common.{find, ◌≡◌, map, drop}
use Rattle.passkey_webauthn.specs.Names.{row_of}
use Rattle.passkey_cbor.specs.CursorState.{ahead}
use Rattle.passkey_cbor.specs.Lent.{begins_text}
use Rattle.passkey_kinds.proofs.names.pass_named.Given as goal

abbrev pub invariant-loop-row : goal.invariant-loop-row
invariant-loop-row g l = record {
  same : l.cursor ≡ l.fn.cursor;
  first : find (λ n. begins_text n.0 (ahead l.cursor)) (map row_of (drop l.row-index l.table))
      ≡ find (λ n. begins_text n.0 (ahead l.cursor)) (map row_of l.table);
}
