use Rattle.std.proofs.Common.{◌≡◌, map, drop}
use Rattle.passkey_json.specs.Shape.{entry_named, entry_of}
use Rattle.passkey_json.proofs.plain_json_record.row_named.Given as goal

abbrev pub invariant-loop-row : goal.invariant-loop-row
invariant-loop-row l =
    entry_named (map entry_of (drop l.row-index l.rows)) l.name ≡ entry_named (map entry_of l.rows) l.name
