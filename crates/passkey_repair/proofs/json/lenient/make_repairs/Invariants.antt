use Rattle.std.proofs.Common.{◌≡◌, ◌++◌, drop, map}
use Rattle.passkey_repair.specs.json.Edits.{edit_of}
use Rattle.passkey_repair.specs.json.Repairs.{edited_by, edits_made}
use Rattle.passkey_repair.proofs.json.lenient.make_repairs.Given as goal
use Rattle.serde_json.specs.View.{view}

abbrev pub invariant-loop-repair : goal.invariant-loop-repair
invariant-loop-repair l =
    let all = map edit_of l.repairs in
    let left = map edit_of (drop l.repair-index l.repairs) in
    record {
      value : edited_by left (view l.value) ≡ edited_by all (view l.fn.value);
      list : map edit_of l.made.items ++ edits_made left (view l.value) ≡ edits_made all (view l.fn.value);
    }
