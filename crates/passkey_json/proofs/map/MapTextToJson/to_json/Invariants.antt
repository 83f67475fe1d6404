use Rattle.std.specs.FinMap as fin
use Rattle.std.proofs.Common.{◌≡◌}
use Rattle.passkey_json.specs.MapKind.{members_json}
use Rattle.passkey_json.specs.Written.{so_far}
use Rattle.passkey_json.proofs.MapsBack.{EachBack, put_members}
use Rattle.passkey_json.proofs.map.MapTextToJson.to_json.Given as goal

abbrev pub invariant-loop-name : goal.invariant-loop-name
invariant-loop-name g l =
    let json = g.T.ToJson.json l.form in
    record {
      written : put_members json (so_far l.members) l.name-iterator ≡ members_json json (fin.entries l.self);
      reads_back : EachBack g.T.FromJson.kind json l.name-iterator
          → EachBack g.T.FromJson.kind json (fin.entries l.self);
    }
