use Rattle.std.proofs.Common.{◌≡◌, Some, false, take, drop, map}
use Rattle.passkey_json.specs.Kind.{each}
use Rattle.passkey_json.proofs.written.array.Given as goal
use Rattle.serde_json.specs.View.{items_of, view}
use Rattle.serde_json.specs.Written.{items_have_float}

abbrev pub invariant-loop-element : goal.invariant-loop-element
invariant-loop-element g l =
    let kind = g.T.FromJson.kind in
    let json = g.T.ToJson.json l.form in
    let left = drop l.element-index l.elements in
    record {
      written : map view l.values.items ≡ map json (take l.element-index l.elements);
      reads_back : each kind (items_of (map json left)) ≡ Some left
          → each kind (items_of (map json l.elements)) ≡ Some l.elements;
      without_floats : items_have_float (items_of (map view l.values.items)) ≡ false;
    }
