use Rattle.std.proofs.Common.{◌≡◌, [], drop, map}
use Rattle.json.specs.Value.{value_view}
use Rattle.passkey_render.specs.DataParts.{flag_of}
use Rattle.passkey_render.specs.Parts.{read_each}
use Rattle.passkey_render.proofs.data_parts.flags_named.Given as goal

abbrev pub invariant-loop-index : goal.invariant-loop-index
invariant-loop-index l = read_each (λ _. flag_of) l.found.items l.index (drop l.index (map value_view l.all))
    ≡ read_each (λ _. flag_of) [] 0 (map value_view l.all)
