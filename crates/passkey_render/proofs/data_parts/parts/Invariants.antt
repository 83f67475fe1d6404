use Rattle.std.proofs.Common.{◌≡◌, [], drop, map}
use Rattle.passkey_render.specs.DataParts.{part_in, part_of}
use Rattle.passkey_render.specs.Parts.{named_in, read_each}
use Rattle.passkey_render.proofs.data_parts.parts.Given as goal

abbrev pub invariant-loop-index : goal.invariant-loop-index
invariant-loop-index g l =
    read_each (part_of g.S.Structure.part) (map part_in l.found.items) l.index (drop l.index (map named_in l.all))
    ≡ read_each (part_of g.S.Structure.part) [] 0 (map named_in l.all)
