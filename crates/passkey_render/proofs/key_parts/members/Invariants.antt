use Rattle.std.proofs.Common.{◌≡◌, [], drop, map}
use Rattle.passkey_cbor.specs.View.{pair_of}
use Rattle.passkey_render.specs.KeyParts.{with_parameter}
use Rattle.passkey_render.specs.Parts.{named_in, read_all}
use Rattle.passkey_render.proofs.key_parts.members.Given as goal

abbrev pub invariant-loop-index : goal.invariant-loop-index
invariant-loop-index l = read_all with_parameter (map pair_of l.found.items) l.index (drop l.index (map named_in l.all))
    ≡ read_all with_parameter [] 0 (map named_in l.all)
