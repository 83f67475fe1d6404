use Rattle.std.proofs.Common.{◌≡◌, drop, map}
use Rattle.passkey_cbor_text.specs.values.Registries.{named_in}
use Rattle.passkey_render.specs.DataParts.{part_in}
use Rattle.passkey_render.proofs.data_parts.bytes_named.Given as goal

abbrev pub invariant-loop-own : goal.invariant-loop-own
invariant-loop-own l = named_in l.name (drop l.own-index (map part_in l.parts)) ≡ named_in l.name (map part_in l.parts)
