use Rattle.std.proofs.Common.{◌≡◌, drop, map}
use Rattle.passkey_cbor_text.specs.values.Registries.{named_in, row_of}
use Rattle.passkey_cbor_text.proofs.values.registries.named_in.Given as goal

abbrev pub invariant-loop-own : goal.invariant-loop-own
invariant-loop-own g l = named_in l.name (drop l.own-index (map row_of l.rows)) ≡ named_in l.name (map row_of l.rows)
