-- The pairs of a map that is decoded as a key, lent or owned.
use Rattle.std.specs.Prelude.{List}
use Rattle.passkey_cbor.specs.declared.value.Value.{Value}
use Rattle.passkey_cose.specs.declared.pairs.Pairs.{Pairs}
use Rattle.passkey_cose.specs.declared.pairs.Pairs.TheVariants.{Lent, Owned}

abbrev pub values_in : Pairs → List (Value × Value)
values_in (Lent s) = s.now
values_in (Owned v) = v.items
