use Rattle.std.proofs.Common.{rules, map}
use Rattle.passkey_cbor.specs.View.{pair_of}
use Rattle.passkey_cbor.proofs.building.Views.{item_of-Map}
use Rattle.passkey_cose.proofs.KeyLists.{read_key-map}
use Rattle.passkey_cose.proofs.key.CoseKey.from_value.Goals as goal

pub returns-in-Map : goal.returns-in-Map
returns-in-Map c =
    rw (c.in-Map.is, item_of-Map c.in-Map.pairs, read_key-map (map pair_of c.in-Map.pairs.items)) (search rules)
