use Rattle.std.proofs.Common.{map}
use Rattle.passkey_cbor.proofs.items.Items.{members-pairs_of}
use Rattle.passkey_cbor.proofs.building.Views.{item_of-Map}
use Rattle.passkey_cbor.specs.View.{pair_of}
use Rattle.passkey_repair.proofs.json.attestation_objects.auth_data_of.Goals as goal

pub returns-in-Map : goal.returns-in-Map
returns-in-Map c =
    rw (
      c.in-Map.is,
      item_of-Map c.in-Map.members,
      members-pairs_of (map pair_of c.in-Map.members.items),
      ← c.deref.ensures.value,
    ) c.auth_data_among.ensures
