use Rattle.std.proofs.Common.{◌≡◌, drop, map}
use Rattle.passkey_cbor.specs.View.{pair_of}
use Rattle.passkey_repair.specs.json.AttestationObjects.{auth_data_among}
use Rattle.passkey_repair.proofs.json.attestation_objects.auth_data_among.Given as goal

abbrev pub invariant-loop-key : goal.invariant-loop-key
invariant-loop-key l =
    auth_data_among (map pair_of l.members) ≡ auth_data_among (map pair_of (drop l.key-index l.members))
