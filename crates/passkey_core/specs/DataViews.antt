-- Authenticator data as contracts see it.
use Rattle.std.specs.Prelude.{option_map}
use Rattle.passkey_cbor.specs.View.{item_of}
use Rattle.passkey_cose.specs.Key.{key_parts}
use Rattle.passkey_core.specs.DataParts.{AttestedParts, DataParts}
use Rattle.passkey_core.specs.declared.attested.data.AttestedCredentialData.{AttestedCredentialData}
use Rattle.passkey_core.specs.declared.authenticator_data.AuthenticatorData.{AuthenticatorData}

abbrev pub attested_parts : AttestedCredentialData → AttestedParts
attested_parts a = record {
  aaguid = a.aaguid.0;
  credential_id = a.credential_id.items;
  key = key_parts a.key;
}

abbrev pub data_parts : AuthenticatorData → DataParts
data_parts d = record {
  rp_id_hash = d.rp_id_hash;
  flags = d.flags.0;
  counter = d.counter;
  attested = option_map attested_parts d.attested_credential_data;
  extensions = option_map item_of d.extensions;
}
