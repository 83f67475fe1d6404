-- The parts of authenticator data as C sees them.
use Rattle.std.specs.Prelude.{ℕ, List, Bool, Option, Some, None}
use Rattle.passkey_view.specs.declared.data_view.AttestedView.{AttestedView}
use Rattle.passkey_view.specs.declared.data_view.DataView.{DataView}
use Rattle.passkey_view.specs.declared.item_view.ItemView.{ItemView}
use Rattle.passkey_view.specs.DataView.{IsDataView}
use Rattle.passkey_view_c.specs.Items.{WritesAs}
use Rattle.passkey_view_c.specs.declared.auth_data.AuthData.{AuthData}

-- where the part begins, or 0 if it is absent
abbrev pub from_of : Option ItemView → ℕ
from_of (Some v) = v.from
from_of None = 0

abbrev pub aaguid_of : Option AttestedView → ℕ
aaguid_of (Some a) = a.aaguid
aaguid_of None = 0

abbrev pub id_of : Option AttestedView → ℕ
id_of (Some a) = a.credential_id
id_of None = 0

abbrev pub id_len_of : Option AttestedView → ℕ
id_len_of (Some a) = a.credential_id_len
id_len_of None = 0

abbrev pub key_of : Option AttestedView → ℕ
key_of (Some a) = a.public_key.from
key_of None = 0

abbrev pub parts_of : DataView → AuthData
parts_of v = record {
  aaguid = aaguid_of v.attested;
  credential_id = id_of v.attested;
  credential_id_len = id_len_of v.attested;
  public_key = key_of v.attested;
  extensions = from_of v.extensions;
  end = v.end;
  counter = v.counter;
  flags = v.flags;
}

-- No such parts are at the beginning of the bytes.
abbrev pub HasNoData : List ℕ → Type 0
HasNoData bytes = (v : DataView) → IsDataView bytes v → ⊥

abbrev pub WritesParts : Type 0 → (DataView → Type 0) → AuthData → AuthData → Bool → Type 0
WritesParts = WritesAs parts_of
