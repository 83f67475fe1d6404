-- What client data is for (WebAuthn Level 3, section 5.8.1).
use Rattle.std.specs.Prelude.{◌≡◌, ℕ, List, [], ◌∷◌, Some, codes, refl}
use Rattle.passkey_json.specs.Coded.{Coded, named_value}
use Rattle.passkey_webauthn_json.specs.contracts.client_data.client_data_type.ClientDataType.{the_type}
use Rattle.passkey_webauthn_json.specs.declared.client_data.client_data_type.ClientDataType.{ClientDataType}
use Rattle.passkey_webauthn_json.specs.declared.client_data.client_data_type.ClientDataType.TheVariants as client_data_type
use Rattle.passkey_webauthn.specs.Names.{Names, own_name, value_in}

abbrev pub client_data_types : Names ClientDataType
client_data_types = (codes "webauthn.create", client_data_type.Create)
    ∷ (codes "webauthn.get", client_data_type.Get)
    ∷ (codes "payment.get", client_data_type.PaymentGet)
    ∷ []

abbrev pub client_data_type_name : ClientDataType → List ℕ
client_data_type_name = own_name the_type client_data_types

abbrev pub client_data_type_value : Coded ClientDataType
client_data_type_value = named_value the_type client_data_types

pub client_data_type_own : (x : ClientDataType) → value_in client_data_types (client_data_type_name x) ≡ Some x
client_data_type_own client_data_type.Create = refl
client_data_type_own _ = refl
