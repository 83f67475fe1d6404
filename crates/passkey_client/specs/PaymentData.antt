-- The payment that the user confirmed, another member of client data (W3C Secure Payment Confirmation).
use Rattle.std.specs.Prelude.{◌≡◌, ℕ, Bool, true, false, if◌then◌else◌, List, [], ◌∷◌, Option, Some, None, Result, Ok, codes, option_and_then, refl}
use Rattle.std.specs.Str.{bytes_eq}
use Rattle.passkey_webauthn_json.specs.client_data.ClientDataType.{client_data_type_value}
use Rattle.passkey_webauthn_json.specs.client_data.ExtraData.{are_extra}
use Rattle.passkey_webauthn_json.specs.declared.client_data.client_data_type.ClientDataType.{ClientDataType}
use Rattle.passkey_webauthn_json.specs.declared.client_data.client_data_type.ClientDataType.TheVariants as type
use Rattle.passkey_client.specs.Payment.{currency_amount, payment_entity_logo, payment_instrument}
use Rattle.passkey_client.specs.declared.payment_data.AdditionalPaymentData.{AdditionalPaymentData}
use Rattle.passkey_client.specs.declared.payment_data.PaymentData.{PaymentData}
use Rattle.passkey_client.specs.declared.payment_data.PaymentData.TheVariants as payment
use Rattle.passkey_client.specs.declared.payment_data.RegistrationPaymentData.{RegistrationPaymentData}
use Rattle.passkey_json.specs.Coded.{bytes_value, list_value, text_value}
use Rattle.passkey_json.specs.Fault.{Fault}
use Rattle.passkey_json.specs.Members.{◌>>=◌, Object, if_present, member, takes_at}
use Rattle.passkey_json.specs.Table.{PlainTable, nested, optional_as, required_as, table_json}
use Rattle.passkey_json.specs.declared.bytes_form.BytesForm.TheVariants.{Base64Url}
use Rattle.serde_json.specs.Data.{Members, no_members}
use Rattle.serde_json.specs.Data.{member as members_one}

-- `CollectedClientAdditionalPaymentData`
abbrev pub additional_payment_data : PlainTable AdditionalPaymentData
additional_payment_data = record {
  blank = record {
    rp_id = [];
    top_origin = [];
    payee_name = None;
    payee_origin = None;
    total = currency_amount.blank;
    instrument = payment_instrument.blank;
    payment_entities_logos = None;
    browser_bound_public_key = None;
  };
  members = required_as 1 (codes "rpId") text_value (λ r. r.rp_id) (λ v r. record r { rp_id = v })
      ∷ required_as 2 (codes "topOrigin") text_value (λ r. r.top_origin) (λ v r. record r { top_origin = v })
      ∷ optional_as 3 (codes "payeeName") text_value (λ r. r.payee_name) (λ v r. record r { payee_name = v })
      ∷ optional_as 4 (codes "payeeOrigin") text_value (λ r. r.payee_origin) (λ v r. record r { payee_origin = v })
      ∷ required_as 5 (codes "total") (nested currency_amount) (λ r. r.total) (λ v r. record r { total = v })
      ∷ required_as 6 (codes "instrument") (nested payment_instrument)
      (λ r. r.instrument) (λ v r. record r { instrument = v })
      ∷ optional_as 7 (codes "paymentEntitiesLogos") (list_value (nested payment_entity_logo))
      (λ r. r.payment_entities_logos) (λ v r. record r { payment_entities_logos = v })
      ∷ optional_as 8 (codes "browserBoundPublicKey") bytes_value
      (λ r. r.browser_bound_public_key) (λ v r. record r { browser_bound_public_key = v })
      ∷ [];
  sound = λ r. (refl, refl);
}

-- `CollectedClientAdditionalPaymentRegistrationData`
abbrev pub registration_payment_data : PlainTable RegistrationPaymentData
registration_payment_data = record {
  blank = record { browser_bound_public_key = None };
  members = optional_as 1 (codes "browserBoundPublicKey") bytes_value
      (λ r. r.browser_bound_public_key) (λ v r. record r { browser_bound_public_key = v })
      ∷ [];
  sound = λ r. (refl, refl);
}

abbrev pub is_payment : List ℕ → Bool
is_payment name = bytes_eq name (codes "payment")

abbrev made : {A : Type 0} → (A → PaymentData) → Option A → PaymentData
made make (Some x) = make x
made make None = payment.Absent

-- the value of a record's kind, if the member is present
abbrev payment_as : {A : Type 0} → PlainTable A → (A → PaymentData) → Object → Result PaymentData Fault
payment_as t make o = if_present (nested t).kind (member (codes "payment") o) >>= λ found. Ok (made make found)

-- client data of a registration
abbrev pub is_creation : Option ClientDataType → Bool
is_creation (Some type.Create) = true
is_creation _ = false

abbrev payment_of : Option ClientDataType → Object → Result PaymentData Fault
payment_of ty o =
    if is_creation ty then payment_as registration_payment_data payment.Registration o
    else payment_as additional_payment_data payment.Confirmed o

-- the payment in client data, by their type
abbrev pub payment_in : Object → Result PaymentData Fault
payment_in o = if_present client_data_type_value.kind (member (codes "type") o) >>= λ ty. payment_of ty o

-- whether decoding it may take memory
abbrev pub payment_takes : Object → Bool
payment_takes o =
    if is_creation (option_and_then client_data_type_value.kind (o (codes "type")))
    then takes_at (nested registration_payment_data).takes (o (codes "payment"))
    else takes_at (nested additional_payment_data).takes (o (codes "payment"))

abbrev payment_member : {A : Type 0} → PlainTable A → A → Members
payment_member t x = members_one (codes "payment") (table_json t Base64Url x) no_members

-- the members that the payment is encoded as
abbrev pub payment_members : PaymentData → Members
payment_members payment.Absent = no_members
payment_members (payment.Registration p) = payment_member registration_payment_data p
payment_members (payment.Confirmed p) = payment_member additional_payment_data p

pub payment_members_are_extra : (p : PaymentData) → are_extra is_payment (payment_members p) ≡ true
payment_members_are_extra payment.Absent = refl
payment_members_are_extra (payment.Registration p) = refl
payment_members_are_extra (payment.Confirmed p) = refl
