-- Inputs and outputs of the client extension payment, over JSON (W3C Secure Payment Confirmation).
use Rattle.std.specs.Prelude.{true, [], ◌∷◌, None, codes, refl}
use Rattle.passkey_client.specs.declared.payment.BrowserBoundSignature.{BrowserBoundSignature}
use Rattle.passkey_client.specs.declared.payment.PaymentCredentialInstrument.{PaymentCredentialInstrument}
use Rattle.passkey_client.specs.declared.payment.PaymentCurrencyAmount.{PaymentCurrencyAmount}
use Rattle.passkey_client.specs.declared.payment.PaymentEntityLogo.{PaymentEntityLogo}
use Rattle.passkey_client.specs.declared.payment.PaymentInputs.{PaymentInputs}
use Rattle.passkey_client.specs.declared.payment.PaymentOutputs.{PaymentOutputs}
use Rattle.passkey_json.specs.Coded.{bytes_value, list_value, text_value, truth_value}
use Rattle.passkey_json.specs.Table.{PlainTable, nested, accepted_as, default_as, optional_as, required_as}
use Rattle.passkey_json.specs.WebAuthn.{parameters}

-- `PaymentCurrencyAmount`
abbrev pub currency_amount : PlainTable PaymentCurrencyAmount
currency_amount = record {
  blank = record { currency = []; value = [] };
  members = required_as 1 (codes "currency") text_value (λ r. r.currency) (λ v r. record r { currency = v })
      ∷ required_as 2 (codes "value") text_value (λ r. r.value) (λ v r. record r { value = v })
      ∷ [];
  sound = λ r. (refl, refl);
}

-- `PaymentCredentialInstrument`
abbrev pub payment_instrument : PlainTable PaymentCredentialInstrument
payment_instrument = record {
  blank = record { display_name = []; icon = []; icon_must_be_shown = true; details = None };
  members = required_as 1 (codes "displayName") text_value
      (λ r. r.display_name) (λ v r. record r { display_name = v })
      ∷ required_as 2 (codes "icon") text_value (λ r. r.icon) (λ v r. record r { icon = v })
      ∷ default_as 3 (codes "iconMustBeShown") truth_value true
      (λ r. r.icon_must_be_shown) (λ v r. record r { icon_must_be_shown = v })
      ∷ optional_as 4 (codes "details") text_value (λ r. r.details) (λ v r. record r { details = v })
      ∷ [];
  sound = λ r. (refl, refl);
}

-- `PaymentEntityLogo`
abbrev pub payment_entity_logo : PlainTable PaymentEntityLogo
payment_entity_logo = record {
  blank = record { url = []; label = [] };
  members = required_as 1 (codes "url") text_value (λ r. r.url) (λ v r. record r { url = v })
      ∷ required_as 2 (codes "label") text_value (λ r. r.label) (λ v r. record r { label = v })
      ∷ [];
  sound = λ r. (refl, refl);
}

-- `AuthenticationExtensionsPaymentInputs`
abbrev pub payment_inputs : PlainTable PaymentInputs
payment_inputs = record {
  blank = record {
    is_payment = None;
    rp_id = None;
    top_origin = None;
    payee_name = None;
    payee_origin = None;
    total = None;
    instrument = None;
    browser_bound_pub_key_cred_params = None;
    payment_entities_logos = None;
  };
  members = optional_as 1 (codes "isPayment") truth_value (λ r. r.is_payment) (λ v r. record r { is_payment = v })
      ∷ optional_as 2 (codes "rpId") text_value (λ r. r.rp_id) (λ v r. record r { rp_id = v })
      ∷ optional_as 3 (codes "topOrigin") text_value (λ r. r.top_origin) (λ v r. record r { top_origin = v })
      ∷ optional_as 4 (codes "payeeName") text_value (λ r. r.payee_name) (λ v r. record r { payee_name = v })
      ∷ optional_as 5 (codes "payeeOrigin") text_value (λ r. r.payee_origin) (λ v r. record r { payee_origin = v })
      ∷ optional_as 6 (codes "total") (nested currency_amount) (λ r. r.total) (λ v r. record r { total = v })
      ∷ optional_as 7 (codes "instrument") (nested payment_instrument)
      (λ r. r.instrument) (λ v r. record r { instrument = v })
      ∷ accepted_as 8 (codes "browserBoundPubKeyCredParams") (nested parameters)
      (λ r. r.browser_bound_pub_key_cred_params) (λ v r. record r { browser_bound_pub_key_cred_params = v })
      ∷ optional_as 9 (codes "paymentEntitiesLogos") (list_value (nested payment_entity_logo))
      (λ r. r.payment_entities_logos) (λ v r. record r { payment_entities_logos = v })
      ∷ [];
  sound = λ r. (refl, refl);
}

-- `BrowserBoundSignature`
abbrev pub browser_bound_signature : PlainTable BrowserBoundSignature
browser_bound_signature = record {
  blank = record { signature = [] };
  members = required_as 1 (codes "signature") bytes_value (λ r. r.signature) (λ v r. record r { signature = v })
      ∷ [];
  sound = λ r. (refl, refl);
}

-- `AuthenticationExtensionsPaymentOutputs`
abbrev pub payment_outputs : PlainTable PaymentOutputs
payment_outputs = record {
  blank = record { browser_bound_signature = None };
  members = optional_as 1 (codes "browserBoundSignature") (nested browser_bound_signature)
      (λ r. r.browser_bound_signature) (λ v r. record r { browser_bound_signature = v })
      ∷ [];
  sound = λ r. (refl, refl);
}
