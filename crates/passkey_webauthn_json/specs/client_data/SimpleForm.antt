-- Client data in the simple form, as clients write them (WebAuthn Level 3, section 5.8.1.1): the members that all client
-- data has, in their order, and no others; nothing between the tokens, and no escapes in the strings.
use Rattle.std.specs.Prelude.{◌≡◌, ℕ, Bool, true, false, List, ◌∷◌, ◌++◌, Some, codes}
use Rattle.std.specs.List.{list_all}
use Rattle.passkey_webauthn_json.specs.client_data.ClientDataText.{is_plain}
use Rattle.passkey_webauthn_json.specs.client_data.ClientDataType.{client_data_types}
use Rattle.passkey_webauthn_json.specs.declared.client_data.simple_form.SimpleForm.{SimpleForm}
use Rattle.passkey_webauthn.specs.Names.{value_in}

-- what follows the quote after `origin`
abbrev pub end_text : Bool → List ℕ
end_text true = codes ",\"crossOrigin\":true}"
end_text false = codes ",\"crossOrigin\":false}"

-- the simple form, up to this end
abbrev pub simple_text : List ℕ → List ℕ → List ℕ → List ℕ → List ℕ
simple_text type_name challenge origin end =
    codes "{\"type\":\"" ++ (type_name ++ 34 ∷ (codes ",\"challenge\":\"" ++ (challenge ++ 34 ∷
    (codes ",\"origin\":\"" ++ (origin ++ 34 ∷ end)))))

-- The text is the front, a string without escapes, a quote and the rest.
pub record IsPlainAfter (front text string rest : List ℕ) : Type 0 where
  pub parts : text ≡ front ++ (string ++ 34 ∷ rest)
  pub plain : list_all is_plain string ≡ true

-- The text has the simple form, with these members.
pub record IsSimple (text : List ℕ) (form : SimpleForm) : Type 0 where
  pub type_name : List ℕ
  pub named : value_in client_data_types type_name ≡ Some form.ty
  pub same : text ≡ simple_text type_name form.challenge.now form.origin.now (end_text form.cross_origin)
  pub plain_type : list_all is_plain type_name ≡ true
  pub plain_challenge : list_all is_plain form.challenge.now ≡ true
  pub plain_origin : list_all is_plain form.origin.now ≡ true
