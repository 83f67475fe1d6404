-- Extension inputs of authenticatorGetAssertion requests (CTAP 2.1, section 6.2).
use Rattle.std.specs.Prelude.{List, [], ◌∷◌, Bool, Option, None, codes, false, ◌||◌, is_some, option_map}
use Rattle.passkey_kinds.specs.Words.{kept_if_some, Item, Placed, tolerated_as, places_of, EachFits, Fields, fields_with, nested, record_tree, plain, Coded}
use Rattle.passkey_extensions.specs.HmacInput.{HmacInputParts, hmac_input_parts, hmac_coded, hmac_input_kept}
use Rattle.passkey_extensions.specs.Prf.{prf_inputs}
use Rattle.passkey_extensions.specs.declared.prf.AuthenticatorPrfInputs.{AuthenticatorPrfInputs}
use Rattle.passkey_extensions.specs.declared.get_assertion.extension_inputs.ExtensionInputs.{ExtensionInputs}

-- what contracts see of the inputs
pub record GetExtensionsParts : Type 0 where
  pub hmac_secret : Option HmacInputParts
  pub prf : Option AuthenticatorPrfInputs

abbrev pub get_extensions_parts : ExtensionInputs → GetExtensionsParts
get_extensions_parts x = record { hmac_secret = option_map hmac_input_parts x.hmac_secret; prf = x.prf }

abbrev pub no_get_extensions : ExtensionInputs
no_get_extensions = record { hmac_secret = None; prf = None }

-- whether any input is present
abbrev pub has_get_extension : ExtensionInputs → Bool
has_get_extension x = is_some x.hmac_secret || is_some x.prf

abbrev pub get_extensions_members : List (Placed GetExtensionsParts)
get_extensions_members =
    tolerated_as 2 (codes "prf") (plain prf_inputs) (λ e. e.prf) (λ x e. record e { prf = x })
    ∷ tolerated_as 1 (codes "hmac-secret") hmac_coded (λ e. e.hmac_secret) (λ x e. record e { hmac_secret = x })
    ∷ []

abbrev pub get_extensions_fields : Fields GetExtensionsParts
get_extensions_fields = fields_with false (record { hmac_secret = None; prf = None }) get_extensions_members

-- ---- the encoding of the inputs

abbrev pub get_extensions_tree : GetExtensionsParts → Item
get_extensions_tree e = record_tree (places_of get_extensions_members e)

abbrev pub get_extensions_kept : GetExtensionsParts → List Item
get_extensions_kept e = kept_if_some hmac_input_kept e.hmac_secret

-- what holds of all inputs
abbrev pub GetExtensionsFit : GetExtensionsParts → Type 0
GetExtensionsFit = EachFits get_extensions_members

-- the inputs as a member of a message
abbrev pub get_extensions_coded : Coded GetExtensionsParts
get_extensions_coded = record { typed = nested get_extensions_fields; tree = get_extensions_tree; Fits = GetExtensionsFit }
