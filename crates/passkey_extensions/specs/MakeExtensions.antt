-- Extension inputs of authenticatorMakeCredential requests (CTAP 2.1, section 6.1).
use Rattle.std.specs.Prelude.{List, [], ◌∷◌, Bool, Option, None, codes, false, ◌||◌, is_some, option_map}
use Rattle.passkey_kinds.specs.Words.{kept_if_some, Item, Placed, optional_as, places_of, EachFits, Fields, fields_with, nested, record_tree, plain, Coded}
use Rattle.passkey_kinds.specs.Coded.{truth}
use Rattle.passkey_extensions.specs.HmacInput.{HmacInputParts, hmac_input_parts, hmac_coded, hmac_input_kept}
use Rattle.passkey_extensions.specs.Prf.{prf_inputs}
use Rattle.passkey_extensions.specs.declared.prf.AuthenticatorPrfInputs.{AuthenticatorPrfInputs}
use Rattle.passkey_extensions.specs.declared.make_credential.extension_inputs.ExtensionInputs.{ExtensionInputs}

-- what contracts see of the inputs
pub record MakeExtensionsParts : Type 0 where
  pub hmac_secret : Option Bool
  pub hmac_secret_mc : Option HmacInputParts
  pub prf : Option AuthenticatorPrfInputs

abbrev pub make_extensions_parts : ExtensionInputs → MakeExtensionsParts
make_extensions_parts x = record {
  hmac_secret = x.hmac_secret;
  hmac_secret_mc = option_map hmac_input_parts x.hmac_secret_mc;
  prf = x.prf;
}

abbrev pub no_make_extensions : ExtensionInputs
no_make_extensions = record { hmac_secret = None; hmac_secret_mc = None; prf = None }

-- whether any input is present
abbrev pub has_make_extension : ExtensionInputs → Bool
has_make_extension x = is_some x.hmac_secret || is_some x.hmac_secret_mc || is_some x.prf

abbrev pub make_extensions_members : List (Placed MakeExtensionsParts)
make_extensions_members =
    optional_as 3 (codes "prf") (plain prf_inputs) (λ e. e.prf) (λ x e. record e { prf = x })
    ∷ optional_as 1 (codes "hmac-secret") truth (λ e. e.hmac_secret) (λ x e. record e { hmac_secret = x })
    ∷ optional_as 2 (codes "hmac-secret-mc") hmac_coded (λ e. e.hmac_secret_mc) (λ x e. record e { hmac_secret_mc = x })
    ∷ []

abbrev pub make_extensions_fields : Fields MakeExtensionsParts
make_extensions_fields = fields_with false
    (record { hmac_secret = None; hmac_secret_mc = None; prf = None }) make_extensions_members

-- ---- the encoding of the inputs

abbrev pub make_extensions_tree : MakeExtensionsParts → Item
make_extensions_tree e = record_tree (places_of make_extensions_members e)

abbrev pub make_extensions_kept : MakeExtensionsParts → List Item
make_extensions_kept e = kept_if_some hmac_input_kept e.hmac_secret_mc

-- what holds of all inputs
abbrev pub MakeExtensionsFit : MakeExtensionsParts → Type 0
MakeExtensionsFit = EachFits make_extensions_members

-- the inputs as a member of a message
abbrev pub make_extensions_coded : Coded MakeExtensionsParts
make_extensions_coded = record { typed = nested make_extensions_fields; tree = make_extensions_tree; Fits = MakeExtensionsFit }
