-- authenticatorGetAssertion requests and their options (CTAP 2.1, section 6.2).
use Rattle.std.specs.Prelude.{[], ◌∷◌, true, false, codes, ℕ, List, Option, None, option_map}
use Rattle.passkey_extensions.specs.GetExtensions.{GetExtensionsParts, get_extensions_coded, get_extensions_parts, get_extensions_kept}
use Rattle.passkey_ctap2.specs.declared.get_assertion.options.Options.{Options}
use Rattle.passkey_ctap2.specs.declared.get_assertion.request.Request.{Request}
use Rattle.passkey_kinds.specs.Coded.{truth, byte, text, bytes, accepted_of, plain}
use Rattle.passkey_kinds.specs.Numbered.{numbered_fields}
use Rattle.passkey_kinds.specs.Words.{kept_if_some, PlainTable, plain_tree, default_as, Item, required_at, default_at, optional_at, tolerated_at, descriptor, Fields, PublicKeyCredentialDescriptor}

-- ---- options of authenticatorGetAssertion requests (CTAP 2.1, section 6.2)

abbrev pub options_default : Options
options_default = record { up = true; uv = false }

abbrev pub options : PlainTable Options
options = record {
  blank = options_default;
  members = default_as 1 (codes "up") truth (λ o. o.up) (λ x o. record o { up = x })
      ∷ default_as 2 (codes "uv") truth (λ o. o.uv) (λ x o. record o { uv = x })
      ∷ [];
}

-- ---- authenticatorGetAssertion requests (CTAP 2.1, section 6.2)

-- what contracts see of a request
pub record GetRequestParts : Type 0 where
  pub rp_id : List ℕ
  pub client_data_hash : List ℕ
  pub allow_list : Option (List PublicKeyCredentialDescriptor)
  pub extensions : Option GetExtensionsParts
  pub options : Options
  pub pin_auth : Option (List ℕ)
  pub pin_protocol : Option ℕ

abbrev pub get_request_parts : Request → GetRequestParts
get_request_parts r = record {
  rp_id = r.rp_id;
  client_data_hash = r.client_data_hash;
  allow_list = r.allow_list;
  extensions = option_map get_extensions_parts r.extensions;
  options = r.options;
  pin_auth = r.pin_auth;
  pin_protocol = r.pin_protocol;
}

abbrev pub get_request : PlainTable GetRequestParts
get_request = record {
  blank = record {
    rp_id = [];
    client_data_hash = [];
    allow_list = None;
    extensions = None;
    options = options_default;
    pin_auth = None;
    pin_protocol = None;
  };
  members = required_at 1 (codes "rpId") text (λ r. r.rp_id) (λ x r. record r { rp_id = x })
      ∷ required_at 2 (codes "clientDataHash") bytes (λ r. r.client_data_hash) (λ x r. record r { client_data_hash = x })
      ∷ tolerated_at 3 (codes "allowList") (accepted_of (plain descriptor)) (λ r. r.allow_list)
      (λ x r. record r { allow_list = x })
      ∷ tolerated_at 4 (codes "extensions") get_extensions_coded (λ r. r.extensions) (λ x r. record r { extensions = x })
      ∷ default_at 5 (codes "options") (plain options) (λ r. r.options) (λ x r. record r { options = x })
      ∷ optional_at 6 (codes "pinAuth") bytes (λ r. r.pin_auth) (λ x r. record r { pin_auth = x })
      ∷ optional_at 7 (codes "pinProtocol") byte (λ r. r.pin_protocol) (λ x r. record r { pin_protocol = x })
      ∷ [];
}

-- how a request is decoded
abbrev pub get_request_fields : Fields GetRequestParts
get_request_fields = numbered_fields get_request

-- the data item that a request is encoded as, and what it keeps undecoded of it
abbrev pub get_request_tree : GetRequestParts → Item
get_request_tree = plain_tree get_request

abbrev pub get_request_kept : GetRequestParts → List Item
get_request_kept r = kept_if_some get_extensions_kept r.extensions
