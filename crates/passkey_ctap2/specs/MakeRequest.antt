-- authenticatorMakeCredential requests and their options (CTAP 2.1, section 6.1).
use Rattle.std.specs.Prelude.{[], ◌∷◌, true, false, codes, ℕ, List, Option, None, option_map}
use Rattle.passkey_extensions.specs.Entities.{rp}
use Rattle.passkey_extensions.specs.declared.rp.PublicKeyCredentialRpEntity.{PublicKeyCredentialRpEntity}
use Rattle.passkey_extensions.specs.MakeExtensions.{MakeExtensionsParts, make_extensions_coded, make_extensions_parts, make_extensions_kept}
use Rattle.passkey_kinds.specs.Coded.{truth, bytes, accepted_of}
use Rattle.passkey_kinds.specs.Numbered.{numbered_fields}
use Rattle.passkey_kinds.specs.Words.{byte, plain, plain_tree, where_true, kept_if_some, text_string, PlainTable, placed, default_as, default, Item, required_at, default_at, optional_at, tolerated_at, descriptor, parameters, webauthn_user, Fields, PublicKeyCredentialDescriptor, PublicKeyCredentialParameters, PublicKeyCredentialUserEntity}
use Rattle.passkey_ctap2.specs.declared.make_credential.options.Options.{Options}
use Rattle.passkey_ctap2.specs.declared.make_credential.request.Request.{Request}

-- ---- options of authenticatorMakeCredential requests (CTAP 2.1, section 6.1)

abbrev pub options_default : Options
options_default = record { rk = false; up = true; uv = false }

-- `up` is true by default, and is encoded only if it is true
abbrev pub options : PlainTable Options
options = record {
  blank = options_default;
  members = default_as 1 (codes "rk") truth (λ o. o.rk) (λ x o. record o { rk = x })
      ∷ placed (default 2 (codes "up") truth.typed (λ x o. record o { up = x }))
      (λ o. where_true (text_string (codes "up")) o.up)
      ∷ default_as 3 (codes "uv") truth (λ o. o.uv) (λ x o. record o { uv = x })
      ∷ [];
}

-- `up` isn't encoded if it is false, and then decodes to true
abbrev pub normal_options : Options → Options
normal_options o = record o { up = true }

-- ---- authenticatorMakeCredential requests (CTAP 2.1, section 6.1)

-- what contracts see of a request
pub record MakeRequestParts : Type 0 where
  pub client_data_hash : List ℕ
  pub rp : PublicKeyCredentialRpEntity
  pub user : PublicKeyCredentialUserEntity
  pub pub_key_cred_params : List PublicKeyCredentialParameters
  pub exclude_list : Option (List PublicKeyCredentialDescriptor)
  pub extensions : Option MakeExtensionsParts
  pub options : Options
  pub pin_auth : Option (List ℕ)
  pub pin_protocol : Option ℕ

abbrev pub make_request_parts : Request → MakeRequestParts
make_request_parts r = record {
  client_data_hash = r.client_data_hash;
  rp = r.rp;
  user = r.user;
  pub_key_cred_params = r.pub_key_cred_params;
  exclude_list = r.exclude_list;
  extensions = option_map make_extensions_parts r.extensions;
  options = r.options;
  pin_auth = r.pin_auth;
  pin_protocol = r.pin_protocol;
}

abbrev pub make_request : PlainTable MakeRequestParts
make_request = record {
  blank = record {
    client_data_hash = [];
    rp = rp.blank;
    user = webauthn_user.blank;
    pub_key_cred_params = [];
    exclude_list = None;
    extensions = None;
    options = options_default;
    pin_auth = None;
    pin_protocol = None;
  };
  members = required_at 1 (codes "clientDataHash") bytes (λ r. r.client_data_hash)
      (λ x r. record r { client_data_hash = x })
      ∷ required_at 2 (codes "rp") (plain rp) (λ r. r.rp) (λ x r. record r { rp = x })
      ∷ required_at 3 (codes "user") (plain webauthn_user) (λ r. r.user) (λ x r. record r { user = x })
      ∷ required_at 4 (codes "pubKeyCredParams") (accepted_of (plain parameters)) (λ r. r.pub_key_cred_params)
      (λ x r. record r { pub_key_cred_params = x })
      ∷ tolerated_at 5 (codes "excludeList") (accepted_of (plain descriptor)) (λ r. r.exclude_list)
      (λ x r. record r { exclude_list = x })
      ∷ optional_at 6 (codes "extensions") make_extensions_coded (λ r. r.extensions) (λ x r. record r { extensions = x })
      ∷ default_at 7 (codes "options") (plain options) (λ r. r.options) (λ x r. record r { options = x })
      ∷ optional_at 8 (codes "pinAuth") bytes (λ r. r.pin_auth) (λ x r. record r { pin_auth = x })
      ∷ optional_at 9 (codes "pinProtocol") byte (λ r. r.pin_protocol) (λ x r. record r { pin_protocol = x })
      ∷ [];
}

-- how a request is decoded
abbrev pub make_request_fields : Fields MakeRequestParts
make_request_fields = numbered_fields make_request

-- the data item that a request is encoded as, and what it keeps undecoded of it
abbrev pub make_request_tree : MakeRequestParts → Item
make_request_tree = plain_tree make_request

abbrev pub make_request_kept : MakeRequestParts → List Item
make_request_kept r = kept_if_some make_extensions_kept r.extensions

-- the request that the encoding decodes to
abbrev pub normal_make_request : MakeRequestParts → MakeRequestParts
normal_make_request r = record r { options = normal_options r.options }
