-- Options of authenticatorGetInfo responses (CTAP 2.3, section 6.4).
use Rattle.std.specs.Prelude.{ℕ, List, [], ◌∷◌, ◌++◌, Bool, Option, None, codes}
use Rattle.passkey_registered.specs.declared.get_info.options.Options.{Options}
use Rattle.passkey_kinds.specs.Coded.{truth}
use Rattle.passkey_kinds.specs.Words.{Placed, PlainTable, optional_as}

abbrev flag : ℕ → List ℕ → (Options → Option Bool) → (Option Bool → Options → Options) → Placed Options
flag n name get set = optional_as n name truth get set

-- the options that are encoded first: the prover follows the chain of as many members
abbrev pub first_options : List (Placed Options)
first_options =
    flag 1 (codes "ep") (λ o. o.ep) (λ x o. record o { ep = x })
    ∷ flag 2 (codes "rk") (λ o. o.rk) (λ x o. record o { rk = x })
    ∷ flag 3 (codes "up") (λ o. o.up) (λ x o. record o { up = x })
    ∷ flag 4 (codes "uv") (λ o. o.uv) (λ x o. record o { uv = x })
    ∷ flag 5 (codes "plat") (λ o. o.plat) (λ x o. record o { plat = x })
    ∷ flag 6 (codes "uvAcfg") (λ o. o.uv_acfg) (λ x o. record o { uv_acfg = x })
    ∷ flag 7 (codes "alwaysUv") (λ o. o.always_uv) (λ x o. record o { always_uv = x })
    ∷ flag 8 (codes "credMgmt") (λ o. o.cred_mgmt) (λ x o. record o { cred_mgmt = x })
    ∷ flag 9 (codes "authnrCfg") (λ o. o.authnr_cfg) (λ x o. record o { authnr_cfg = x })
    ∷ flag 10 (codes "bioEnroll") (λ o. o.bio_enroll) (λ x o. record o { bio_enroll = x })
    ∷ []

abbrev pub last_options : List (Placed Options)
last_options =
    flag 11 (codes "clientPin") (λ o. o.client_pin) (λ x o. record o { client_pin = x })
    ∷ flag 12 (codes "largeBlobs") (λ o. o.large_blobs) (λ x o. record o { large_blobs = x })
    ∷ flag 13 (codes "uvBioEnroll") (λ o. o.uv_bio_enroll) (λ x o. record o { uv_bio_enroll = x })
    ∷ flag 14 (codes "perCredMgmtRO") (λ o. o.per_cred_mgmt_ro) (λ x o. record o { per_cred_mgmt_ro = x })
    ∷ flag 15 (codes "pinUvAuthToken") (λ o. o.pin_uv_auth_token) (λ x o. record o { pin_uv_auth_token = x })
    ∷ flag 16 (codes "setMinPINLength") (λ o. o.set_min_pin_length)
    (λ x o. record o { set_min_pin_length = x })
    ∷ flag 17 (codes "makeCredUvNotRqd") (λ o. o.make_cred_uv_not_rqd)
    (λ x o. record o { make_cred_uv_not_rqd = x })
    ∷ flag 18 (codes "credentialMgmtPreview") (λ o. o.credential_mgmt_preview)
    (λ x o. record o { credential_mgmt_preview = x })
    ∷ flag 19 (codes "userVerificationMgmtPreview") (λ o. o.user_verification_mgmt_preview)
    (λ x o. record o { user_verification_mgmt_preview = x })
    ∷ flag 20 (codes "noMcGaPermissionsWithClientPin") (λ o. o.no_mc_ga_permissions_with_client_pin)
    (λ x o. record o { no_mc_ga_permissions_with_client_pin = x })
    ∷ []

abbrev pub options : PlainTable Options
options = record {
  blank = record {
    ep = None;
    rk = None;
    up = None;
    uv = None;
    plat = None;
    uv_acfg = None;
    always_uv = None;
    cred_mgmt = None;
    authnr_cfg = None;
    bio_enroll = None;
    client_pin = None;
    large_blobs = None;
    uv_bio_enroll = None;
    per_cred_mgmt_ro = None;
    pin_uv_auth_token = None;
    set_min_pin_length = None;
    make_cred_uv_not_rqd = None;
    credential_mgmt_preview = None;
    user_verification_mgmt_preview = None;
    no_mc_ga_permissions_with_client_pin = None;
  };
  members = first_options ++ last_options;
}
