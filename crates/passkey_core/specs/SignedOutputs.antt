-- The extension outputs in authenticator data (WebAuthn Level 3, section 9.5; CTAP 2.1, section 12.5).
use Rattle.std.specs.Prelude.{ℕ, List, [], ◌∷◌, ◌++◌, codes, if◌then◌else◌, ◌||◌, is_some, Bool, Option, Some, None, option_map}
use Rattle.std.specs.Int.RustNames.{bit_or}
use Rattle.passkey_cbor.specs.Item as item
use Rattle.passkey_cbor.specs.Item.{Item, boolean, byte_string, text_string, pairs_of}
use Rattle.passkey_cose.specs.KeyLabels.{Members}
use Rattle.passkey_core.specs.DataParts.{DataParts}
use Rattle.passkey_core.specs.DataFlags.{extensions_flag}
use Rattle.passkey_core.specs.declared.get_assertion.SignedExtensionOutputs as get_assertion
use Rattle.passkey_core.specs.declared.make_credential.SignedExtensionOutputs as make_credential

-- the member with this name; none if the value is absent
abbrev pub named : List ℕ → Option Item → Members
named name None = []
named name (Some x) = (let m : Item × Item = (text_string name, x) in m) ∷ []

abbrev pub hmac_secret : List ℕ
hmac_secret = codes "hmac-secret"

abbrev pub hmac_secret_mc : List ℕ
hmac_secret_mc = codes "hmac-secret-mc"

abbrev pub make_credential_item : make_credential.SignedExtensionOutputs → Item
make_credential_item o = item.map (pairs_of (named hmac_secret (option_map boolean o.hmac_secret)
    ++ named hmac_secret_mc (option_map byte_string o.hmac_secret_mc)))

abbrev pub get_assertion_item : get_assertion.SignedExtensionOutputs → Item
get_assertion_item o = item.map (pairs_of (named hmac_secret (option_map byte_string o.hmac_secret)))

-- the value if it has a member
abbrev pub where_some : {X : Type 0} → Bool → X → Option X
where_some has_member x = if has_member then Some x else None

abbrev pub has_make_credential_member : make_credential.SignedExtensionOutputs → Bool
has_make_credential_member o = is_some o.hmac_secret || is_some o.hmac_secret_mc

abbrev pub has_get_assertion_member : get_assertion.SignedExtensionOutputs → Bool
has_get_assertion_member o = is_some o.hmac_secret

-- the extension outputs as a map; `None` if no output is present
abbrev pub make_credential_extensions : Option make_credential.SignedExtensionOutputs → Option Item
make_credential_extensions None = None
make_credential_extensions (Some o) = if has_make_credential_member o then Some (make_credential_item o) else None

abbrev pub get_assertion_extensions : Option get_assertion.SignedExtensionOutputs → Option Item
get_assertion_extensions None = None
get_assertion_extensions (Some o) = if has_get_assertion_member o then Some (get_assertion_item o) else None

-- the data with these extensions and the flag ED set; unchanged if there are none
abbrev pub with_extensions : DataParts → Option Item → DataParts
with_extensions d None = d
with_extensions d (Some x) = record d { extensions = Some x; flags = bit_or d.flags extensions_flag }
