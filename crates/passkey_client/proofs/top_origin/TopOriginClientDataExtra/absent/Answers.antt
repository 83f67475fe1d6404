use Rattle.std.proofs.Common.{◌≡◌, ℕ, Bool, List, None, Ok, codes, refl}
use Rattle.passkey_client.proofs.top_origin.TopOriginClientDataExtra.absent.Goals as goal
use Rattle.passkey_json.specs.Kind.{text}
use Rattle.passkey_json.specs.Members.{if_present, member}
use Rattle.passkey_webauthn_json.specs.client_data.ExtraData.{fixed_alone}
use Rattle.serde_json.specs.Find.{get_member}

-- `topOrigin` isn't among the members that all client data has
no_origin : (type_name challenge origin : List ℕ) (cross_origin : Bool)
    → if_present text (member (codes "topOrigin")
    (λ name. get_member name (fixed_alone type_name challenge origin cross_origin))) ≡ Ok None
unfolding if_present
no_origin type_name challenge origin cross_origin = refl

pub returns : goal.returns
returns c = λ type_name challenge origin ty cross_origin named. no_origin type_name challenge origin cross_origin
