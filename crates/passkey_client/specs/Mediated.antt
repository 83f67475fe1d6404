-- The options of a ceremony with how far the client may ask the user (WebAuthn Level 3, section 5.1.4).
use Rattle.std.specs.Prelude.{[], ◌∷◌, None, codes, refl}
use Rattle.passkey_client.specs.Names.{mediation_value}
use Rattle.passkey_client.specs.declared.mediated.MediatedOptions.{MediatedOptions}
use Rattle.passkey_json.specs.Coded.{text_value}
use Rattle.passkey_json.specs.Table.{PlainTable, nested, optional_as, required_as}

abbrev pub mediated_options : {O : Type 0} → PlainTable O → PlainTable (MediatedOptions O)
mediated_options t = record {
  blank = record { public_key = t.blank; mediation = None; ui_mode = None };
  members = required_as 1 (codes "publicKey") (nested t) (λ r. r.public_key) (λ v r. record r { public_key = v })
      ∷ optional_as 2 (codes "mediation") mediation_value (λ r. r.mediation) (λ v r. record r { mediation = v })
      ∷ optional_as 3 (codes "uiMode") text_value (λ r. r.ui_mode) (λ v r. record r { ui_mode = v })
      ∷ [];
  sound = λ r. (refl, refl);
}
