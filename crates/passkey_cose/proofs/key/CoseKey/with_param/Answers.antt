use Rattle.std.proofs.Common.{rules, ◌≡◌, true, false, [], ◌∷◌, ◌++◌, None}
use Rattle.passkey_cbor.specs.Item.{Item}
use Rattle.passkey_cose.specs.Key.{key_parts}
use Rattle.passkey_cose.specs.KeyFaults.{first_fault}
use Rattle.passkey_cose.specs.KeyLabels.{is_common, has_label, are_separate}
use Rattle.passkey_cose.specs.KeyNormal.{IsKey}
use Rattle.passkey_cose.specs.KeyParams.{param_of, params_held}
use Rattle.passkey_cose.specs.KeyParts.{key_members}
use Rattle.passkey_cose.specs.Label.{label_item}
use Rattle.passkey_cose.proofs.KeyGood.{good_push}
use Rattle.passkey_cose.proofs.KeySeparate.{separate-push}
use Rattle.passkey_cose.proofs.key.CoseKey.with_param.Goals as goal

pub invariant_of-self-2 : goal.invariant_of-self-2
invariant_of-self-2 c =
    let m : Item × Item = param_of (c.args.label, c.args.value) in
    let pushed : params_held c.push_param.new.params ≡ params_held c.args.self.params ++ m ∷ [] = search rules in
    let old : are_separate (params_held c.args.self.params) ≡ true = c.args.self.separate in
    let uncommon : is_common (label_item c.args.label) ≡ false = search rules in
    let new : has_label (params_held c.args.self.params) (label_item c.args.label) ≡ false = search rules in
    let separate : are_separate (params_held c.push_param.new.params) ≡ true =
    rw pushed (separate-push (params_held c.args.self.params) m old uncommon new) in
    let valid : IsKey (key_parts c.args.self) = record { good = c.args.self.good; separate = old } in
    let good : first_fault []
    (key_members (record (key_parts c.args.self) { params = params_held c.push_param.new.params })) ≡ None =
    rw pushed (good_push (key_parts c.args.self) m valid c.label_is_name.ensures uncommon new) in
    record { separate = separate; good = good }
