use Rattle.std.proofs.Common.{◌∙◌, SFits, Some, ap, option_map, rules, sym, w64}
use Rattle.std.proofs.Math.Facts.{to_z-of_z}
use Rattle.passkey_cbor.specs.Item.{number}
use Rattle.passkey_cbor.specs.View.{item_of}
use Rattle.passkey_explain.specs.DescribedData.{parameter_name}
use Rattle.passkey_explain_data.specs.Texts.{label_name}
use Rattle.passkey_explain_data.proofs.display.label_name.Goals as goal

pub returns-in-Some : goal.returns-in-Some
unfolding label_name
returns-in-Some c =
    let fits : SFits w64 c.in-Some.number = search rules in
    c.parameter_name.ensures
    ∙ ap (λ kty. parameter_name (Some kty) (item_of c.from-label.result)) (c.from.ensures ∙ ap number (to_z-of_z fits))
    ∙ ap (parameter_name (Some (number c.in-Some.number))) (c.from-label.ensures ∙ ap number (to_z-of_z c.ranges.label))
    ∙ ap (λ kty. parameter_name (option_map number kty) (number c.args.label)) (sym c.in-Some.is)
