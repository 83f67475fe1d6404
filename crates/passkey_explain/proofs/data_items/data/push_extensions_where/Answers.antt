use Rattle.std.proofs.Common.{◌∙◌, ◌++◌, Option, codes, map, option_map, sym, ap}
use Rattle.passkey_cbor.specs.View.{item_of}
use Rattle.passkey_cbor.specs.declared.value.Value.{Value}
use Rattle.passkey_cbor.proofs.building.Gathering.{ok_then}
use Rattle.passkey_explain.proofs.DescribingData.{pushed_as}
use Rattle.passkey_explain.specs.DescribedData.{extensions_part, field_of, if_present}
use Rattle.passkey_explain.proofs.data_items.data.push_extensions_where.Goals as goal

pub returns-in_ok-extensions-in-Some : goal.returns-in_ok-extensions-in-Some
returns-in_ok-extensions-in-Some c =
    let old = map field_of c.args.fields.now.items in
    ok_then c.push_field.result
    (λ h. pushed_as old _ (codes "extensions") _ _ c.in_ok-extensions-in-Some.ensures h
    ∙ sym (ap (λ (x : Option Value). old ++ if_present extensions_part (option_map item_of x)) c.in-Some.is))
    c.push_field.ensures
