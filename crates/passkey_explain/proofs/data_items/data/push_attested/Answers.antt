use Rattle.std.proofs.Common.{◌∙◌, ℕ, List, codes, map, ap}
use Rattle.passkey_cbor.specs.Item.{byte_string}
use Rattle.passkey_core.specs.DataViews.{attested_parts}
use Rattle.passkey_explain.specs.Described.{leaf}
use Rattle.passkey_kinds.specs.declared.wanted.Wanted.TheVariants as wanted
use Rattle.passkey_cbor.proofs.building.Gathering.{ok_then}
use Rattle.passkey_explain.proofs.DescribingData.{pushed_as, three_pushed}
use Rattle.passkey_explain.specs.DescribedData.{described_key, field_of}
use Rattle.passkey_explain.proofs.data_items.data.push_attested.Goals as goal

pub returns : goal.returns
returns c =
    let a = attested_parts c.args.attested.now in
    let old = map field_of c.args.fields.now.items in
    let one = map field_of c.push_field.new.fields.items in
    let two = map field_of c.push_field-2.new.fields.items in
    let three = map field_of c.push_field-3.new.fields.items in
    let id = c.in_ok-id.ensures ∙ ap (λ (s : List ℕ). leaf wanted.Bytes (byte_string s)) c.credential_id.ensures.value in
    let key = c.in_ok-key-2.ensures ∙ ap described_key c.in_ok-key.ensures in
    ok_then c.push_field-3.result
    (λ h. three_pushed old one two three _ _ _
    (pushed_as old one (codes "aaguid") _ _ c.in_ok-aaguid.ensures c.in_ok-push_field.ensures)
    (pushed_as one two (codes "credentialId") _ _ id c.in_ok-push_field-2.ensures)
    (pushed_as two three (codes "credentialPublicKey") _ _ key h))
    c.push_field-3.ensures
