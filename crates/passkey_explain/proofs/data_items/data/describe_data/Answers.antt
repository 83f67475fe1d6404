use Rattle.std.proofs.Common.{◌≡◌, ◌∙◌, ℕ, List, ◌++◌, codes, map, ap, append_assoc}
use Rattle.passkey_cbor.specs.Item.{byte_string}
use Rattle.passkey_core.specs.DataViews.{data_parts}
use Rattle.passkey_explain.proofs.Describing.{described_of-Record}
use Rattle.passkey_explain.specs.Described.{Part, leaf, parts, parts_from, record_of_members}
use Rattle.passkey_explain.specs.declared.description.Description.{Description}
use Rattle.passkey_explain.specs.declared.description.FieldName.{FieldName}
use Rattle.passkey_kinds.specs.declared.wanted.Wanted.TheVariants as wanted
use Rattle.passkey_explain.proofs.DescribingData.{pushed_as, three_pushed}
use Rattle.passkey_explain.specs.DescribedData.{attested_part, described_flags, extensions_part, field_of, fixed_part, if_present}
use Rattle.passkey_explain.proofs.data_items.data.describe_data.Goals as goal

pub returns : goal.returns
returns c =
    let d = data_parts c.args.authenticator_data.now in
    let none = map field_of c.new-fields.result.items in
    let one = map field_of c.push_field.new.fields.items in
    let two = map field_of c.push_field-2.new.fields.items in
    let three = map field_of c.push_field-3.new.fields.items in
    let hash = c.in_ok-hash.ensures ∙ ap (λ (s : List ℕ). leaf (wanted.SizedBytes 32) (byte_string s)) c.rp_id_hash.ensures in
    let flags = c.in_ok-flags.ensures ∙ ap described_flags c.from.ensures in
    let first = three_pushed none one two three _ _ _
    (pushed_as none one (codes "rpIdHash") _ _ hash c.in_ok-push_field.ensures)
    (pushed_as one two (codes "flags") _ _ flags c.in_ok-push_field-2.ensures)
    (pushed_as two three (codes "signCount") _ _ c.counter_leaf.ensures c.in_ok-push_field-3.ensures) in
    let fixed : three ≡ fixed_part d =
    first ∙ ap (λ (l : List (FieldName × Description)). map field_of l ++ fixed_part d) c.new-fields.ensures.items in
    let attested = if_present attested_part d.attested in
    let extensions = if_present extensions_part d.extensions in
    described_of-Record c.push_extensions_where.new.fields
    ∙ ap (λ (ps : List Part). parts record_of_members (parts_from ps))
    (c.in_ok-push_extensions_where.ensures ∙ ap (λ (l : List Part). l ++ extensions)
    (c.in_ok-push_attested_where.ensures ∙ ap (λ (l : List Part). l ++ attested) fixed)
    ∙ append_assoc (fixed_part d) attested extensions)
