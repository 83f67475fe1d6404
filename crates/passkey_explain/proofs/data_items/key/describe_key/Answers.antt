use Rattle.std.proofs.Common.{◌≡◌, ◌∙◌, List, Option, map, sym, ap}
use Rattle.passkey_cbor.proofs.building.Views.{item_of-Map}
use Rattle.passkey_cbor.specs.Item.{Item}
use Rattle.passkey_cbor.specs.View.{item_of, pair_of}
use Rattle.passkey_cbor.specs.declared.value.Value.{Value}
use Rattle.passkey_cbor.proofs.items.Items.{members-pairs_of}
use Rattle.passkey_cose.specs.KeyLabels.{Members}
use Rattle.passkey_explain.proofs.Describing.{described_of-Record}
use Rattle.passkey_explain.specs.Described.{Described, Part, parts, parts_from, record_of_members}
use Rattle.passkey_explain.specs.DescribedData.{described_key, described_member, type_in, type_of}
use Rattle.passkey_explain.proofs.data_items.key.describe_key.Goals as goal

pub returns-in_ok-describe_members-in-Map : goal.returns-in_ok-describe_members-in-Map
returns-in_ok-describe_members-in-Map c =
    let described : Option Item → Members → Described =
    λ b ms. parts record_of_members (parts_from (map (λ m. described_member b m.0 m.1) ms)) in
    let pairs = c.in-Map.pairs.items in
    let members = map pair_of pairs in
    let is = ap item_of c.in-Map.is ∙ item_of-Map c.in-Map.pairs in
    let typed : type_of c.key_type_of.result ≡ type_in members =
    c.key_type_of.ensures ∙ ap (λ (ps : List (Value × Value)). type_in (map pair_of ps)) c.deref.ensures.value in
    described_of-Record c.in_ok-describe_members-in-Map.field-0
    ∙ ap (λ (ps : List Part). parts record_of_members (parts_from ps)) c.in_ok-describe_members-in-Map.ensures
    ∙ ap (λ (ps : List (Value × Value)). described (type_of c.key_type_of.result) (map pair_of ps))
    c.deref-in-Map.ensures.value
    ∙ ap (λ (b : Option Item). described b members) typed
    ∙ sym (ap (λ (ms : Members). described (type_in ms) ms) (members-pairs_of members)) ∙ sym (ap described_key is)
