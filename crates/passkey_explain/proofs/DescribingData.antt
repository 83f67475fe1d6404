-- Elements, members and parts, described one by one.
use Rattle.std.proofs.Common.{◌≡◌, ◌∙◌, ℕ, List, [], ◌∷◌, ◌++◌, map, refl, sym, ap, append_assoc, Vec, Global}
use Rattle.passkey_cbor.specs.Item as item
use Rattle.passkey_cbor.specs.Item.{Item, items_of, pairs_of}
use Rattle.passkey_cbor.specs.View.{item_of, pair_of, items_view, pairs_view}
use Rattle.passkey_cbor.specs.declared.value.Value.{Value}
use Rattle.passkey_explain.proofs.Describing.{described_of-List, described_of-Map}
use Rattle.passkey_explain.specs.declared.description.Description.{Description, List as OfList, Map as OfMap}
use Rattle.passkey_explain.specs.Described.{Described, Part, Parts, part, parts, parts_from, list, map_of, element, key, member}
use Rattle.passkey_explain.specs.Described.{labelled, described_of}
use Rattle.passkey_kinds.specs.declared.wanted.Wanted.TheVariants as wanted
use Rattle.passkey_explain.specs.DescribedData.{described_item, described_elements, described_pairs, wanted_by}

pub elements_described : (xs : List Item) → described_elements (items_of xs)
    ≡ parts_from (map (λ d. labelled element d) (map (described_item wanted.Any) xs))
elements_described [] = refl
elements_described (x ∷ xs) =
    ap (λ (ps : Parts). part element (described_item wanted.Any x) ps) (elements_described xs)

pub pairs_described : (ms : List (Item × Item)) → described_pairs (pairs_of ms)
    ≡ parts_from (map (λ m. labelled (key m.0) (described_item (wanted_by m.0) m.1)) ms)
pairs_described [] = refl
pairs_described (m ∷ ms) =
    ap (λ (ps : Parts). part (key m.0) (described_item (wanted_by m.0) m.1) ps) (pairs_described ms)

-- an array of elements that are described, and a map of members
pub array_described : (v : Vec Description Global) (xs : List Value)
    → map described_of v.items ≡ map (described_item wanted.Any) (map item_of xs)
    → described_of (OfList v) ≡ described_item wanted.Any (item.array (items_view xs))
array_described v xs told =
    described_of-List v
    ∙ ap (λ (ds : List Described). parts list (parts_from (map (λ d. labelled element d) ds))) told
    ∙ ap (parts list) (sym (elements_described (map item_of xs)))

pub map_described : (v : Vec (Value × Description) Global) (ps : List (Value × Value))
    → map (λ p. labelled (key (item_of p.0)) (described_of p.1)) v.items
    ≡ map (λ m. labelled (key m.0) (described_item (wanted_by m.0) m.1)) (map pair_of ps)
    → described_of (OfMap v) ≡ described_item wanted.Any (item.map (pairs_view ps))
map_described v ps told =
    described_of-Map v ∙ ap (λ (qs : List Part). parts map_of (parts_from qs)) told
    ∙ ap (parts map_of) (sym (pairs_described (map pair_of ps)))

-- ---- parts of a record

-- one more part
pub pushed_as : (old new : List Part) (name : List ℕ) (d e : Described) → d ≡ e
    → new ≡ old ++ labelled (member 0 name) d ∷ [] → new ≡ old ++ labelled (member 0 name) e ∷ []
pushed_as old new name d e is h = h ∙ ap (λ (x : Described). old ++ labelled (member 0 name) x ∷ []) is

pub three_pushed : (old one two three : List Part) (a b c : Part) → one ≡ old ++ a ∷ [] → two ≡ one ++ b ∷ []
    → three ≡ two ++ c ∷ [] → three ≡ old ++ a ∷ b ∷ c ∷ []
three_pushed old one two three a b c first second third =
    third ∙ ap (λ (l : List Part). l ++ c ∷ []) (second ∙ ap (λ (l : List Part). l ++ b ∷ []) first)
    ∙ append_assoc (old ++ a ∷ []) (b ∷ []) (c ∷ []) ∙ append_assoc old (a ∷ []) (b ∷ c ∷ [])
