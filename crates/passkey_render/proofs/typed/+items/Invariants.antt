use Rattle.std.proofs.Common.{◌≡◌, ℕ, [], Some, drop, map}
use Rattle.json.specs.Json.{Json}
use Rattle.json.specs.Value.{value_view}
use Rattle.passkey_cbor.specs.View.{item_of, pair_of}
use Rattle.passkey_cbor_text.specs.values.NoItem.{Read}
use Rattle.passkey_cbor.specs.Item.{Item}
use Rattle.passkey_kinds.specs.Look.{tested}
use Rattle.passkey_kinds.specs.Shape.{Tested, reached}
use Rattle.passkey_render.specs.Parts.{named_in, read_each}
use Rattle.passkey_render.specs.Typed.{IsTableAt, json_item, keys_of, member_item}
use Rattle.passkey_render.proofs.typed.+items.Given as goal

abbrev pub invariant-elements-loop-index : goal.invariant-elements-loop-index
invariant-elements-loop-index g l = (t : Tested) → reached l.way (tested g.M.FromCbor.typed) ≡ Some t
    → read_each (λ _. json_item t.shape) (map item_of l.found.items) l.index (drop l.index (map value_view l.all))
    ≡ read_each (λ _. json_item t.shape) [] 0 (map value_view l.all)

abbrev pub invariant-members-loop-index : goal.invariant-members-loop-index
invariant-members-loop-index g l = (of : ℕ → Json → Read Item)
    → IsTableAt l.way (tested g.M.FromCbor.typed) (keys_of l.keys) of
    → read_each (λ _. member_item (keys_of l.keys) of) (map pair_of l.found.items) l.index (drop l.index (map named_in l.all))
    ≡ read_each (λ _. member_item (keys_of l.keys) of) [] 0 (map named_in l.all)
