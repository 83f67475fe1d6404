use Rattle.std.proofs.Common.{◌≡◌, [], Some, length, option_map, reverse, string_bytes}
use Rattle.json.specs.Value.{value_view}
use Rattle.passkey_render.specs.NoItemText.{with_steps}
use Rattle.passkey_render.proofs.no_item.no_item_text.Given as goal

abbrev pub invariant-loop-index : goal.invariant-loop-index
invariant-loop-index l =
    with_steps (string_bytes l.text) (option_map (λ j. value_view j.now) l.here) (reverse l.path)
    ≡ with_steps [] (Some (value_view l.fn.json)) (reverse l.fn.found.path.items)

abbrev pub decreases-loop-index : goal.decreases-loop-index
decreases-loop-index l = length l.path
