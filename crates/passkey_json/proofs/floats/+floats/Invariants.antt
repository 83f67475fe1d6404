use Rattle.std.proofs.Common.{◌≡◌, drop}
use Rattle.passkey_json.proofs.floats.+floats.Given as goal
use Rattle.serde_json.specs.View.{items_view, members_view}
use Rattle.serde_json.specs.Written.{items_have_float, members_have_float}

abbrev pub invariant-elements_hold_float-loop-element :
    goal.invariant-elements_hold_float-loop-element
invariant-elements_hold_float-loop-element l =
    items_have_float (items_view l.element-items)
    ≡ items_have_float (items_view (drop l.element-index l.element-items))

abbrev pub invariant-members_hold_float-loop-name : goal.invariant-members_hold_float-loop-name
invariant-members_hold_float-loop-name l =
    members_have_float (members_view l.members.entries) ≡ members_have_float (members_view l._name-iterator)
