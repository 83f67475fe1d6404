use Rattle.std.proofs.Common.{◌≡◌, ℕ, drop, map, Some}
use Rattle.passkey_cbor.specs.Item.{Item}
use Rattle.passkey_cbor.specs.LeadingItem.{IsLeadingItem}
use Rattle.passkey_explain.proofs.Way.{OnTheWay}
use Rattle.passkey_explain.specs.Blame.{step_of, item_along}
use Rattle.passkey_explain.proofs.along.locate.Given as goal

abbrev pub invariant-loop-step : goal.invariant-loop-step
invariant-loop-step l =
    (i part : Item) (len : ℕ) → IsLeadingItem l.bytes i len → item_along (map step_of l.path) i ≡ Some part
    → OnTheWay (map step_of l.path) (drop l.step-index (map step_of l.path)) i part l.bytes l.cursor
