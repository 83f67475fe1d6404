use Rattle.std.proofs.Common.{◌≡◌, ℕ, ◌≤◌, List, length}
use Rattle.passkey_cbor.specs.Item.{Item}
use Rattle.passkey_explain.specs.Along.{ItemsLie, PassedItems}
use Rattle.passkey_explain.proofs.along.pass_items.Given as goal

abbrev pub invariant-loop-i : goal.invariant-loop-i
invariant-loop-i l = record {
  same : l.cursor.bytes ≡ l.fn.cursor.bytes;
  each : (xs : List Item) (to : ℕ) → ItemsLie xs l.fn.cursor.bytes l.fn.cursor.place to → l.count ≤ length xs
      → PassedItems xs l.i l.fn.cursor.bytes l.fn.cursor.place l.cursor.place to;
}
