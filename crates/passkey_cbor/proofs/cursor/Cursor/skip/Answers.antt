use Rattle.std.proofs.Common.{◌≡◌, ◌∙◌, ℕ, ap, subst, sym, true, false}
use Rattle.passkey_cbor.specs.CursorState.{CursorState, IsPlaced}
use Rattle.passkey_cbor.specs.Skipped.{FindsNoLeadingItem}
use Rattle.passkey_cbor.specs.EncodedAt.{Passes}
use Rattle.passkey_cbor.specs.LeadingItem.{max_depth}
use Rattle.passkey_cbor.proofs.skipping.Advancing.{item_skips, item_counts, item_least}
use Rattle.passkey_cbor.proofs.items.LeadingItems.{front_passed, front_missed}
use Rattle.passkey_cbor.proofs.building.Gathering.{moves_passed, moves_stopped, moves_back}
use Rattle.passkey_cbor.proofs.items.EncodedFrom.{passes}
use Rattle.passkey_cbor.proofs.cursor.Cursor.skip.Goals as goal

pub returns-then-not-found : goal.returns-then-not-found
returns-then-not-found c =
    let skips = item_skips max_depth c.args.self.now c.skip_item-found.new.self false c.if-not-found.ensures in
    let missed = front_missed c.args.self.now c.skip_item-found.new.self c.self.inside.place
    (ap (λ (w : CursorState). w.place) c.self.view_is)
    (item_counts max_depth c.args.self.now c.skip_item-found.new.self false c.if-not-found.ensures)
    (item_least max_depth c.args.self.now c.skip_item-found.new.self false c.if-not-found.ensures) skips in
    let placed : IsPlaced c.args.self.now.bytes c.args.self.now.place =
    subst (λ (w : CursorState). IsPlaced w.bytes w.place) c.self.view_is c.self.invariant in
    let place_is : c.self.inside.place ≡ c.args.self.now.place = ap (λ (w : CursorState). w.place) c.self.view_is in
    let back = c.go_back.ensures ∙ ap (λ (p : ℕ). record c.skip_item-found.new.self { place = p }) place_is in
    let moves = moves_back c.args.self.now c.skip_item-found.new.self c.go_back.new.self placed.within
    (moves_stopped c.args.self.now c.skip_item-found.new.self skips.stopped) back in
    rw (c.if-not-found.true) (record {
      front = subst (λ (w : CursorState). FindsNoLeadingItem c.args.self.now w)
          (sym c.go_back.ensures) missed;
      passes = λ x to l. subst (λ (w : CursorState). Passes to c.args.self.now w false)
          (sym c.go_back.ensures) (passes c.args.self.now _ false x to missed l);
      moves = moves;
    })

pub returns-else-not-found : goal.returns-else-not-found
returns-else-not-found c =
    let placed : IsPlaced c.args.self.now.bytes c.args.self.now.place =
    subst (λ (w : CursorState). IsPlaced w.bytes w.place) c.self.view_is c.self.invariant in
    let skips = item_skips max_depth c.args.self.now c.skip_item-found.new.self true c.if-not-found.ensures in
    let passed = front_passed c.args.self.now c.skip_item-found.new.self placed
    (item_least max_depth c.args.self.now c.skip_item-found.new.self true c.if-not-found.ensures) skips in
    rw c.if-not-found.false (record {
      front = passed;
      passes = λ x to l. passes c.args.self.now c.skip_item-found.new.self true x to passed l;
      moves = moves_passed c.args.self.now c.skip_item-found.new.self skips.passed;
    })
