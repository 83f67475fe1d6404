use Rattle.std.proofs.Common.{◌≡◌, ◌∙◌, ap, subst, ℕ}
use Rattle.passkey_cbor.specs.CursorState.{CursorState, IsPlaced}
use Rattle.passkey_cbor.proofs.building.Gathering.{moves_back}
use Rattle.passkey_cbor.proofs.heads.HeadCounts.{spans_count}
use Rattle.passkey_cbor.proofs.heads.Numbers.{IsBytes-drop}
use Rattle.passkey_cbor.proofs.building.Valuing.{made_ahead, fails_ahead}
use Rattle.passkey_cbor.proofs.cursor.Cursor.value_ahead.Goals as goal

pub returns-in-Ok : goal.returns-in-Ok
returns-in-Ok c =
    let placed : IsPlaced c.args.self.now.bytes c.args.self.now.place =
    subst (λ (w : CursorState). IsPlaced w.bytes w.place) c.self.view_is c.self.invariant in
    record {
      values = λ x to l. made_ahead x to c.args.self.now c.build_item.new.self c.build_item.new.out placed
          c.in-Ok.ensures.made l;
      moved = c.in-Ok.ensures.moved;
      counts = spans_count c.args.self.now c.build_item.new.self
          (IsBytes-drop c.args.self.now.place c.args.self.now.bytes placed.fits) c.in-Ok.ensures.made.spans;
      stays = tt;
      moves = c.in-Ok.ensures.made.moves;
    }

pub returns-in-Err : goal.returns-in-Err
returns-in-Err c =
    let place_is : c.self.inside.place ≡ c.args.self.now.place = ap (λ (w : CursorState). w.place) c.self.view_is in
    let back : c.go_back.new.self ≡ record c.build_item.new.self { place = c.args.self.now.place } =
    c.go_back.ensures ∙ ap (λ (p : ℕ). record c.build_item.new.self { place = p }) place_is in
    let placed : IsPlaced c.args.self.now.bytes c.args.self.now.place =
    subst (λ (w : CursorState). IsPlaced w.bytes w.place) c.self.view_is c.self.invariant in
    record {
      values = λ x to l. fails_ahead x to c.args.self.now c.build_item.new.self c.go_back.new.self
          c.in-Err.error c.in-Err.ensures.made back l;
      moved = tt;
      counts = tt;
      stays = ap (λ (w : CursorState). w.place) back;
      moves = moves_back c.args.self.now c.build_item.new.self c.go_back.new.self placed.within
          c.in-Err.ensures.made.moves back;
    }
