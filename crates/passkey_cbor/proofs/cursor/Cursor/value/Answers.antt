use Rattle.std.proofs.Common.{◌≡◌, ◌∙◌, ◌+◌, ap, subst, ℕ, Err}
use Rattle.passkey_cbor.specs.CursorState.{CursorState, IsPlaced, MovesForward}
use Rattle.passkey_cbor.proofs.building.Valuing.{back_encoded, value_from}
use Rattle.passkey_cbor.proofs.items.EncodedFrom.{values}
use Rattle.passkey_cbor.proofs.building.Gathering.{moves_then, moves_back}
use Rattle.passkey_cbor.specs.Valued.{ReadsValue}
use Rattle.passkey_cbor.specs.declared.error.CborError.TheVariants.{DecodeFailed}
use Rattle.passkey_cbor.proofs.cursor.Cursor.value.Goals as goal

pub returns : goal.returns
returns c =
    let place_is : c.self.inside.place ≡ c.args.self.now.place = ap (λ (w : CursorState). w.place) c.self.view_is in
    let back : c.go_back.new.self ≡ record c.skip.new.self { place = c.args.self.now.place } =
    c.go_back.ensures ∙ ap (λ (p : ℕ). record c.skip.new.self { place = p }) place_is in
    let placed : IsPlaced c.args.self.now.bytes c.args.self.now.place =
    subst (λ (w : CursorState). IsPlaced w.bytes w.place) c.self.view_is c.self.invariant in
    let began : MovesForward c.args.self.now c.go_back.new.self =
    moves_back c.args.self.now c.skip.new.self c.go_back.new.self placed.within c.if-not-skip.ensures.moves back in
    let front : ReadsValue c.args.self.now c.value_ahead.new.self c.value_ahead.result =
    value_from c.args.self.now c.skip.new.self c.go_back.new.self c.value_ahead.new.self c.value_ahead.result
    c.if-not-skip.ensures.front back c.value_ahead.ensures.moves
    (c.value_ahead.ensures.values c.if-not-skip.ensures.front.item
    (c.go_back.new.self.place + c.if-not-skip.ensures.front.len)
    (back_encoded c.args.self.now c.skip.new.self c.go_back.new.self c.if-not-skip.ensures.front back)) in
    record {
      front = front;
      values = λ x to l. values c.args.self.now c.value_ahead.new.self c.value_ahead.result x to front l;
      moves = moves_then c.args.self.now c.go_back.new.self c.value_ahead.new.self began c.value_ahead.ensures.moves;
    }

pub returns-then-not-skip : goal.returns-then-not-skip
returns-then-not-skip c =
    let front : ReadsValue c.args.self.now c.skip.new.self (Err DecodeFailed) = c.if-not-skip.ensures.front in
    record {
      front = front;
      values = λ x to l. values c.args.self.now c.skip.new.self (Err DecodeFailed) x to front
          l;
      moves = c.if-not-skip.ensures.moves;
    }
