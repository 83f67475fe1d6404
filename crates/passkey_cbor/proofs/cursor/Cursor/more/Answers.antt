use Rattle.std.proofs.Common.{◌≡◌, ◌∙◌, ℕ, Some, None, ap, subst, sym, arith}
use Rattle.passkey_cbor.specs.CursorState.{CursorState, IsPlaced}
use Rattle.passkey_cbor.proofs.building.Gathering.{moves_none, moves_head, moves_back}
use Rattle.passkey_cbor.proofs.items.More.{none_left, some_left, break_there, element_there, no_head_there}
use Rattle.passkey_cbor.proofs.cursor.Cursor.more.Goals as goal

pub returns-then-n-eq0-clause-walks : goal.returns-then-n-eq0-clause-walks
returns-then-n-eq0-clause-walks c =
    let placed : IsPlaced c.args.self.now.bytes c.args.self.now.place =
    subst (λ (w : CursorState). IsPlaced w.bytes w.place) c.self.view_is c.self.invariant in
    none_left c.args.left.now c.in-Some.n c.args.self.now placed.within c.in-Some.is c.if-n-eq0.true

pub returns-else-n-eq0-clause-walks : goal.returns-else-n-eq0-clause-walks
returns-else-n-eq0-clause-walks c =
    let placed : IsPlaced c.args.self.now.bytes c.args.self.now.place =
    subst (λ (w : CursorState). IsPlaced w.bytes w.place) c.self.view_is c.self.invariant in
    some_left c.args.left.now c.in-Some.n c.args.self.now placed.within c.in-Some.is (omega arith)

pub returns-then-is_break-clause-walks : goal.returns-then-is_break-clause-walks
returns-then-is_break-clause-walks c =
    break_there c.args.left.now c.args.self.now c.decode.new.self c.in-Some-decode.head
    c.in-Some-decode.ensures.placed c.in-None.is (sym c.if-is_break.ensures) c.in-Some-decode.ensures.reads

pub returns-in-None-decode-clause-walks : goal.returns-in-None-decode-clause-walks
returns-in-None-decode-clause-walks c = no_head_there c.args.left.now c.args.self.now c.decode.new.self c.in-None.is
    c.in-None-decode.ensures.counted c.in-None-decode.ensures.stays c.in-None-decode.ensures.reads

pub returns-else-is_break-clause-walks : goal.returns-else-is_break-clause-walks
returns-else-is_break-clause-walks c =
    let placed : IsPlaced c.args.self.now.bytes c.args.self.now.place =
    subst (λ (w : CursorState). IsPlaced w.bytes w.place) c.self.view_is c.self.invariant in
    let place_is : c.self.inside.place ≡ c.args.self.now.place = ap (λ (w : CursorState). w.place) c.self.view_is in
    element_there c.args.left.now c.args.self.now c.decode.new.self c.go_back.new.self c.in-Some-decode.head
    placed.within c.in-None.is (sym c.if-is_break.ensures) c.in-Some-decode.ensures.reads
    (c.go_back.ensures ∙ ap (λ (p : ℕ). record c.decode.new.self { place = p }) place_is)

pub returns-then-n-eq0-clause-moves : goal.returns-then-n-eq0-clause-moves
returns-then-n-eq0-clause-moves c =
    let placed : IsPlaced c.args.self.now.bytes c.args.self.now.place =
    subst (λ (w : CursorState). IsPlaced w.bytes w.place) c.self.view_is c.self.invariant in
    moves_none c.args.self.now placed.within

pub returns-else-n-eq0-clause-moves : goal.returns-else-n-eq0-clause-moves
returns-else-n-eq0-clause-moves c =
    let placed : IsPlaced c.args.self.now.bytes c.args.self.now.place =
    subst (λ (w : CursorState). IsPlaced w.bytes w.place) c.self.view_is c.self.invariant in
    moves_none c.args.self.now placed.within

pub returns-then-is_break-clause-moves : goal.returns-then-is_break-clause-moves
returns-then-is_break-clause-moves c =
    moves_head c.args.self.now c.decode.new.self (Some c.in-Some-decode.head) c.in-Some-decode.ensures.reads

pub returns-in-None-decode-clause-moves : goal.returns-in-None-decode-clause-moves
returns-in-None-decode-clause-moves c =
    moves_head c.args.self.now c.decode.new.self None c.in-None-decode.ensures.reads

pub returns-else-is_break-clause-moves : goal.returns-else-is_break-clause-moves
returns-else-is_break-clause-moves c =
    let placed : IsPlaced c.args.self.now.bytes c.args.self.now.place =
    subst (λ (w : CursorState). IsPlaced w.bytes w.place) c.self.view_is c.self.invariant in
    let place_is : c.self.inside.place ≡ c.args.self.now.place = ap (λ (w : CursorState). w.place) c.self.view_is in
    moves_back c.args.self.now c.decode.new.self c.go_back.new.self placed.within
    (moves_head c.args.self.now c.decode.new.self (Some c.in-Some-decode.head) c.in-Some-decode.ensures.reads)
    (c.go_back.ensures ∙ ap (λ (p : ℕ). record c.decode.new.self { place = p }) place_is)
