use Rattle.std.proofs.Common.{◌≡◌, ◌∙◌, ◌+◌, ◌-◌, ◌≤◌, List, ℕ, Some, take, drop, length, ap, sym, subst, refl, arith}
use Rattle.std.proofs.lemmas.List.{take_rest, length-drop, drop-drop}
use Rattle.passkey_cbor.specs.CursorState.{CursorState, ahead, IsPlaced}
use Rattle.passkey_cbor.specs.Found.{FindsHead, small_number}
use Rattle.passkey_cbor.specs.Steps.{HeadRead}
use Rattle.passkey_cbor.specs.HeadReading.{head_at}
use Rattle.passkey_cbor.specs.declared.head.Head.{Head}
use Rattle.passkey_cbor.specs.declared.head.Head.TheVariants as head
use Rattle.passkey_cbor.proofs.heads.ShortHeads.{small_head}
use Rattle.passkey_cbor.proofs.skipping.Walks.{short_read, head_passed}
use Rattle.passkey_cbor.proofs.items.EncodedFrom.{opens}
use Rattle.passkey_cbor.proofs.cursor.Cursor.small_number.Goals as goal

passes : (c : goal.After-pass_leaf) → FindsHead c.args.self.now c.pass_leaf.new.self (Some (head.Unsigned c.in-Some.number))
passes c =
    let a = c.args.self.now in
    let s = c.self.inside in
    let h : Head = head.Unsigned c.in-Some.number in
    let placed : IsPlaced a.bytes a.place =
    subst (λ (w : CursorState). IsPlaced w.bytes w.place) c.self.view_is c.self.invariant in
    let at : s.place ≡ a.place = ap (λ (w : CursorState). w.place) c.self.view_is in
    let bytes : s.bytes.now ≡ a.bytes = ap (λ (w : CursorState). w.bytes) c.self.view_is in
    let whole : take (length s.bytes.now - s.place) (drop s.place s.bytes.now) ≡ ahead a =
    take_rest s.bytes.now s.place ∙ rw (at, bytes) refl in
    let some : 1 ≤ length (ahead a) = subst (λ (t : List ℕ). 1 ≤ length t) whole c.in-Some.ensures.within in
    let reads : head_at (ahead a) ≡ Some (h, drop (a.place + 1) a.bytes) =
    small_head (ahead a) c.in-Some.number (ap small_number (sym whole) ∙ sym c.in-Some.ensures.is)
    ∙ ap (λ (t : List ℕ). Some (h, t)) (drop-drop 1 a.place a.bytes) in
    let read : HeadRead a c.pass_leaf.new.self h = short_read a c.pass_leaf.new.self h placed
    (omega (arith, some, length-drop a.place a.bytes)) reads c.pass_leaf.ensures.passed c.pass_leaf.ensures.rises in
    head_passed a c.pass_leaf.new.self placed (ap (λ (w : CursorState). w.heads) c.pass_leaf.ensures.passed) h read

pub returns-in-Some-clause-passes : goal.returns-in-Some-clause-passes
returns-in-Some-clause-passes c = passes c

pub returns-in-Some-clause-opens : goal.returns-in-Some-clause-opens
returns-in-Some-clause-opens c = λ x to l. opens c.args.self.now c.pass_leaf.new.self (Some (head.Unsigned c.in-Some.number))
    x to (passes c) l
