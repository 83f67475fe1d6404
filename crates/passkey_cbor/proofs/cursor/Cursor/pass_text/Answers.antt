use Rattle.std.proofs.Common.{◌≡◌, ◌∙◌, ◌+◌, ◌-◌, ◌≤◌, List, ℕ, Some, true, take, drop, length, ap, sym, subst, refl}
use Rattle.std.proofs.lemmas.List.{take_rest}
use Rattle.std.proofs.lemmas.Str.{is_utf8-from_IsUtf8}
use Rattle.passkey_cbor.specs.CursorState.{CursorState, ahead, IsPlaced}
use Rattle.passkey_cbor.specs.Lent.{begins_text, PassesString}
use Rattle.passkey_cbor.proofs.strings.Lending.{text_passed, lends}
use Rattle.passkey_cbor.proofs.cursor.Cursor.pass_text.Goals as goal

passes : (c : goal.After-pass_leaf) → PassesString true c.args.self.now c.pass_leaf.new.self
    (record { len = Some (length c.args.text.now); bytes = c.args.text.now })
passes c =
    let s = c.self.inside in
    let text = c.args.text.now in
    let begins = c.if-is_there.ensures in
    let placed : IsPlaced c.args.self.now.bytes c.args.self.now.place =
    subst (λ (w : CursorState). IsPlaced w.bytes w.place) c.self.view_is c.self.invariant in
    let at : s.place ≡ c.args.self.now.place = ap (λ (w : CursorState). w.place) c.self.view_is in
    let bytes : s.bytes.now ≡ c.args.self.now.bytes = ap (λ (w : CursorState). w.bytes) c.self.view_is in
    let whole : take (length s.bytes.now - s.place) (drop s.place s.bytes.now) ≡ ahead c.args.self.now =
    take_rest s.bytes.now s.place ∙ rw (at, bytes) refl in
    text_passed text c.args.self.now c.pass_leaf.new.self placed
    (ap (begins_text text) (sym whole) ∙ sym begins.is)
    (subst (λ (t : List ℕ). 1 + length text ≤ length t) whole (begins.within refl))
    (ap (λ (t : List ℕ). take (length text) (drop 1 t)) (sym whole) ∙ begins.there refl)
    (is_utf8-from_IsUtf8 text c.utf8.text) c.pass_leaf.ensures.passed c.pass_leaf.ensures.rises

pub returns-then-is_there-clause-passes : goal.returns-then-is_there-clause-passes
returns-then-is_there-clause-passes c = rw c.if-is_there.true (passes c)

pub returns-then-is_there-clause-lends : goal.returns-then-is_there-clause-lends
returns-then-is_there-clause-lends c = λ is. lends true c.args.self.now c.pass_leaf.new.self
    (Some (record { len = Some (length c.args.text.now); bytes = c.args.text.now })) (passes c)
