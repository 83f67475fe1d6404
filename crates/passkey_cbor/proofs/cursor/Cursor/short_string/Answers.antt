use Rattle.std.proofs.Common.{◌≡◌, ◌∙◌, ◌+◌, ◌-◌, List, ℕ, Some, take, drop, length, ap, subst, refl, arith}
use Rattle.std.proofs.lemmas.List.{take_rest}
use Rattle.passkey_cbor.specs.Leaf.{Headed}
use Rattle.passkey_cbor.specs.Lent.{string_head}
use Rattle.passkey_cbor.specs.declared.head.Head.{Head}
use Rattle.passkey_cbor.specs.CursorState.{CursorState, ahead, IsPlaced}
use Rattle.passkey_cbor.proofs.strings.Lending.{short_read}
use Rattle.passkey_cbor.proofs.cursor.Cursor.short_string.Goals as goal

pub returns-clause-passes : goal.returns-clause-passes
returns-clause-passes c =
    let s = c.self.inside in
    let h = c.in_ok-head_len in
    let placed : IsPlaced c.args.self.now.bytes c.args.self.now.place =
    subst (λ (w : CursorState). IsPlaced w.bytes w.place) c.self.view_is c.self.invariant in
    let at : s.place ≡ c.args.self.now.place = ap (λ (w : CursorState). w.place) c.self.view_is in
    let bytes : s.bytes.now ≡ c.args.self.now.bytes = ap (λ (w : CursorState). w.bytes) c.self.view_is in
    let whole : take (length s.bytes.now - s.place) (drop s.place s.bytes.now) ≡ ahead c.args.self.now =
    take_rest s.bytes.now s.place ∙ rw (at, bytes) refl in
    let rest : take (length s.bytes.now - (s.place + h.head_len)) (drop (s.place + h.head_len) s.bytes.now)
    ≡ drop (c.args.self.now.place + h.head_len) c.args.self.now.bytes =
    take_rest s.bytes.now (s.place + h.head_len) ∙ rw (at, bytes) refl in
    let head : Head = string_head c.args.is_text (Some h.len) in
    let headed : Headed (ahead c.args.self.now) h.head_len head (drop h.head_len (ahead c.args.self.now)) =
    subst (λ (t : List ℕ). Headed t h.head_len head (drop h.head_len t)) whole h.ensures.headed in
    short_read c.args.is_text h.head_len h.len c.args.self.now c.pass_leaf.new.self _ placed
    h.ensures.len.0 headed (omega (arith, ap length rest, c.if-rest-len.false))
    (ap (take h.len) rest) (c.is_plain.ensures.allowed c.if-not-is_plain.false) c.pass_leaf.ensures.passed
    c.pass_leaf.ensures.rises
