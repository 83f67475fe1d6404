use Rattle.std.proofs.Common.{arith, ap, sym, ◌∙◌, List, ℕ, drop}
use Rattle.passkey_cbor.specs.CursorState.{CursorState, ahead}
use Rattle.passkey_cbor_text.proofs.BytesTexts.{all_after, head_found, head_missing}
use Rattle.passkey_cbor_text.proofs.diagnose.bytes_text.front.Goals as goal

pub returns-in-Some : goal.returns-in-Some
returns-in-Some c =
    let start = ap ahead c.new-cursor.ensures in
    let same = (c.in-Some.ensures.found).bytes ∙ ap (λ (w : CursorState). w.bytes) c.new-cursor.ensures in
    head_found c.args.bytes.now _ c.new-cursor.result c.head.new.self c.in-Some.head start
    (all_after c.place.result c.args.bytes.now
    ∙ ap (λ (n : ℕ). drop n c.args.bytes.now) c.place.ensures
    ∙ ap (λ (bs : List ℕ). drop c.head.new.self.place bs) (sym same)) c.in-Some.ensures.found

pub returns-in-None : goal.returns-in-None
returns-in-None c =
    head_missing c.args.bytes.now c.new-cursor.result c.head.new.self (ap ahead c.new-cursor.ensures)
    (λ i. omega (arith, c.type_inv.bytes i)) c.in-None.ensures.found
