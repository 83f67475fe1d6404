use Rattle.std.proofs.Common.{◌≡◌, ◌∙◌, ◌+◌, ◌++◌, ℕ, List, [], ◌∷◌, take, get_or, refl, sym, ap, append_assoc}
use Rattle.std.proofs.lemmas.List.{append-nil, take_more, take_all}
use Rattle.passkey_webauthn.proofs.NumberStates.{of_same, of_more}
use Rattle.passkey_webauthn.proofs.number_text.NumberText.push.Goals as goal

pub loop-byte-init : goal.loop-byte-init
loop-byte-init c text is =
    of_same c.args.self.now c.self.inside.state text (text ++ []) c.self.view_is (append-nil text) is

pub loop-byte-preserved : goal.loop-byte-preserved
loop-byte-preserved c text is =
    let bytes = c.as_bytes-byte-items.result.now in
    let i = c.loop-byte.byte-index in
    let byte = get_or bytes i 0 in
    let more : text ++ take (i + 1) bytes ≡ (text ++ take i bytes) ++ byte ∷ [] = ap (λ (t : List ℕ). text ++ t)
    (take_more bytes i 0 c.loop-byte-test.true) ∙ sym (append_assoc text (take i bytes) (byte ∷ [])) in
    let next = c.push-self-inside.result in
    of_same next next _ _ refl more (of_more c.loop-byte.self-inside.state next byte (text ++ take i bytes)
    (c.loop-byte.invariant text is) c.push-self-inside.ensures)

pub returns : goal.returns
returns c text is =
    let bytes = c.as_bytes-byte-items.result.now in
    let i = c.loop-byte.byte-index in
    let now = c.loop-byte.self-inside.state in
    let all : c.args.piece.now ≡ take i bytes =
    sym c.as_bytes-byte-items.ensures.value ∙ sym (take_all i bytes c.loop-byte-test.false) in
    of_same now now (text ++ take i bytes) (text ++ c.args.piece.now) refl (ap (λ (t : List ℕ). text ++ t) all)
    (c.loop-byte.invariant text is)
