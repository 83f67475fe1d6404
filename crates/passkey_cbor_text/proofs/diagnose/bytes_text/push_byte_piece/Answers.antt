use Rattle.std.proofs.Common.{refl, arith, ap, ◌∙◌, ◌++◌, List, ℕ, false, append_assoc, string_bytes}
use Rattle.passkey_cbor_text.specs.diagnose.BytesText.{string_text}
use Rattle.passkey_cbor_text.proofs.BytesTexts.{piece_short, piece_whole}
use Rattle.passkey_cbor_text.proofs.diagnose.bytes_text.push_byte_piece.Goals as goal

pub returns-then-bytes-len : goal.returns-then-bytes-len
returns-then-bytes-len c =
    piece_short false c.args.indicator.now c.args.len c.args.bytes.now (string_bytes c.args.out.now) (omega arith)

pub returns : goal.returns
returns c =
    let e = c.split_at.ensures in
    rw e.back (piece_whole false c.args.indicator.now c.args.len c.args.bytes.now (string_bytes c.args.out.now) _ (omega arith)
    refl (c.in_ok-push_str.ensures.bytes
    ∙ ap (λ (s : List ℕ). s ++ c.args.indicator.now) c.in_ok-push_bytes.ensures
    ∙ append_assoc (string_bytes c.args.out.now) (string_text false c.split_at.result.0.now) c.args.indicator.now
    ∙ ap (λ (s : List ℕ). string_bytes c.args.out.now ++ (string_text false s ++ c.args.indicator.now)) e.front))
