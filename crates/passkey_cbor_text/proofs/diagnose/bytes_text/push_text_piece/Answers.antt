use Rattle.std.proofs.Common.{arith, sym, ap, ◌∙◌, ◌++◌, List, ℕ, true, append_assoc, string_bytes}
use Rattle.std.specs.Str.{is_utf8}
use Rattle.std.proofs.lemmas.Str.{is_utf8-from_IsUtf8}
use Rattle.passkey_cbor_text.specs.diagnose.BytesText.{string_text}
use Rattle.passkey_cbor_text.proofs.BytesTexts.{piece_short, piece_bad, piece_whole}
use Rattle.passkey_cbor_text.proofs.diagnose.bytes_text.push_text_piece.Goals as goal

pub returns-then-bytes-len : goal.returns-then-bytes-len
returns-then-bytes-len c =
    piece_short true c.args.indicator.now c.args.len c.args.bytes.now (string_bytes c.args.out.now) (omega arith)

pub returns-in-Err : goal.returns-in-Err
returns-in-Err c =
    let e = rw c.split_at.ensures.front at c.in-Err.ensures.cases in
    piece_bad c.args.indicator.now c.args.len c.args.bytes.now (string_bytes c.args.out.now) (omega arith) e.0

pub returns-in_ok-push_str-in-Ok : goal.returns-in_ok-push_str-in-Ok
returns-in_ok-push_str-in-Ok c =
    let cases = c.in-Ok.ensures.cases in
    let e = c.split_at.ensures in
    let allowed = ap (λ (s : List ℕ). is_utf8 s) (sym e.front) ∙ is_utf8-from_IsUtf8 c.split_at.result.0.now cases.1 in
    rw e.back (piece_whole true c.args.indicator.now c.args.len c.args.bytes.now (string_bytes c.args.out.now) _ (omega arith)
    allowed (c.in_ok-push_str-in-Ok.ensures.bytes
    ∙ ap (λ (s : List ℕ). s ++ c.args.indicator.now) c.in_ok-push_text-in-Ok.ensures
    ∙ append_assoc (string_bytes c.args.out.now) (string_text true c.in-Ok.text.now) c.args.indicator.now
    ∙ ap (λ (s : List ℕ). string_bytes c.args.out.now ++ (string_text true s ++ c.args.indicator.now)) (cases.0 ∙ e.front)))
