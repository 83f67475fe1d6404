use Rattle.std.proofs.Common.{arith, sym, ap, ◌∙◌, [], List, ℕ, None, Some, string_bytes}
use Rattle.passkey_cbor_text.specs.diagnose.BytesText.{chunk_text, parts_text}
use Rattle.passkey_cbor_text.proofs.BytesTexts.{parts_end, parts_over, parts_broken, parts_step}
use Rattle.passkey_cbor_text.proofs.diagnose.bytes_text.push_all_chunks.Goals as goal

pub returns-then-others-eq0 : goal.returns-then-others-eq0
returns-then-others-eq0 c =
    sym c.loop-alloc.invariant
    ∙ ap (λ (n : ℕ). parts_text (chunk_text c.args.is_text) [] n None c.loop-alloc.is_first c.loop-alloc.here.now
    (string_bytes c.loop-alloc.out)) c.if-others-eq0.true
    ∙ parts_over (chunk_text c.args.is_text) [] None c.loop-alloc.is_first c.loop-alloc.here.now
    (string_bytes c.loop-alloc.out) (sym c.loop-alloc-test.ensures)

pub returns-in-None : goal.returns-in-None
returns-in-None c =
    let none = rw c.in-None.is at c.in_ok-push_chunk.ensures in
    sym c.loop-alloc.invariant
    ∙ parts_broken (chunk_text c.args.is_text) [] c.loop-alloc.others None c.loop-alloc.is_first c.loop-alloc.here.now
    (string_bytes c.loop-alloc.out) (string_bytes c.push_separator.new.out) (omega arith) (sym c.loop-alloc-test.ensures)
    c.in_ok-push_separator.ensures none

pub loop-alloc-preserved : goal.loop-alloc-preserved
loop-alloc-preserved c =
    let one = rw c.in-Some.is at c.in_ok-push_chunk.ensures in
    sym (parts_step (chunk_text c.args.is_text) [] c.loop-alloc.others None c.loop-alloc.is_first c.loop-alloc.here.now
    (string_bytes c.loop-alloc.out) (string_bytes c.push_separator.new.out) (string_bytes c.push_chunk.new.out)
    c.in-Some.next.now (omega arith) (sym c.loop-alloc-test.ensures) c.in_ok-push_separator.ensures one) ∙ c.loop-alloc.invariant

pub returns : goal.returns
returns c =
    sym c.loop-alloc.invariant
    ∙ parts_end (chunk_text c.args.is_text) [] c.loop-alloc.others None c.loop-alloc.is_first c.loop-alloc.here.now
    (string_bytes c.loop-alloc.out) (sym c.loop-alloc-test.ensures)
    ∙ ap (λ (r : List ℕ). Some (string_bytes c.loop-alloc.out, r)) (sym c.after_last.ensures)
