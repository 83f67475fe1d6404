use Rattle.std.proofs.Common.{◌≡◌, ◌-◌, true, length, take, drop, ℕ, List, ap, subst, rules}
use Rattle.std.proofs.lemmas.Str.{IsUtf8-from_is_utf8}
use Rattle.passkey_cbor.specs.Pieces.{LendsPiece, in_chunks}
use Rattle.passkey_cbor.specs.CursorState.{ahead}
use Rattle.passkey_cbor.proofs.strings.Pieces.{no_step_there, no_chunk_there, at_end, splits_chunk, rest_there}
use Rattle.passkey_cbor.proofs.text_chunks.first_chunk.Goals as goal

pub unwrap-requires : goal.unwrap-requires
unwrap-requires c = let text =
    IsUtf8-from_is_utf8 c.in-Some.piece.now c.in-Some.ensures.reads.allowed_text in search rules

pub returns-in-Malformed : goal.returns-in-Malformed
returns-in-Malformed c s t = absurd (no_step_there true c.args.region.now c.new-chunks.result
    (ap ahead c.new-chunks.ensures) c.step.new.self c.in-Malformed.ensures.reads s t)

pub returns-in-End : goal.returns-in-End
returns-in-End c = at_end true c.args.region.now c.new-chunks.result (ap ahead c.new-chunks.ensures) c.step.new.self
    c.in-End.ensures.reads

pub returns-in-None : goal.returns-in-None
returns-in-None c s t = absurd
    (no_chunk_there true c.args.region.now c.new-chunks.result (ap ahead c.new-chunks.ensures) c.step.new.left
    c.step.new.self c.chunk.new.self c.in-Element.head c.in-Element.ensures.reads c.in-None.ensures.reads s t)

pub returns-in-Some : goal.returns-in-Some
returns-in-Some c =
    let lent = splits_chunk true c.args.region.now c.new-chunks.result (ap ahead c.new-chunks.ensures)
    c.step.new.left c.step.new.self c.chunk.new.self c.in-Element.head c.in-Some.piece.now _
    c.in-Element.ensures.reads c.in-Some.ensures.reads
    (rest_there c.args.region.now c.new-chunks.result c.step.new.self c.chunk.new.self c.place.result
    c.new-chunks.ensures c.in-Element.ensures.reads.passed c.in-Some.ensures.reads.passed c.place.ensures) in
    let same : c.in-Some.piece.now ≡ c.unwrap.result.now = search rules in
    let P : List ℕ → Type 0 = λ piece. LendsPiece true (in_chunks c.args.region.now) (in_chunks
    (take (length c.args.region.now - c.place.result) (drop c.place.result c.args.region.now))) piece in
    subst P same lent
