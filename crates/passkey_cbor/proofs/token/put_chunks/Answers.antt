use Rattle.std.proofs.Common.{◌≡◌, ◌+◌, ◌≤◌, ◌∙◌, false, length, take, List, ℕ, None, refl, sym, subst, arith}
use Rattle.std.proofs.lemmas.List.{length-take}
use Rattle.passkey_cbor.specs.Inside.{Content}
use Rattle.passkey_cbor.specs.CursorState.{ahead}
use Rattle.passkey_cbor.proofs.strings.Chunks.{collects_start, collects_on, counts_end}
use Rattle.passkey_cbor.proofs.strings.Filling.{step_there, chunk_there, chunk_fits, all_there, put_after, put_long, fills}
use Rattle.passkey_cbor.proofs.token.put_chunks.Goals as goal

pub loop-head-init : goal.loop-head-init
loop-head-init c = record {
  unknown = refl;
  collects = collects_start false c.args.chunks.now _ c.requires.inside refl;
  within = omega arith;
  same = refl;
}

pub returns-in-Malformed : goal.returns-in-Malformed
returns-in-Malformed c =
    let i = c.loop-head.invariant in
    let s = c.requires.region in
    absurd (step_there (ahead c.args.chunks.now) c.args.chunks.now refl s.0 s.1 c.loop-head.left c.loop-head.chunks
    _ i.collects c.step.new.self c.in-Malformed.ensures.reads)

pub returns-in-None : goal.returns-in-None
returns-in-None c =
    let i = c.loop-head.invariant in
    let s = c.requires.region in
    absurd (chunk_there (ahead c.args.chunks.now) c.args.chunks.now refl s.0 s.1 c.loop-head.left c.loop-head.chunks
    _ i.collects c.step.new.left c.step.new.self c.chunk.new.self c.in-Element.head c.in-Element.ensures.reads
    c.in-None.ensures.reads)

pub put-requires : goal.put-requires
put-requires c =
    let i = c.loop-head.invariant in
    let s = c.requires.region in
    omega (
      arith,
      i.within,
      i.same,
      c.requires.size s.0 s.1,
      length-take c.loop-head.at c.loop-head.into,
      chunk_fits (ahead c.args.chunks.now) c.args.chunks.now refl s.0 s.1 c.loop-head.left c.loop-head.chunks
          (take c.loop-head.at c.loop-head.into) i.collects c.step.new.left c.step.new.self c.chunk.new.self
          c.in-Element.head c.in-Some.piece.now c.in-Element.ensures.reads c.in-Some.ensures.reads,
    )

pub loop-head-preserved : goal.loop-head-preserved
loop-head-preserved c =
    let i = c.loop-head.invariant in
    let s = c.requires.region in
    let fits : c.loop-head.at + length c.in-Some.piece.now ≤ length c.loop-head.into =
    omega (
      arith,
      i.within,
      i.same,
      c.requires.size s.0 s.1,
      length-take c.loop-head.at c.loop-head.into,
      chunk_fits (ahead c.args.chunks.now) c.args.chunks.now refl s.0 s.1 c.loop-head.left c.loop-head.chunks
          (take c.loop-head.at c.loop-head.into) i.collects c.step.new.left c.step.new.self c.chunk.new.self
          c.in-Element.head c.in-Some.piece.now c.in-Element.ensures.reads c.in-Some.ensures.reads,
    ) in
    let long : length c.put.new.into ≡ length c.loop-head.into =
    put_long c.loop-head.at c.loop-head.into c.put.new.into c.in-Some.piece.now fits c.put.ensures in
    record {
      unknown = (c.step.ensures.counted i.unknown).0;
      collects = collects_on false c.loop-head.left c.step.new.left c.args.chunks.now c.loop-head.chunks
          c.step.new.self c.chunk.new.self c.in-Element.head (take c.loop-head.at c.loop-head.into)
          (take (c.loop-head.at + length c.in-Some.piece.now) c.put.new.into) c.in-Some.piece.now i.collects
          c.in-Element.ensures.reads c.in-Some.ensures.reads
          (put_after c.loop-head.at c.loop-head.into c.put.new.into c.in-Some.piece.now i.within c.put.ensures);
      within = omega (arith, fits, long);
      same = long ∙ i.same;
    }

pub returns-in-End-clause-filled : goal.returns-in-End-clause-filled
returns-in-End-clause-filled c =
    let i = c.loop-head.invariant in
    let s = c.requires.region in
    let whole : s.0 ≡ take c.loop-head.at c.loop-head.into =
    all_there (ahead c.args.chunks.now) c.args.chunks.now refl s.0 s.1 c.loop-head.left c.loop-head.chunks
    (take c.loop-head.at c.loop-head.into) i.collects c.step.new.self c.in-End.ensures.reads in
    let size : length s.0 ≡ length c.loop-head.into = c.requires.size s.0 s.1 ∙ sym i.same in
    subst (λ (t : List ℕ). Content false None t (ahead c.args.chunks.now))
    (fills c.loop-head.at c.loop-head.into s.0 whole size i.within) s.1

pub returns-in-End-clause-counted : goal.returns-in-End-clause-counted
returns-in-End-clause-counted c =
    let i = c.loop-head.invariant in
    counts_end false c.loop-head.left c.args.chunks.now c.loop-head.chunks c.step.new.self
    (take c.loop-head.at c.loop-head.into) i.unknown i.collects c.in-End.ensures.reads
