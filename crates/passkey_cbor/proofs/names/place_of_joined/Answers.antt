use Rattle.std.proofs.Common.{◌≡◌, true, false, map, refl, sym, ◌∙◌, ◌++◌}
use Rattle.passkey_cbor.specs.Names.{begins_one}
use Rattle.passkey_cbor.proofs.strings.Chunks.{seeks_start, seeks_on, seeks_collects, sought_no_step, sought_no_chunk, sought_stops, sought_end}
use Rattle.passkey_cbor.proofs.strings.Joining.{no_step_sought, no_chunk_sought, none_sought, all_sought}
use Rattle.passkey_cbor.proofs.strings.Naming.{place_of-told}
use Rattle.passkey_cbor.proofs.names.place_of_joined.Goals as goal

pub loop-head-init : goal.loop-head-init
loop-head-init c =
    record { unknown = refl; seeks = seeks_start c.args.is_text _ c.args.chunks.now _ c.requires refl }

pub returns-in-Malformed-clause-place : goal.returns-in-Malformed-clause-place
returns-in-Malformed-clause-place c =
    no_step_sought c.args.is_text c.loop-head.left c.args.chunks.now c.loop-head.chunks c.step.new.self
    c.loop-head.joined.now _ _ (seeks_collects c.args.is_text _ c.loop-head.left c.args.chunks.now
    c.loop-head.chunks c.loop-head.joined.now c.loop-head.invariant.seeks) c.in-Malformed.ensures.reads

pub returns-in-End-clause-place : goal.returns-in-End-clause-place
returns-in-End-clause-place c = all_sought c.args.is_text c.loop-head.left c.args.chunks.now c.loop-head.chunks
    c.step.new.self c.loop-head.joined.now _ c.place_of.result (c.place_of.ensures
    ∙ place_of-told c.loop-head.joined.now c.args.names.now) (seeks_collects c.args.is_text _ c.loop-head.left
    c.args.chunks.now c.loop-head.chunks c.loop-head.joined.now c.loop-head.invariant.seeks) c.in-End.ensures.reads

pub returns-in-None-clause-place : goal.returns-in-None-clause-place
returns-in-None-clause-place c = no_chunk_sought c.args.is_text c.loop-head.left c.step.new.left c.args.chunks.now
    c.loop-head.chunks c.step.new.self c.chunk.new.self c.in-Element.head c.loop-head.joined.now _ _
    (seeks_collects c.args.is_text _ c.loop-head.left c.args.chunks.now c.loop-head.chunks c.loop-head.joined.now
    c.loop-head.invariant.seeks) c.in-Element.ensures.reads c.in-None.ensures.reads

pub returns-in-None-longer-clause-place : goal.returns-in-None-longer-clause-place
returns-in-None-longer-clause-place c =
    let none : begins_one (c.loop-head.joined.now ++ c.in-Some.piece.now) (map (λ n. n.now) c.args.names.now)
    ≡ false = sym c.in-None-longer.ensures.begins in
    none_sought c.args.is_text c.loop-head.left c.step.new.left c.args.chunks.now c.loop-head.chunks c.step.new.self
    c.chunk.new.self c.in-Element.head c.loop-head.joined.now c.in-Some.piece.now _
    (seeks_collects c.args.is_text _ c.loop-head.left c.args.chunks.now c.loop-head.chunks
    c.loop-head.joined.now c.loop-head.invariant.seeks) c.in-Element.ensures.reads c.in-Some.ensures.reads none

pub loop-head-preserved : goal.loop-head-preserved
loop-head-preserved c =
    let some : begins_one (c.loop-head.joined.now ++ c.in-Some.piece.now) (map (λ n. n.now) c.args.names.now)
    ≡ true = sym c.in-Some-longer.ensures.begins in
    record {
      unknown = (c.step.ensures.counted c.loop-head.invariant.unknown).0;
      seeks = seeks_on c.args.is_text _ c.loop-head.left c.step.new.left c.args.chunks.now c.loop-head.chunks
          c.step.new.self c.chunk.new.self c.in-Element.head c.loop-head.joined.now c.in-Some-longer.more.now
          c.in-Some.piece.now c.loop-head.invariant.seeks c.in-Element.ensures.reads c.in-Some.ensures.reads
          c.in-Some-longer.ensures.same some;
    }

pub returns-in-Malformed-clause-counted : goal.returns-in-Malformed-clause-counted
returns-in-Malformed-clause-counted c =
    sought_no_step c.args.is_text _ c.loop-head.left c.args.chunks.now c.loop-head.chunks c.step.new.self
    c.loop-head.joined.now c.loop-head.invariant.seeks c.in-Malformed.ensures.reads

pub returns-in-End-clause-counted : goal.returns-in-End-clause-counted
returns-in-End-clause-counted c =
    sought_end c.args.is_text _ c.loop-head.left c.args.chunks.now c.loop-head.chunks c.step.new.self
    c.loop-head.joined.now c.loop-head.invariant.unknown c.loop-head.invariant.seeks c.in-End.ensures.reads

pub returns-in-None-clause-counted : goal.returns-in-None-clause-counted
returns-in-None-clause-counted c = sought_no_chunk c.args.is_text _ c.loop-head.left c.step.new.left
    c.args.chunks.now c.loop-head.chunks c.step.new.self c.chunk.new.self c.in-Element.head c.loop-head.joined.now
    c.loop-head.invariant.seeks c.in-Element.ensures.reads c.in-None.ensures.reads

pub returns-in-None-longer-clause-counted : goal.returns-in-None-longer-clause-counted
returns-in-None-longer-clause-counted c =
    let none : begins_one (c.loop-head.joined.now ++ c.in-Some.piece.now) (map (λ n. n.now) c.args.names.now)
    ≡ false = sym c.in-None-longer.ensures.begins in
    sought_stops c.args.is_text _ c.loop-head.left c.step.new.left c.args.chunks.now c.loop-head.chunks
    c.step.new.self c.chunk.new.self c.in-Element.head c.loop-head.joined.now c.in-Some.piece.now
    c.loop-head.invariant.seeks c.in-Element.ensures.reads c.in-Some.ensures.reads none
