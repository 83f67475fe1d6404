use Rattle.passkey_kinds.proofs.Steps.{◌∙◌, sym, ap, refl, map, Ok, mapped_at, pair_of}
use Rattle.passkey_kinds.proofs.Common.{entry_of}
use Rattle.passkey_explain.proofs.Blames.{pairs_begin, pair_blamed, pair_passes}
use Rattle.passkey_explain.specs.Blaming.{accepts_in}
use Rattle.passkey_explain.proofs.descent.next_pair.Goals as goal

pub loop-index-init : goal.loop-index-init
loop-index-init g c = λ rows h of.
    let es = map entry_of c.args.table.now.rows.now in
    let members = map pair_of c.args.pairs.now in
    pairs_begin es (accepts_in rows) of c.args.table.now.is_numbered 0 members _ _ refl c.no_marks-seen.ensures

pub returns-in-Some-clause-blames : goal.returns-in-Some-clause-blames
returns-in-Some-clause-blames g c = λ rows h of.
    let at = mapped_at pair_of c.args.pairs.now _ c.index-pairs-index.result c.index-pairs-index.is c.loop-index-test.true in
    let told = rw c.in-Some.is at (c.in_ok-next.ensures.blames rows h of) in
    pair_blamed _ (accepts_in rows) of _ c.loop-index.index _ _ _ _ _ at told ∙ sym (c.loop-index.invariant rows h of)

pub returns-in-Some-clause-into : goal.returns-in-Some-clause-into
returns-in-Some-clause-into g c = λ rows h. rw c.in-Some.is at (c.in_ok-next.ensures.into rows h)

pub loop-index-preserved : goal.loop-index-preserved
loop-index-preserved g c = λ rows h of.
    let at = mapped_at pair_of c.args.pairs.now _ c.index-pairs-index.result c.index-pairs-index.is c.loop-index-test.true in
    let told = rw c.in-None.is at (c.in_ok-next.ensures.blames rows h of) in
    let marks = c.next_member.ensures.marks rows h (c.in_ok-next.was ∙ ap Ok c.in-None.is) in
    c.loop-index.invariant rows h of
    ∙ pair_passes _ (accepts_in rows) of _ c.loop-index.index _ _ _ _ _ at told marks
