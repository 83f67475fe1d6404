use Rattle.passkey_kinds.proofs.Steps.{refl, true, arith, err_from_is_err_and, eased, stands_long, stands_missed, missed_then, further_from, skip_further, onward_of, failed, null_item, other_item}
use Rattle.passkey_kinds.proofs.Counting.{kept_later, kept_null, kept_other, kept_unless_null, rises}
use Rattle.passkey_kinds.proofs.from_cbor.OptionFromCbor.read.Goals as goal

pub returns-then-null-clause-reads : goal.returns-then-null-clause-reads
returns-then-null-clause-reads g c = λ i to l.
    let found = c.if-null.ensures.at i to l in
    grind (arith, null_item, eased, stands_long, kept_unless_null, found)

pub returns-then-null-clause-further : goal.returns-then-null-clause-further
returns-then-null-clause-further g c = skip_further _ _ c.if-null.ensures.passes.passed

pub returns-in_err-read-clause-reads : goal.returns-in_err-read-clause-reads
returns-in_err-read-clause-reads g c = λ i to l.
    let p = err_from_is_err_and c.from_residual.result c.from_residual.ensures.1 in
    let other = c.if-null.ensures.at i to l in
    let there = stands_missed i other.1 l in
    let read = c.in_err-read.ensures.reads i to there in
    missed_then other.1 (stands_long i l) (grind (arith, failed, other_item, eased, stands_long, kept_unless_null, there, p, other, read))

pub returns-clause-reads : goal.returns-clause-reads
returns-clause-reads g c = λ i to l.
    let other = c.if-null.ensures.at i to l in
    let there = stands_missed i other.1 l in
    let read = c.in_ok-read.ensures.reads i to there in
    missed_then other.1 (stands_long i l) (grind (arith, other_item, eased, stands_long, kept_unless_null, there, other, read))

pub returns-clause-further : goal.returns-clause-further
returns-clause-further g c =
    let looked = c.if-null.ensures.passes in
    further_from _ _ _ (onward_of _ _ c.if-null.ensures.moves) looked.1.place c.in_ok-read.ensures.further

pub returns-then-null-clause-counts : goal.returns-then-null-clause-counts
returns-then-null-clause-counts g c = λ i to l ok.
    kept_null g.T.FromCbor.typed.keeps i _ _ (c.if-null.ensures.at i to l).0 (onward_of _ _ c.if-null.ensures.moves)

pub returns-clause-counts : goal.returns-clause-counts
returns-clause-counts g c = λ i to l ok.
    let k = g.T.FromCbor.typed.keeps in
    let other = c.if-null.ensures.at i to l in
    let counted = c.in_ok-read.ensures.counts i to (stands_missed i other.1 l) (refl {a = true}) in
    kept_other k i _ _ other.0 (kept_later k i _ _ _ (rises (onward_of _ _ c.if-null.ensures.moves)) counted)
