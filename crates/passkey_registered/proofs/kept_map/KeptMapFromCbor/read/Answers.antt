use Rattle.passkey_kinds.proofs.Steps.{refl, true, arith, err_from_is_err_and}
use Rattle.passkey_registered.proofs.KeptValues.{map_then, no_map}
use Rattle.passkey_registered.proofs.kept_map.KeptMapFromCbor.read.Goals as goal

pub returns-in_err-read-clause-reads : goal.returns-in_err-read-clause-reads
returns-in_err-read-clause-reads c = λ i to l.
    let p = err_from_is_err_and c.from_residual.result c.from_residual.ensures.1 in
    let read = c.in_err-read.ensures.reads i to l in
    grind (arith, p, read, no_map)

pub returns-clause-reads : goal.returns-clause-reads
returns-clause-reads c = λ i to l.
    let read = c.in_ok-read.ensures.reads i to l in
    let made = c.new.ensures in
    let or = c.ok_or.ensures in
    grind (arith, read, made, or, map_then)

pub returns-clause-counts : goal.returns-clause-counts
returns-clause-counts c = λ i to l ok. c.in_ok-read.ensures.counts i to l (refl {a = true})
