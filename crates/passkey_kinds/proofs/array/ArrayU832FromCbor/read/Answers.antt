use Rattle.passkey_kinds.proofs.Steps.{on_ok, looked_further, arith, false, sized_bytes_from, stands_long, lent_decodes, stands_missed, missed_then, numbers_are}
use Rattle.passkey_kinds.proofs.array.ArrayU832FromCbor.read.Goals as goal

pub returns-in-Some-clause-reads : goal.returns-in-Some-clause-reads
returns-in-Some-clause-reads c = λ i to l.
    let f = c.in-Some.ensures.lends i to l in
    lent_decodes (sized_bytes_from 32) false i (omega arith) l c.in-Some.ensures.front f c.filled.ensures.looks
    (c.filled.ensures.answers f.0 f.1.1.tells)

pub returns-in-None-clause-reads : goal.returns-in-None-clause-reads
returns-in-None-clause-reads c = λ i to l.
    let missed = c.in-None.ensures.lends i to l in
    let r = c.read_numbers_here.ensures.reads i to (stands_missed i missed.1 l) in
    rw (numbers_are 32 i missed.0) (missed_then missed.1 (stands_long i l) r)

pub returns-in-Some-clause-further : goal.returns-in-Some-clause-further
returns-in-Some-clause-further c =
    on_ok c.filled.result (looked_further _ _ _ _ false c.in-Some.ensures.front c.filled.ensures.looks)
