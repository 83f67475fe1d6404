use Rattle.passkey_kinds.proofs.Steps.{refl, true, further_again, skip_further, arith, Spends, eased, stands_long, stands_again, spends_again}
use Rattle.passkey_kinds.proofs.Counting.{kept_accepted, kept_if_accepted, kept_refused, rises_again}
use Rattle.passkey_kinds.proofs.from_cbor.ToleratedFromCbor.read.Goals as goal

pub returns-in-Ok-clause-reads : goal.returns-in-Ok-clause-reads
returns-in-Ok-clause-reads g c = λ i to l.
    let read = c.in-Ok.ensures.reads i to l in
    grind (arith, eased, stands_long, kept_if_accepted, read)

pub returns-then-skip-clause-reads : goal.returns-then-skip-clause-reads
returns-then-skip-clause-reads g c = λ i to l.
    let on = c.in-Err-Refused.ensures.onward in
    let read = c.in-Err-Refused.ensures.reads i to l in
    let is = c.in-Err-Refused.field-0-is in
    let passed = c.if-skip.ensures.passes i to (stands_again on c.go_back.ensures c.place-start.ensures i l) in
    let skipped : Spends 1 0 to c.go_back.new.self c.skip.new.self = grind (arith, passed) in
    let spent = spends_again on c.go_back.ensures c.place-start.ensures read.spends skipped in
    grind (arith, kept_if_accepted, read, is, passed, spent)

pub returns-else-skip-clause-reads : goal.returns-else-skip-clause-reads
returns-else-skip-clause-reads g c = λ i to l.
    let on = c.in-Err-Refused.ensures.onward in
    absurd (cc (c.if-skip.ensures.passes i to (stands_again on c.go_back.ensures c.place-start.ensures i l)).is_found)

pub returns-in-Err-OutOfMemory-clause-reads : goal.returns-in-Err-OutOfMemory-clause-reads
returns-in-Err-OutOfMemory-clause-reads g c = λ i to l.
    let read = c.in-Err-OutOfMemory.ensures.reads i to l in
    let is = c.in-Err-OutOfMemory.field-0-is in
    grind (arith, eased, stands_long, kept_if_accepted, read, is)

pub returns-then-skip-clause-further : goal.returns-then-skip-clause-further
returns-then-skip-clause-further g c = further_again c.in-Err-Refused.ensures.onward c.go_back.ensures
    c.place-start.ensures (skip_further _ _ c.if-skip.ensures.front)

pub returns-in-Ok-clause-counts : goal.returns-in-Ok-clause-counts
returns-in-Ok-clause-counts g c = λ i to l ok.
    kept_accepted g.T.FromCbor.typed.of g.T.FromCbor.typed.keeps i _ _ _ (c.in-Ok.ensures.reads i to l).answers
    (c.in-Ok.ensures.counts i to l (refl {a = true}))

pub returns-then-skip-clause-counts : goal.returns-then-skip-clause-counts
returns-then-skip-clause-counts g c = λ i to l ok.
    let read = c.in-Err-Refused.ensures.reads i to l in
    let is = c.in-Err-Refused.field-0-is in
    kept_refused g.T.FromCbor.typed.of g.T.FromCbor.typed.keeps i _ _ (grind (arith, read, is))
    (rises_again c.in-Err-Refused.ensures.onward c.go_back.ensures c.if-skip.ensures.moves)
