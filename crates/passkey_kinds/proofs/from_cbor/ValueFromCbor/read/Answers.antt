use Rattle.passkey_kinds.proofs.Steps.{arith, stands_long}
use Rattle.passkey_kinds.proofs.from_cbor.ValueFromCbor.read.Goals as goal

pub returns-in-Ok-clause-reads : goal.returns-in-Ok-clause-reads
returns-in-Ok-clause-reads c = λ i to l.
    let v = c.in-Ok.ensures.values i to l in
    grind (arith, v)

pub returns-in-Err-OutOfMemory-clause-reads : goal.returns-in-Err-OutOfMemory-clause-reads
returns-in-Err-OutOfMemory-clause-reads c = λ i to l.
    let v = c.in-Err-OutOfMemory.ensures.values i to l in
    let is = c.in-Err-OutOfMemory.field-0-is in
    grind (arith, stands_long, v, is)

pub returns-in-Err-DecodeFailed-clause-reads : goal.returns-in-Err-DecodeFailed-clause-reads
returns-in-Err-DecodeFailed-clause-reads c = λ i to l.
    let v = c.in-Err-DecodeFailed.ensures.values i to l in
    let is = c.in-Err-DecodeFailed.field-0-is in
    grind (arith, v, is)

pub returns-in-Err-OutOfRangeIntegerValue-clause-reads : goal.returns-in-Err-OutOfRangeIntegerValue-clause-reads
returns-in-Err-OutOfRangeIntegerValue-clause-reads c = λ i to l.
    let v = c.in-Err-OutOfRangeIntegerValue.ensures.values i to l in
    let is = c.in-Err-OutOfRangeIntegerValue.field-0-is in
    grind (arith, v, is)

pub returns-in-Ok-clause-counts : goal.returns-in-Ok-clause-counts
returns-in-Ok-clause-counts c = λ i to l ok.
    let v = c.in-Ok.ensures.values i to l in
    record { heads = c.in-Ok.ensures.moves.heads; nodes = omega (arith, v.nodes) }
