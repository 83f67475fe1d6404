use Rattle.passkey_kinds.proofs.Steps.{arith, err_from_is_err_and}
use Rattle.passkey_registered.proofs.large_blob_key.LargeBlobKeyFromCbor.read.Goals as goal

pub returns-in_err-read-clause-reads : goal.returns-in_err-read-clause-reads
returns-in_err-read-clause-reads c = λ i to l.
    let p = err_from_is_err_and c.from_residual.result c.from_residual.ensures.1 in
    let read = c.in_err-read.ensures.reads i to l in
    grind (arith, p, read)

pub returns-clause-reads : goal.returns-clause-reads
returns-clause-reads c = λ i to l.
    let read = c.in_ok-read.ensures.reads i to l in
    let made = c.new.ensures in
    grind (arith, read, made)
