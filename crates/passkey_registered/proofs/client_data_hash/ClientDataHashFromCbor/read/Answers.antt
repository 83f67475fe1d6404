use Rattle.passkey_kinds.proofs.Steps.{arith, err_from_is_err_and}
use Rattle.passkey_registered.proofs.ExactValues.{hash_is, no_hash}
use Rattle.passkey_registered.proofs.client_data_hash.ClientDataHashFromCbor.read.Goals as goal

pub returns-in_err-bytes-clause-reads : goal.returns-in_err-bytes-clause-reads
returns-in_err-bytes-clause-reads c = λ i to l.
    let p = err_from_is_err_and c.from_residual.result c.from_residual.ensures.1 in
    let read = c.in_err-bytes.ensures.reads i to l in
    grind (arith, p, read, no_hash)

pub returns-clause-reads : goal.returns-clause-reads
returns-clause-reads c = λ i to l.
    let read = c.in_ok-bytes.ensures.reads i to l in
    let slice = c.as_slice.ensures in
    let made = c.sized.ensures in
    grind (arith, read, slice, made, hash_is)
