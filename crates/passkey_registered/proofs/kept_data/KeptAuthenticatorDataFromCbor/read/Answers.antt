use Rattle.passkey_kinds.proofs.Counting.{data_kept, rises, unless_ok}
use Rattle.passkey_kinds.proofs.Steps.{Some, ap, arith, counted_further, err_from_is_err_and, on_ok, sym, ◌∙◌}
use Rattle.passkey_registered.proofs.KeptValues.{data_follow, exact_is, no_data_kept}
use Rattle.passkey_registered.proofs.kept_data.KeptAuthenticatorDataFromCbor.read.Goals as goal

pub returns-in_err-bytes-clause-reads : goal.returns-in_err-bytes-clause-reads
returns-in_err-bytes-clause-reads c = λ i to l.
    let p = err_from_is_err_and c.from_residual.result c.from_residual.ensures.1 in
    let read = c.in_err-bytes.ensures.reads i to l in
    grind (arith, p, read, no_data_kept)

pub returns-clause-reads : goal.returns-clause-reads
returns-clause-reads c = λ i to l.
    let read = c.in_ok-bytes.ensures.reads i to l in
    let is = exact_is i _ (read.answers ∙ ap Some (sym c.into_bytes.ensures)) in
    data_follow i l is read.spends read.ends c.decoded_at.ensures.counts c.decoded_at.ensures.answers

pub returns-clause-further : goal.returns-clause-further
returns-clause-further c =
    on_ok c.decoded_at.result (counted_further c.in_ok-bytes.ensures.further c.decoded_at.ensures.counts)

pub returns-clause-counts : goal.returns-clause-counts
returns-clause-counts c = λ i to l ok.
    let read = c.in_ok-bytes.ensures.reads i to l in
    let is = exact_is i _ (read.answers ∙ ap Some (sym c.into_bytes.ensures)) in
    data_kept i _ is (rises c.in_ok-bytes.ensures.onward) c.decoded_at.ensures.counts
    (unless_ok c.decoded_at.result c.decoded_at.ensures.all ok)
