use Rattle.passkey_kinds.proofs.Steps.{ap, byte_string, onward_of, sym, on_ok, data_further, copied_further, counted_further, rules, true, data_from, ◌∙◌, false, arith, err_from_is_err_and, data_decodes, no_data, looks_all, looks_some, looks_none, lent_decodes, not_lent_decodes, bytes_grow, lent_is}
use Rattle.passkey_kinds.proofs.Counting.{data_kept, least_later, rises, unless_ok}
use Rattle.passkey_kinds.proofs.data.AuthenticatorDataFromCbor.read.Goals as goal

pub returns-in-None-clause-reads : goal.returns-in-None-clause-reads
returns-in-None-clause-reads c = λ i to l.
    let f = c.in-None.ensures.lends i to l in
    search (rules, not_lent_decodes, no_data, f)

pub returns-in_err-bytes-in-None-lent-clause-reads : goal.returns-in_err-bytes-in-None-lent-clause-reads
returns-in_err-bytes-in-None-lent-clause-reads c = λ i to l.
    let p = err_from_is_err_and c.from_residual.result c.from_residual.ensures.1 in
    let f = c.in-Some.ensures.lends i to l in
    let looks = looks_some c.in_err-bytes-in-None-lent.ensures.rises false (f.0, f.1.1.tells)
    c.in_err-bytes-in-None-lent.ensures.looks in
    rw (p.1, p.2) (lent_decodes data_from true i (omega arith) l c.in-Some.ensures.front f looks
    (bytes_grow f.0 (c.in_err-bytes-in-None-lent.ensures.copies f.0 f.1.1.tells)))

pub returns-in-Some-lent-clause-reads : goal.returns-in-Some-lent-clause-reads
returns-in-Some-lent-clause-reads c = λ i to l.
    let f = c.in-Some.ensures.lends i to l in
    data_decodes i c.in-Some.ensures.front f (looks_none _ _)
    (lent_is false _ c.in-Some-lent.bytes.now f.0 c.in-Some-lent.ensures f.1.1.tells) c.read_counted.ensures.counts
    c.read_counted.ensures.answers

pub returns-in_ok-bytes-in-None-lent-clause-reads : goal.returns-in_ok-bytes-in-None-lent-clause-reads
returns-in_ok-bytes-in-None-lent-clause-reads c = λ i to l.
    let f = c.in-Some.ensures.lends i to l in
    let looks = looks_all c.in_ok-bytes-in-None-lent.ensures.rises false (f.0, f.1.1.tells)
    c.in_ok-bytes-in-None-lent.ensures.looks in
    data_decodes i c.in-Some.ensures.front f looks
    (c.deref.ensures.value ∙ c.in_ok-bytes-in-None-lent.ensures.copies f.0 f.1.1.tells)
    c.read_counted-in-None-lent.ensures.counts c.read_counted-in-None-lent.ensures.answers

pub returns-in-Some-lent-clause-further : goal.returns-in-Some-lent-clause-further
returns-in-Some-lent-clause-further c = on_ok c.read_counted.result (data_further _ _ _ _ _ _ c.in-Some.ensures.front
    (looks_none _ _) c.read_counted.ensures.counts)

pub returns-in_ok-bytes-in-None-lent-clause-further : goal.returns-in_ok-bytes-in-None-lent-clause-further
returns-in_ok-bytes-in-None-lent-clause-further c =
    let copied = c.in_ok-bytes-in-None-lent.ensures in
    on_ok c.read_counted-in-None-lent.result (counted_further
    (copied_further _ _ _ _ false c.in-Some.ensures.front copied.looks copied.rises)
    c.read_counted-in-None-lent.ensures.counts)

pub returns-in-Some-lent-clause-counts : goal.returns-in-Some-lent-clause-counts
returns-in-Some-lent-clause-counts c = λ i to l ok.
    let f = c.in-Some.ensures.lends i to l in
    let t = c.in-Some-lent.bytes.now in
    let is = f.1.0 ∙ ap byte_string (sym (lent_is false _ t f.0 c.in-Some-lent.ensures f.1.1.tells)) in
    data_kept i t is (rises (onward_of _ _ c.in-Some.ensures.moves)) c.read_counted.ensures.counts
    (unless_ok c.read_counted.result c.read_counted.ensures.all ok)

pub returns-in_ok-bytes-in-None-lent-clause-counts : goal.returns-in_ok-bytes-in-None-lent-clause-counts
returns-in_ok-bytes-in-None-lent-clause-counts c = λ i to l ok.
    let f = c.in-Some.ensures.lends i to l in
    let copied = c.in_ok-bytes-in-None-lent.ensures in
    let is = f.1.0 ∙ ap byte_string (sym (c.deref.ensures.value ∙ copied.copies f.0 f.1.1.tells)) in
    let risen = least_later _ (rises (onward_of _ _ c.in-Some.ensures.moves))
    (record { heads = copied.rises; nodes = omega (arith, copied.looks.nodes) }) in
    data_kept i _ is risen c.read_counted-in-None-lent.ensures.counts
    (unless_ok c.read_counted-in-None-lent.result c.read_counted-in-None-lent.ensures.all ok)
