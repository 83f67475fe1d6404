use Rattle.std.proofs.Common.{rules, ◌≡◌, Err}
use Rattle.passkey_json.proofs.Tables.{all_read, at_end, row_goes_on, row_is, row_not_found, row_not_put}
use Rattle.passkey_json.proofs.plain_json_record.read_members.Goals as goal

pub returns-in_err-member : goal.returns-in_err-member
returns-in_err-member g c =
    let t = g.R.PlainJsonRecord.table in
    let result : c.from_residual.result ≡ Err c.in_err-member.field-0.0 = search rules in
    let at = row_is _ t c.rows-row-items.ensures _ _ c.loop-row-test.true in
    rw result (row_not_found at.1 _ t.blank c.loop-row.read c.loop-row.invariant _ c.in_err-member.ensures)

pub returns-in_err-put : goal.returns-in_err-put
returns-in_err-put g c =
    let t = g.R.PlainJsonRecord.table in
    let result : c.from_residual-in_err-put.result ≡ Err c.in_err-put.field-0.0 = search rules in
    let at = row_is _ t c.rows-row-items.ensures _ _ c.loop-row-test.true in
    rw result (row_not_put at.1 _ t.blank c.loop-row.read c.loop-row.invariant _ c.number.ensures _ _
    c.in_ok-member.ensures c.in_err-put.ensures.gives)

pub loop-row-preserved : goal.loop-row-preserved
loop-row-preserved g c =
    let t = g.R.PlainJsonRecord.table in
    let put = rw c.number.ensures at c.in_ok-put.ensures.gives in
    let at = row_is _ t c.rows-row-items.ensures _ _ c.loop-row-test.true in
    row_goes_on at.1 _ t.blank c.loop-row.read c.loop-row.invariant _ _ c.in_ok-member.ensures put

pub returns : goal.returns
returns g c =
    let t = g.R.PlainJsonRecord.table in
    all_read t.members _ _ t.blank c.loop-row.read
    (at_end c.rows-row-items.result.now t.members c.rows-row-items.ensures _ c.loop-row-test.false)
    c.loop-row.invariant
