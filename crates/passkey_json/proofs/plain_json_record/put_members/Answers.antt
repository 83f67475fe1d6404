use Rattle.std.proofs.Common.{refl}
use Rattle.passkey_json.proofs.Tables.{all_written, at_end, row_encoded, row_is}
use Rattle.passkey_json.proofs.plain_json_record.put_members.Goals as goal
use Rattle.passkey_json.specs.Written.{so_far}

pub loop-row-init : goal.loop-row-init
loop-row-init g c = record { same = refl; back = λ back. back }

pub loop-row-preserved : goal.loop-row-preserved
loop-row-preserved g c =
    let t = g.R.PlainJsonRecord.table in
    let put = rw (c.name.ensures, c.in_ok-member.ensures.written, c.number.ensures) at c.in_ok-put_value.ensures in
    let back = rw c.number.ensures at c.in_ok-member.ensures.reads_back in
    let at = row_is _ t c.rows-row-items.ensures _ _ c.loop-row-test.true in
    row_encoded at.1 c.args.form c.args.value.now _ (so_far c.loop-row.object) _ c.loop-row.invariant put back

pub returns-clause-written : goal.returns-clause-written
returns-clause-written g c =
    let t = g.R.PlainJsonRecord.table in
    (all_written t.members _ c.args.form c.args.value.now _ (so_far c.loop-row.object)
    (at_end c.rows-row-items.result.now t.members c.rows-row-items.ensures _ c.loop-row-test.false)
    c.loop-row.invariant).0

pub returns-clause-reads_back : goal.returns-clause-reads_back
returns-clause-reads_back g c =
    let t = g.R.PlainJsonRecord.table in
    (all_written t.members _ c.args.form c.args.value.now _ (so_far c.loop-row.object)
    (at_end c.rows-row-items.result.now t.members c.rows-row-items.ensures _ c.loop-row-test.false)
    c.loop-row.invariant).1
