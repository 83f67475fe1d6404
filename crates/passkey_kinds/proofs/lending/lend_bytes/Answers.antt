use Rattle.passkey_kinds.proofs.Steps.{table_of}
use Rattle.passkey_kinds.proofs.Finding.{lends_row, leads, encoded_there}
use Rattle.passkey_kinds.proofs.lending.lend_bytes.Goals as goal

pub returns : goal.returns
returns g c =
    let bytes = c.args.bytes.now in
    let p = c.if-not-skip.ensures.front in
    lends_row (table_of g.R.Record.fields) c.args.number bytes p.item p.len c.bytes_ahead.result
    (leads bytes c.new-cursor.ensures p c.go_back.ensures)
    (c.bytes_ahead.ensures p.item p.len (encoded_there bytes c.new-cursor.ensures p c.go_back.ensures))
