use Rattle.passkey_json.proofs.Tables.{table_back}
use Rattle.passkey_json.proofs.plain_json_record.AnyToJson.to_json.Goals as goal

pub returns-clause-reads_back : goal.returns-clause-reads_back
returns-clause-reads_back g c =
    table_back g.R.PlainJsonRecord.table c.args.form c.args.self.now c.in_ok-put_members.ensures.reads_back
