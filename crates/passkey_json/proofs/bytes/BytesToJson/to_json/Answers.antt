use Rattle.passkey_json.proofs.LeavesBack.{numbers_back}
use Rattle.passkey_json.proofs.bytes.BytesToJson.to_json.Goals as goal

pub returns-in-Numbers-clause-reads_back : goal.returns-in-Numbers-clause-reads_back
returns-in-Numbers-clause-reads_back c =
    let back = rw c.as_slice.ensures at c.array.ensures.reads_back in
    rw c.in-Numbers.is (numbers_back c.array.result c.args.self.now back)
