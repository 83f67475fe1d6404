use Rattle.std.proofs.Common.{ℕ, List, Bor}
use Rattle.passkey_core.specs.DataReading.{ReadsAttested, ReadsWhere}
use Rattle.passkey_explain_data.specs.DataBlame.{BlamesAttested, BlamesWhere, ReadsTo}
use Rattle.passkey_explain_data.proofs.DataPassing.{passes_more, where_read, where_refused}
use Rattle.passkey_explain_data.proofs.passing.pass_attested_where.Goals as goal

pub returns-then-is_there : goal.returns-then-is_there
returns-then-is_there c =
    let flag = c.args.is_there in
    let rest = c.args.rest.now in
    let blames = BlamesAttested c.args.whole.now rest in
    passes_more (λ (after : Bor (List ℕ)). ReadsTo (ReadsAttested rest) after.now)
    (λ (after : Bor (List ℕ)). ReadsTo (ReadsWhere flag ReadsAttested rest) after.now) blames
    (BlamesWhere flag blames) c.pass_attested.result
    (λ after h. where_read flag ReadsAttested rest after.now c.if-is_there.true h)
    (λ r b. where_refused flag blames r c.if-is_there.true b) c.pass_attested.ensures
