use Rattle.std.proofs.Common.{ℕ, List, Bor}
use Rattle.passkey_core.specs.DataReading.{read_map, ReadsItem, ReadsWhere}
use Rattle.passkey_explain_data.specs.DataBlame.{BlamesExtensions, BlamesWhere, ReadsTo}
use Rattle.passkey_explain_data.proofs.DataPassing.{passes_more, where_read, where_refused}
use Rattle.passkey_explain_data.proofs.passing.pass_extensions_where.Goals as goal

pub returns-then-is_there : goal.returns-then-is_there
returns-then-is_there c =
    let flag = c.args.is_there in
    let rest = c.args.rest.now in
    let blames = BlamesExtensions c.args.whole.now rest in
    passes_more (λ (after : Bor (List ℕ)). ReadsTo (ReadsItem read_map rest) after.now)
    (λ (after : Bor (List ℕ)). ReadsTo (ReadsWhere flag (ReadsItem read_map) rest) after.now) blames
    (BlamesWhere flag blames) c.pass_extensions.result
    (λ after h. where_read flag (ReadsItem read_map) rest after.now c.if-is_there.true h)
    (λ r b. where_refused flag blames r c.if-is_there.true b) c.pass_extensions.ensures
