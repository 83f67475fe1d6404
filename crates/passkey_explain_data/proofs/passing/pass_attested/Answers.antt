use Rattle.std.proofs.Common.{ℕ, List, Bor, sym}
use Rattle.passkey_core.specs.DataReading.{ReadsAttested, ReadsItem}
use Rattle.passkey_cose.specs.KeyReading.{read_key}
use Rattle.passkey_explain_data.specs.DataBlame.{BlamesAttested, BlamesKey, ReadsTo}
use Rattle.passkey_explain_data.proofs.DataPassing.{attested_read, attested_refused, passes_more}
use Rattle.passkey_explain_data.proofs.passing.pass_attested.Goals as goal

pub returns-in-Ok : goal.returns-in-Ok
returns-in-Ok c =
    let whole = c.args.whole.now in
    let rest = c.args.rest.now in
    let following = c.in-Ok.following.now in
    let passed = sym c.in-Ok.ensures in
    passes_more (λ (after : Bor (List ℕ)). ReadsTo (ReadsItem read_key following) after.now)
    (λ (after : Bor (List ℕ)). ReadsTo (ReadsAttested rest) after.now) (BlamesKey whole following)
    (BlamesAttested whole rest) c.pass_key.result (λ after h. attested_read whole rest following after.now passed h)
    (λ r b. attested_refused whole rest following r passed b) c.pass_key.ensures
