use Rattle.passkey_kinds.proofs.Keys.{one_more_name}
use Rattle.passkey_kinds.proofs.Steps.{[], arith, rules}
use Rattle.passkey_kinds.proofs.key.names_of.Goals as goal

pub loop-i-preserved : goal.loop-i-preserved
loop-i-preserved c = record {
  long = search rules;
  named = one_more_name (λ e. e.name) [] c.args.rows.now c.loop-i.names c.loop-i.i c.loop-i.i c.name.result _
      (search rules) (search rules) c.name.ensures c.loop-i.invariant.named;
}
