use Rattle.passkey_kinds.proofs.Steps.{rules}
use Rattle.passkey_webauthn.specs.NameLaws.{one_more_text}
use Rattle.passkey_kinds.proofs.names.names_of.Goals as goal

pub loop-i-preserved : goal.loop-i-preserved
loop-i-preserved g c = record {
  long = search rules;
  named = one_more_text c.args.table.now c.loop-i.names c.loop-i.i _ c.index-table-i.result (search rules)
      (search rules) (search rules) c.loop-i.invariant.named;
}
