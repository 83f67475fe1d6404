use Rattle.passkey_kinds.proofs.Steps.{skips_unknown}
use Rattle.passkey_kinds.proofs.laws.unknown_member_changes_the_length_alone.Goals as goal

pub returns : goal.returns
returns g c = skips_unknown c.at_most_one_leading_item.ensures g.R.Record.parts g.R.Record.fields
