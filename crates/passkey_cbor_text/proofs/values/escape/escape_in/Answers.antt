use Rattle.passkey_cbor_text.proofs.Gathering.{not_alone}
use Rattle.std.proofs.Common.{arith}
use Rattle.passkey_cbor_text.proofs.values.escape.escape_in.Goals as goal

pub returns-then-members-ne1 : goal.returns-then-members-ne1
returns-then-members-ne1 c = not_alone c.args.members.now (λ e. c.if-members-ne1.true (omega arith))
