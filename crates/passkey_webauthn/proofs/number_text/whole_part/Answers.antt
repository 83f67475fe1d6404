use Rattle.std.proofs.Common.{[]}
use Rattle.passkey_webauthn.proofs.number_text.whole_part.Goals as goal

pub returns : goal.returns
returns c = c.whole.ensures c.args.text.now (c.push.ensures [] c.new-number.ensures)
