use Rattle.std.proofs.Common.{arith, refl, rules}
use Rattle.passkey_bytes.specs.Encoding.{url_safe_loose}
use Rattle.passkey_bytes.proofs.SameTables.{SameEngine-same_alphabet}
use Rattle.passkey_bytes.proofs.encoding.url_safe_loose.Goals as goal

pub returns : goal.returns
returns c =
    SameEngine-same_alphabet c.new.result url_safe_loose c.new.ensures.symbols (omega arith) refl
    c.new.ensures.padding (search rules)
