use Rattle.std.proofs.Common.{◌∙◌, ap, Bool}
use Rattle.std.proofs.lemmas.Str.{IsUtf8-from_ascii, is_utf8-from_IsUtf8}
use Rattle.passkey_cbor.specs.Reading.{is_allowed}
use Rattle.passkey_cbor.proofs.cursor.is_plain.Goals as goal

pub returns-else-not-is_text-clause-allowed : goal.returns-else-not-is_text-clause-allowed
returns-else-not-is_text-clause-allowed c = λ short.
    ap (λ (b : Bool). is_allowed b c.args.bytes.now) c.if-not-is_text.false
    ∙ is_utf8-from_IsUtf8 c.args.bytes.now (IsUtf8-from_ascii c.args.bytes.now (c.is_short_ascii.ensures short))
