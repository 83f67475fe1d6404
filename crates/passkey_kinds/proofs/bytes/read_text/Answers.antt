use Rattle.passkey_kinds.proofs.Steps.{Err, subst, BytesFault, text_read, text_refused, ReadsText, text_bytes}
use Rattle.passkey_kinds.proofs.bytes.read_text.Goals as goal

pub returns-in-Ok : goal.returns-in-Ok
returns-in-Ok c = text_read (text_bytes c.args.text.now) c.in-Ok.bytes c.in-Ok.ensures

pub returns-in-Err-NotBase64Encoded : goal.returns-in-Err-NotBase64Encoded
returns-in-Err-NotBase64Encoded c =
    let told = subst (λ (e : BytesFault). ReadsText c.args.text.now (Err e)) c.in-Err-NotBase64Encoded.field-0-is
    c.in-Err-NotBase64Encoded.ensures in
    text_refused (text_bytes c.args.text.now) _ told
