use Rattle.std.proofs.Common.{◌≡◌, [], sym, ap, ◌∙◌}
use Rattle.base64.specs.GeneralPurpose.{encode_of}
use Rattle.base64.proofs.EngineFacts.{encode_of-nil}
use Rattle.passkey_memory.proofs.Failing.{on_err}
use Rattle.passkey_memory.proofs.Emptiness.{empty_list, filled_list}
use Rattle.passkey_bytes.proofs.encoding.encode.Goals as goal

pub returns-then-is_empty-clause-same : goal.returns-then-is_empty-clause-same
returns-then-is_empty-clause-same c =
    let empty : c.args.bytes.now ≡ [] =
    empty_list c.args.bytes.now c.is_empty.result c.is_empty.ensures c.if-is_empty.true in
    c.new.ensures.bytes ∙ sym (ap (encode_of c.args.engine.now) empty ∙ encode_of-nil c.args.engine.now)

pub returns-in_err-encode-clause-grows : goal.returns-in_err-encode-clause-grows
returns-in_err-encode-clause-grows c =
    on_err c.from_residual.result
    (filled_list c.args.bytes.now c.is_empty.result c.is_empty.ensures c.if-is_empty.false)
