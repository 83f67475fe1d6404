use Rattle.std.proofs.Common.{arith}
use Rattle.passkey_cbor.specs.Encoder.{encoding}
use Rattle.passkey_cose.specs.KeyParams.{param_of}
use Rattle.passkey_cose.proofs.KeyAppended.{appended_turn, appended_all}
use Rattle.passkey_cose.proofs.writing.append_params.Goals as goal

pub loop-label-preserved : goal.loop-label-preserved
loop-label-preserved c =
    appended_turn param_of c.args.params.now c.loop-label.label-index c.loop-label-item.result
    (encoding c.args.encoder.now) (encoding c.loop-label.encoder) (encoding c.append_label.new.encoder)
    (encoding c.item.new.self) (omega (arith, c.loop-label-test.true)) c.loop-label-item.is
    c.loop-label.invariant c.in_ok-append_label.ensures.written c.in_ok-item.ensures.written
    c.in_ok-append_label.ensures.writable c.in_ok-item.ensures.writable

pub returns : goal.returns
returns c =
    appended_all param_of c.args.params.now c.loop-label.label-index (encoding c.args.encoder.now)
    (encoding c.loop-label.encoder) (omega (arith, c.loop-label-test.false)) c.loop-label.invariant
