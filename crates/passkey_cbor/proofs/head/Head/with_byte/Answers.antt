use Rattle.std.proofs.Common.{◌∙◌, ◌/◌, ap}
use Rattle.passkey_cbor.specs.HeadReading.{with_argument}
use Rattle.passkey_cbor.proofs.heads.ShortHeads.{with_byte_is}
use Rattle.passkey_cbor.proofs.head.Head.with_byte.Goals as goal

pub returns : goal.returns
returns c =
    with_byte_is c.args.initial c.args.argument c.with_argument.result c.ranges.argument.fits c.if-initial-ne24.false
    (c.with_argument.ensures ∙ ap (with_argument (c.args.initial / 32)) c.from.ensures)
