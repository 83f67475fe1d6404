use Rattle.std.proofs.Common.{◌∙◌, ◌/◌, ap, arith}
use Rattle.passkey_cbor.specs.HeadReading.{with_argument}
use Rattle.passkey_cbor.proofs.heads.ShortHeads.{short_simple, short_other}
use Rattle.passkey_cbor.proofs.head.Head.short.Goals as goal

pub returns-then-initial-eq7 : goal.returns-then-initial-eq7
returns-then-initial-eq7 c = λ rest.
    short_simple c.args.initial rest (omega (arith, c.if-info-ge24.false)) c.if-initial-eq7.true

pub returns : goal.returns
returns c =
    short_other c.args.initial c.with_argument.result (omega (arith, c.ranges.initial.fits))
    (omega (arith, c.if-info-ge24.false)) c.if-initial-eq7.false
    (c.with_argument.ensures ∙ ap (with_argument (c.args.initial / 32)) c.from.ensures)
