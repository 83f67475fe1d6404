use Rattle.std.proofs.Common.{Some, length, true}
use Rattle.passkey_cbor.proofs.strings.Lending.{lends}
use Rattle.passkey_cbor.proofs.cursor.Cursor.text.Goals as goal

pub returns-in-Some-clause-lends : goal.returns-in-Some-clause-lends
returns-in-Some-clause-lends c = lends true c.args.self.now c.short_string.new.self
    (Some (record { len = Some (length c.in-Some.region.now); bytes = c.in-Some.region.now })) c.in-Some.ensures.passes

pub returns-in-None-clause-lends : goal.returns-in-None-clause-lends
returns-in-None-clause-lends c = rw (← c.in-None.ensures.passes) c.other_text.ensures.lends
