use Rattle.std.proofs.Common.{sym, rules}
use Rattle.passkey_cbor.proofs.heads.Numbers.{IsBytes-drop}
use Rattle.passkey_cbor.proofs.skipping.Walks.{head_passed}
use Rattle.passkey_cbor.proofs.strings.Lending.{string_read, string_cut, no_head_read, other_head_read}
use Rattle.passkey_cbor.proofs.cursor.Cursor.string_ahead.Goals as goal

pub returns-in-Some-region-clause-reads : goal.returns-in-Some-region-clause-reads
returns-in-Some-region-clause-reads c =
    let read = c.in-Some.ensures in
    string_read c.args.is_text c.in-Some-string_len.len c.args.self.now c.decode.new.self c.region.new.self
    c.in-Some.head _ read.placed.within (IsBytes-drop c.args.self.now.place c.args.self.now.bytes read.placed.fits)
    (head_passed c.args.self.now c.decode.new.self read.placed read.counted c.in-Some.head read.reads)
    read.reads.further (sym c.in-Some-string_len.ensures) c.in-Some-region.ensures.reads

pub returns-in-None-region-clause-reads : goal.returns-in-None-region-clause-reads
returns-in-None-region-clause-reads c =
    string_cut c.args.is_text c.in-Some-string_len.len c.args.self.now c.decode.new.self c.region.new.self
    c.in-Some.head c.in-Some.ensures.reads (sym c.in-Some-string_len.ensures) c.in-None-region.ensures.reads
    c.in-None-region.ensures.decoded

pub returns-in-None-clause-reads : goal.returns-in-None-clause-reads
returns-in-None-clause-reads c = no_head_read c.args.is_text c.args.self.now c.decode.new.self
    c.in-None.ensures.reads c.in-None.ensures.counted

pub returns-in-None-string_len-clause-reads : goal.returns-in-None-string_len-clause-reads
returns-in-None-string_len-clause-reads c =
    let read = c.in-Some.ensures in
    other_head_read c.args.is_text c.args.self.now c.decode.new.self c.in-Some.head read.reads
    (sym c.in-None-string_len.ensures) (search rules)
