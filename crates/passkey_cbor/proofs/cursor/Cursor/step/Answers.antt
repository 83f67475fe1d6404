use Rattle.std.proofs.Common.{sym, arith}
use Rattle.passkey_cbor.proofs.skipping.Walks.{step_end, element_known, no_element_known, element_unknown, break_unknown, no_element_unknown}
use Rattle.passkey_cbor.proofs.cursor.Cursor.step.Goals as goal

pub returns-then-n-eq0-clause-reads : goal.returns-then-n-eq0-clause-reads
returns-then-n-eq0-clause-reads c =
    step_end c.args.self.now c.args.left.now c.in-Some.n c.requires c.in-Some.is c.if-n-eq0.true

pub returns-in-None-decode-clause-reads : goal.returns-in-None-decode-clause-reads
returns-in-None-decode-clause-reads c = no_element_known c.args.self.now c.decode.new.self c.args.left.now
    c.in-Some.n c.in-Some.is (omega arith) c.in-None-decode.ensures.reads

pub returns-in-Some-decode-clause-reads : goal.returns-in-Some-decode-clause-reads
returns-in-Some-decode-clause-reads c = element_known c.args.self.now c.decode.new.self c.args.left.now c.in-Some.n
    c.in-Some-decode.head c.in-Some.is (omega arith) c.in-Some-decode.ensures.reads

pub returns-in-None-decode-2-clause-reads : goal.returns-in-None-decode-2-clause-reads
returns-in-None-decode-2-clause-reads c = no_element_unknown c.args.self.now c.decode-in-None.new.self
    c.args.left.now c.in-None.is c.in-None-decode-2.ensures.reads

pub returns-then-is_break-clause-reads : goal.returns-then-is_break-clause-reads
returns-then-is_break-clause-reads c = break_unknown c.args.self.now c.decode-in-None.new.self c.args.left.now
    c.in-Some-decode-2.head c.in-None.is (sym c.if-is_break.ensures) c.in-Some-decode-2.ensures.reads

pub returns-else-is_break-clause-reads : goal.returns-else-is_break-clause-reads
returns-else-is_break-clause-reads c = element_unknown c.args.self.now c.decode-in-None.new.self c.args.left.now
    c.in-Some-decode-2.head c.in-None.is (sym c.if-is_break.ensures) c.in-Some-decode-2.ensures.reads
