use Rattle.passkey_kinds.proofs.Steps.{◌≡◌, true, further_twice, arith, max_depth, split, named_as, table_of, record_cost, ends_ok, stands_long, stands_back, key_names, at_least, cost_by_le, key_spent, member_spent}
use Rattle.passkey_cbor.specs.Inside.{Within}
use Rattle.passkey_kinds.proofs.Counting.{kept_least, least_later, rises}
use Rattle.passkey_kinds.specs.RecordReading.{keeps_by}
use Rattle.std.proofs.Common.{is_ok}
use Rattle.passkey_kinds.proofs.record.read_next.Goals as goal

pub returns-in-None-clause-reads : goal.returns-in-None-clause-reads
returns-in-None-clause-reads g c = λ m to l.
    let t = g.R.Record.fields in
    let b = c.args.cursor.now in
    let s = split (Within max_depth m.0) (Within max_depth m.1) b.bytes b.place to l in
    let key = c.in-None.ensures.names m.0 s.middle s.front in
    let naming = key_names (table_of t) m.0 c.is_numbered.ensures c.rows.ensures.rows key.is in
    let spent = key_spent (record_cost t) (stands_long m.0 s.front) s.back.forward (at_least t.rows) key.spends in
    grind (arith, naming, spent)

pub returns-in-Some-clause-reads : goal.returns-in-Some-clause-reads
returns-in-Some-clause-reads g c = λ m to l.
    let t = g.R.Record.fields in
    let b = c.args.cursor.now in
    let s = split (Within max_depth m.0) (Within max_depth m.1) b.bytes b.place to l in
    let key = c.in-Some.ensures.names m.0 s.middle s.front in
    let there = stands_back m.1 c.read_key.new.cursor c.in-Some.ensures.onward.same key.ends s.back in
    let naming = key_names (table_of t) m.0 c.is_numbered.ensures c.rows.ensures.rows key.is in
    let value = c.read_member.ensures.spends m.1 to there in
    let told = c.read_member.ensures.reads m.0 m.1 to naming there in
    let spent = member_spent (record_cost t) (stands_long m.0 s.front) s.back.forward (at_least t.rows) key.spends
    key.ends (cost_by_le t.rows (named_as c.in-Some.key)) value.spends in
    let keeps = keeps_by t.rows (named_as c.in-Some.key) in
    let counts = ends_ok c.read_member.result (λ (ok : is_ok c.read_member.result ≡ true).
    least_later _ (rises c.in-Some.ensures.onward) (kept_least keeps m.1 _ _ c.read_member.ensures.onward (value.counts ok))) in
    grind (arith, ends_ok, naming, told, value, spent, counts)

pub returns-in-Some-clause-further : goal.returns-in-Some-clause-further
returns-in-Some-clause-further g c =
    further_twice _ c.read_member.result c.in-Some.ensures.further c.read_member.ensures.further
