use Rattle.passkey_kinds.proofs.Steps.{length-map, drop_all, rules, ◌≡◌, map, Err, refl, pair_of, table_of, key_names, mapped_at, goes_on, fails, all_read}
use Rattle.passkey_kinds.proofs.record.read_pairs.Goals as goal

pub loop-key-preserved : goal.loop-key-preserved
loop-key-preserved g c =
    let t = g.R.Record.fields in
    let m = pair_of c.loop-key-item.result in
    let at = mapped_at pair_of c.args.pairs.now _ c.loop-key-item.result c.loop-key-item.is c.loop-key-test.true in
    let naming = key_names (table_of t) m.0 c.is_numbered.ensures c.rows.ensures.rows c.in-Some.ensures in
    let told = c.in_ok-read_member.ensures.reads m.0 m.1 0 naming refl in
    search (rules, goes_on, t, at, naming, c.loop-key.invariant, told)

pub returns-in_err-read_member : goal.returns-in_err-read_member
returns-in_err-read_member g c =
    let t = g.R.Record.fields in
    let m = pair_of c.loop-key-item.result in
    let at = mapped_at pair_of c.args.pairs.now _ c.loop-key-item.result c.loop-key-item.is c.loop-key-test.true in
    let naming = key_names (table_of t) m.0 c.is_numbered.ensures c.rows.ensures.rows c.in-Some.ensures in
    let told = c.in_err-read_member.ensures.reads m.0 m.1 0 naming refl in
    let result : c.from_residual.result ≡ Err c.in_err-read_member.field-0.0 = search rules in
    search (rules, fails, t, at, naming, c.loop-key.invariant, told, result)

pub returns : goal.returns
returns g c =
    let past = drop_all c.loop-key.key-index (map pair_of c.args.pairs.now)
    (rw (length-map c.args.pairs.now pair_of) c.loop-key-test.false) in
    search (rules, all_read, g.R.Record.fields, past, c.loop-key.invariant, c.finish.ensures)
