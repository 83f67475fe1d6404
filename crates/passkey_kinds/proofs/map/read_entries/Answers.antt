use Rattle.passkey_kinds.proofs.Steps.{rules, ◌∙◌, map, sym, ap, pair_of, map_values, with_members, map_values-empty, read_more}
use Rattle.passkey_kinds.proofs.map.read_entries.Goals as goal

pub loop-key-init : goal.loop-key-init
loop-key-init g c =
    ap (λ m. with_members g.T.FromCbor.typed.of m (map pair_of c.args.pairs.now))
    (sym (map_values-empty g.T.FromCbor.view) ∙ sym (ap (map_values g.T.FromCbor.view) c.empty-read.ensures))

pub loop-key-preserved : goal.loop-key-preserved
loop-key-preserved g c =
    let key = c.in_ok-from_value.ensures in
    let value = c.in_ok-from_value-2.ensures in
    let more = c.in_ok-insert.ensures.ok in
    search (rules, read_more, key, value, more, c.loop-key.invariant, c.loop-key-item.is, c.loop-key-test.true)
