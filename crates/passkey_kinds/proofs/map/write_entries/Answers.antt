use Rattle.passkey_kinds.proofs.Steps.{arith, ◌∙◌, sym, drop_all, length-map, map, ap, map_push, byte_string, pair_of, Value, entry_tree, fits_next, written_next, deref_pair, mapped_at, Bytes, item_of-Bytes}
use Rattle.passkey_kinds.proofs.Common.{append-nil}
use Rattle.passkey_kinds.proofs.map.write_entries.Goals as goal

pub loop-key-preserved : goal.loop-key-preserved
loop-key-preserved g c =
    let xs = map deref_pair c.args.entries.now in
    let member : Value × Value = (Bytes c.in_ok-key.key, c.in_ok-value.value) in
    let next = mapped_at deref_pair _ _ c.loop-key-item.result c.loop-key-item.is c.loop-key-test.true in
    let key = item_of-Bytes c.in_ok-key.key
    ∙ ap byte_string (c.in_ok-key.ensures.items ∙ c.as_slice.ensures) in
    record {
      items = rw (c.in_ok-push.ensures.items, map_push pair_of c.loop-key.pairs.items member) (written_next
          (entry_tree g.T.ToCbor.tree) xs _ _ _ (pair_of member) (map pair_of c.loop-key.pairs.items) next
          (λ i. (key i, c.in_ok-value.ensures.tree i)) c.loop-key.invariant.items);
      fits = fits_next (λ e. g.T.ToCbor.fits e.1) xs _ _ _ next c.in_ok-value.ensures.fits c.loop-key.invariant.fits;
    }

pub returns-clause-trees : goal.returns-clause-trees
returns-clause-trees g c =
    let past = drop_all c.loop-key.key-index (map deref_pair c.args.entries.now)
    (rw (length-map c.args.entries.now deref_pair) c.loop-key-test.false) in
    sym (append-nil _) ∙ (rw past at c.loop-key.invariant.items)

pub returns-clause-fits : goal.returns-clause-fits
returns-clause-fits g c =
    let past = drop_all c.loop-key.key-index (map deref_pair c.args.entries.now)
    (rw (length-map c.args.entries.now deref_pair) c.loop-key-test.false) in
    c.loop-key.invariant.fits (rw past (λ k d less. absurd (omega (arith, less))))
