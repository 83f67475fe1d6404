use Rattle.passkey_kinds.proofs.Steps.{arith, ◌∙◌, sym, drop_all, map, map_push, item_of, fits_more, written_more}
use Rattle.passkey_kinds.proofs.Common.{append-nil}
use Rattle.passkey_kinds.proofs.written.write_each.Goals as goal

pub loop-value-preserved : goal.loop-value-preserved
loop-value-preserved g c =
    record {
      items = rw (c.in_ok-push.ensures.items, map_push item_of c.loop-value.values.items c.in_ok-to_value.field-0)
          (written_more g.T.ToCbor.tree _ _ c.value-item.result (item_of c.in_ok-to_value.field-0)
          (map item_of c.loop-value.values.items) c.value-item.is c.loop-value-test.true
          c.in_ok-to_value.ensures.tree c.loop-value.invariant.items);
      fits = fits_more g.T.ToCbor.fits _ _ c.value-item.result c.value-item.is c.loop-value-test.true
          c.in_ok-to_value.ensures.fits c.loop-value.invariant.fits;
    }

pub returns-clause-trees : goal.returns-clause-trees
returns-clause-trees g c =
    sym (append-nil _) ∙ (rw (drop_all _ c.args.list.now c.loop-value-test.false) at c.loop-value.invariant.items)

pub returns-clause-fits : goal.returns-clause-fits
returns-clause-fits g c =
    c.loop-value.invariant.fits (rw (drop_all _ c.args.list.now c.loop-value-test.false)
    (λ k d less. absurd (omega (arith, less))))
