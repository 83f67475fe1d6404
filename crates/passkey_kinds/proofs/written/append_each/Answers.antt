use Rattle.passkey_kinds.proofs.Common.{◌∙◌, arith, sym, drop_all, append-nil, writes_items-begin, writes_items-more_at}
use Rattle.passkey_kinds.proofs.Lists.{fits_more}
use Rattle.passkey_kinds.proofs.written.append_each.Goals as goal

pub loop-value-init : goal.loop-value-init
loop-value-init g c = record {
  bytes = writes_items-begin g.T.ToCbor.tree c.args.list.now c.args.encoder.now.bytes.items
      c.array_head.new.self.bytes.items (omega arith) c.in_ok-array_head.ensures.written;
  fits = λ h. h;
}

pub loop-value-preserved : goal.loop-value-preserved
loop-value-preserved g c = record {
  bytes = writes_items-more_at g.T.ToCbor.tree _ _ c.value-item.result _ _ _ _ c.value-item.is c.loop-value-test.true
      c.in_ok-append.ensures.written c.in_ok-append.ensures.writable c.loop-value.invariant.bytes;
  fits = fits_more g.T.ToCbor.fits _ _ c.value-item.result c.value-item.is c.loop-value-test.true
      c.in_ok-append.ensures.fits c.loop-value.invariant.fits;
}

pub returns-clause-written : goal.returns-clause-written
returns-clause-written g c = sym (append-nil _)
    ∙ (rw (drop_all _ c.args.list.now c.loop-value-test.false) at c.loop-value.invariant.bytes.appended)

pub returns-clause-writable : goal.returns-clause-writable
returns-clause-writable g c =
    c.loop-value.invariant.bytes.writable (rw (drop_all _ c.args.list.now c.loop-value-test.false) tt)

pub returns-clause-fits : goal.returns-clause-fits
returns-clause-fits g c =
    c.loop-value.invariant.fits (rw (drop_all _ c.args.list.now c.loop-value-test.false)
    (λ k d less. absurd (omega (arith, less))))
