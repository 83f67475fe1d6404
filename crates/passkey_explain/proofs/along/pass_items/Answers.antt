use Rattle.std.proofs.Common.{arith, subst, sym, refl, ◌∙◌, ◌+◌, ◌≡◌, ◌<◌, ℕ, List, length}
use Rattle.passkey_cbor.specs.EncodedAt.{IsEncodedAt}
use Rattle.passkey_explain.specs.Along.{PassedItems}
use Rattle.passkey_explain.proofs.Parts.{items_begin, next_item}
use Rattle.passkey_explain.proofs.along.pass_items.Goals as goal

pub loop-i-init : goal.loop-i-init
loop-i-init c = record { same = refl; each = λ xs to l enough. items_begin xs _ _ to l }

pub loop-i-preserved : goal.loop-i-preserved
loop-i-preserved c = record {
  same = c.if-not-skip.ensures.moves.same ∙ c.loop-i.invariant.same;
  each = λ xs to l enough.
      let less : c.loop-i.i < length xs = omega (arith, enough, c.loop-i-test.true) in
      let n = next_item xs c.loop-i.i _ _ _ to less (c.loop-i.invariant.each xs to l enough) in
      let same = sym c.loop-i.invariant.same in
      let here = subst (λ (bs : List ℕ). IsEncodedAt n.first bs c.loop-i.cursor.place n.next) same n.here in
      let p = c.if-not-skip.ensures.passes n.first n.next here in
      let old = c.args.cursor.now in
      subst (λ (k : ℕ). PassedItems xs (c.loop-i.i + 1) old.bytes old.place k to) (sym p.place) n.after;
}

pub returns-then-not-skip : goal.returns-then-not-skip
returns-then-not-skip c = λ xs to l enough.
    let less : c.loop-i.i < length xs = omega (arith, enough, c.loop-i-test.true) in
    let n = next_item xs c.loop-i.i _ _ _ to less (c.loop-i.invariant.each xs to l enough) in
    let same = sym c.loop-i.invariant.same in
    let here = subst (λ (bs : List ℕ). IsEncodedAt n.first bs c.loop-i.cursor.place n.next) same n.here in
    let no = (c.if-not-skip.ensures.passes n.first n.next here).is_found in
    absurd cc

pub returns : goal.returns
returns c = λ xs to l enough.
    let all : c.loop-i.i ≡ c.args.count = omega (arith, c.loop-i-test.false, c.loop-i.auto) in (
      subst (λ (k : ℕ). PassedItems xs k c.args.cursor.now.bytes c.args.cursor.now.place c.loop-i.cursor.place to) all
          (c.loop-i.invariant.each xs to l enough),
      c.loop-i.invariant.same,
    )
