use Rattle.std.proofs.Common.{Bor, ◌∙◌, sym, ap, option_map, Option}
use Rattle.passkey_cbor.specs.View.{item_of, pair_of}
use Rattle.passkey_cbor.specs.declared.value.Value.{Value}
use Rattle.passkey_cbor_text.proofs.Indexed.{mapped_at}
use Rattle.passkey_cbor_text.proofs.Pairs.{copied, pair_goes, pair_stops, pushed}
use Rattle.passkey_cbor_text.proofs.values.escape.pairs_in.Goals as goal

pub returns-in-None : goal.returns-in-None
returns-in-None c =
    let at = mapped_at item_of c.args.pairs.now c.loop-pair.pair-index c.pair-item.result c.pair-item.is c.loop-pair-test.true in
    sym (sym c.loop-pair.invariant ∙ pair_stops _ _ _ _ at (rw c.in-None.is at c.pair_in.ensures))

pub loop-pair-preserved : goal.loop-pair-preserved
loop-pair-preserved c =
    let at = mapped_at item_of c.args.pairs.now c.loop-pair.pair-index c.pair-item.result c.pair-item.is c.loop-pair-test.true in
    pair_goes _ _ _ _ _ _ _ at (rw c.in-Some.is at c.pair_in.ensures)
    (copied c.in-Some.key.now c.in-Some.value.now _ _ c.in_ok-key-in-Some.ensures.same c.in_ok-try_clone-in-Some.ensures.same)
    (pushed pair_of _ _ _ c.in_ok-push-in-Some.ensures.items)
    ∙ c.loop-pair.invariant
