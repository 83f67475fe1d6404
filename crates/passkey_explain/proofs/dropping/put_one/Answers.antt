use Rattle.std.proofs.Common.{subst, sym, ℕ, List}
use Rattle.std.proofs.lemmas.List.Elements.{All-push, All-same}
use Rattle.passkey_cbor.specs.EncodedAt.{IsEncodedAt}
use Rattle.passkey_explain.proofs.LeavesOut.{lies_here}
use Rattle.passkey_explain.specs.Drops.{LiesIn}
use Rattle.passkey_explain.specs.declared.dropping.DroppedItem.{DroppedItem}
use Rattle.passkey_kinds.specs.Words.{item_of}
use Rattle.passkey_explain.proofs.dropping.put_one.Goals as goal

pub returns-clause-extents : goal.returns-clause-extents
returns-clause-extents g c = λ whole bytes same stands all.
    let i = item_of c.args.value.now in
    let there = subst (λ (bs : List ℕ). IsEncodedAt i bs c.args.cursor.now.place stands.to) (sym same) stands.there in
    let e = c.pass-extent.ensures.passes i stands.to there in
    let d : DroppedItem = record { path = c.in_ok-path.path; extent = c.pass-extent.result; blame = c.in_ok-blame.blame } in
    All-same (LiesIn whole bytes) _ _ c.in_ok-push.ensures.items (All-push (LiesIn whole bytes) c.args.dropped.now.items d all
    (lies_here d stands c.in_ok-path.ensures.items e.0 e.1))
