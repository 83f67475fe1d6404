use Rattle.passkey_kinds.proofs.Steps.{◌∙◌, sym, pair_of, mapped_at}
use Rattle.passkey_kinds.specs.Look.{tested}
use Rattle.passkey_explain.proofs.Blames.{look_accepts, entry_accepted, key_refused, value_refused}
use Rattle.passkey_explain.proofs.descent.next_entry.Goals as goal

pub returns-then-not-branch : goal.returns-then-not-branch
returns-then-not-branch g c = λ t reaches of.
    let at = mapped_at pair_of c.args.pairs.now _ c.index-pairs-index.result c.index-pairs-index.is c.loop-index-test.true in
    let no = sym c.in_ok-is_bytes.ensures ∙ c.if-not-branch.true in
    sym (c.loop-index.invariant t reaches of ∙ key_refused t.accepts of c.loop-index.index _ _ _ at no)

pub returns-then-not-branch-2 : goal.returns-then-not-branch-2
returns-then-not-branch-2 g c = λ t reaches of.
    let at = mapped_at pair_of c.args.pairs.now _ c.index-pairs-index.result c.index-pairs-index.is c.loop-index-test.true in
    let key = sym c.in_ok-is_bytes.ensures ∙ c.if-not-branch.false in
    let look = look_accepts c.args.way.now (tested g.M.FromCbor.typed) t _ c.look.result c.in_ok-look.field-0 reaches
    c.look.ensures c.in_ok-look.was in
    let no = sym look ∙ c.if-not-branch-2.true in
    sym (c.loop-index.invariant t reaches of ∙ value_refused t.accepts of c.loop-index.index _ _ _ at key no)

pub loop-index-preserved : goal.loop-index-preserved
loop-index-preserved g c = λ t reaches of.
    let at = mapped_at pair_of c.args.pairs.now _ c.index-pairs-index.result c.index-pairs-index.is c.loop-index-test.true in
    let key = sym c.in_ok-is_bytes.ensures ∙ c.if-not-branch.false in
    let look = look_accepts c.args.way.now (tested g.M.FromCbor.typed) t _ c.look.result c.in_ok-look.field-0 reaches
    c.look.ensures c.in_ok-look.was in
    let yes = sym look ∙ c.if-not-branch-2.false in
    c.loop-index.invariant t reaches of ∙ entry_accepted t.accepts of c.loop-index.index _ _ _ at key yes
