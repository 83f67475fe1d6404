use Rattle.passkey_kinds.proofs.Steps.{subst, item_of}
use Rattle.passkey_explain.proofs.Blames.{look_there, leaf_blamed}
use Rattle.passkey_kinds.specs.Look.{tested, HasForm}
use Rattle.passkey_kinds.specs.declared.look.Form.{Form}
use Rattle.passkey_explain.proofs.descent.next_part.Goals as goal

pub returns-in-Leaf : goal.returns-in-Leaf
returns-in-Leaf g c = λ t at.
    let i = item_of c.args.value.now in
    let l = look_there c.args.way.now (tested g.M.FromCbor.typed) t i c.look.result c.in_ok-wanted.field-0 at
    c.look.ensures c.in_ok-wanted.was in
    leaf_blamed t.shape c.in-Leaf.wanted (subst (λ (f : Form). HasForm t.shape f) c.in-Leaf.is l.form) i
