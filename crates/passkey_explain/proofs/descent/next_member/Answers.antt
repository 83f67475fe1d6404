use Rattle.passkey_kinds.proofs.Steps.{rules, ◌∙◌, ◌<◌, length, sym, arith, item_of}
use Rattle.passkey_explain.proofs.Blames.{row_there, row_accepts, one_passes, one_refused, marked_with}
use Rattle.passkey_explain.proofs.descent.next_member.Goals as goal

pub returns-then-branch-clause-blames : goal.returns-then-branch-clause-blames
returns-then-branch-clause-blames g c = λ rows h of.
    let i = item_of c.args.value.now in
    let n = c.in-Some-Row.number in
    let label = item_of c.args.key.now in
    let naming = sym (rw c.in-Some-Row.field-0-is at c.in-Some-Row.ensures) in
    let new = sym c.is_marked.ensures ∙ c.if-is_marked.false in
    let is = c.deref.ensures.value ∙ c.in_ok-inner.ensures in
    let look = row_accepts h n label naming i _ c.look.result c.in_ok-look.field-0 is c.look.ensures c.in_ok-look.was in
    one_passes _ _ of c.args.index n _ i _ naming new (sym look ∙ c.if-branch.true)

pub returns-then-branch-clause-marks : goal.returns-then-branch-clause-marks
returns-then-branch-clause-marks g c = λ rows h ok.
    let n = c.in-Some-Row.number in
    let label = item_of c.args.key.now in
    let naming = sym (rw c.in-Some-Row.field-0-is at c.in-Some-Row.ensures) in
    let small : n < 256 = search rules in
    let within : n < length c.args.seen.now = omega (arith, c.mark.array_long, c.told-seen, small) in
    marked_with c.args.seen.now c.mark.new.seen n _ naming within c.mark.ensures

pub returns-clause-blames : goal.returns-clause-blames
returns-clause-blames g c = λ rows h of.
    let i = item_of c.args.value.now in
    let n = c.in-Some-Row.number in
    let label = item_of c.args.key.now in
    let naming = sym (rw c.in-Some-Row.field-0-is at c.in-Some-Row.ensures) in
    let new = sym c.is_marked.ensures ∙ c.if-is_marked.false in
    let is = c.deref.ensures.value ∙ c.in_ok-inner.ensures in
    let look = row_accepts h n label naming i _ c.look.result c.in_ok-look.field-0 is c.look.ensures c.in_ok-look.was in
    one_refused _ _ of c.args.index n _ i _ naming new _ c.name_of.ensures (sym look ∙ c.if-branch.false)

pub returns-clause-into : goal.returns-clause-into
returns-clause-into g c = λ rows h.
    let n = c.in-Some-Row.number in
    let label = item_of c.args.key.now in
    let naming = sym (rw c.in-Some-Row.field-0-is at c.in-Some-Row.ensures) in
    row_there h n label naming
