use Rattle.passkey_kinds.proofs.Steps.{◌∙◌, sym, map, item_of}
use Rattle.passkey_explain.proofs.Blames.{list_next, no_list}
use Rattle.passkey_explain.proofs.descent.next_in_list.Goals as goal

pub returns-in_ok-further-in-Some : goal.returns-in_ok-further-in-Some
returns-in_ok-further-in-Some g c = λ t reaches h.
    let further = c.deref.ensures.value ∙ c.in_ok-further-in-Some.ensures in
    list_next t (item_of c.args.value.now) (map item_of c.in-Some.elements.now) _ _ _ _ reaches further
    (sym c.in-Some.ensures) h c.next_element.ensures

pub returns-in-None : goal.returns-in-None
returns-in-None g c = λ t reaches h. no_list t (item_of c.args.value.now) h (sym c.in-None.ensures)
