use Rattle.passkey_kinds.proofs.Steps.{◌∙◌, sym, map, item_of, pair_of}
use Rattle.passkey_explain.proofs.Blames.{map_next, no_map}
use Rattle.passkey_explain.proofs.descent.next_in_map.Goals as goal

pub returns-in_ok-further-in-Some : goal.returns-in_ok-further-in-Some
returns-in_ok-further-in-Some g c = λ t reaches h.
    let further = c.deref.ensures.value ∙ c.in_ok-further-in-Some.ensures in
    map_next t (item_of c.args.value.now) (map pair_of c.in-Some.pairs.now) _ _ _ _ reaches further
    (sym c.in-Some.ensures) h c.next_entry.ensures

pub returns-in-None : goal.returns-in-None
returns-in-None g c = λ t reaches h. no_map t (item_of c.args.value.now) h (sym c.in-None.ensures)
