use Rattle.passkey_kinds.proofs.Steps.{◌∙◌, map, sym, ap, true, refl, entry_of, names, scalar_read, scalar_moves, names_found, not_wrong}
use Rattle.passkey_kinds.proofs.key.read_other_number.Goals as goal

pub returns-in-Some-clause-finds : goal.returns-in-Some-clause-finds
returns-in-Some-clause-finds c = λ key to l.
    let es = map entry_of c.args.rows.now in
    let r = scalar_read _ _ _ key to _ refl c.head.ensures.found (c.head.ensures.opens key to l) l in
    let named = c.in-Some.ensures in
    record {
      is = names_found true es key c.in-Some.key (named ∙ ap (names true es) r.is);
      spends = r.spends;
      ends = r.ends (λ null. not_wrong c.in-Some.key (named ∙ ap (names true es) null));
    }

pub returns-in-Some-clause-further : goal.returns-in-Some-clause-further
returns-in-Some-clause-further c =
    let es = map entry_of c.args.rows.now in
    scalar_moves _ _ _ _ c.head.ensures.found refl
    (λ null. not_wrong c.in-Some.key (c.in-Some.ensures ∙ ap (names true es) null))

pub returns-in-None-clause-other : goal.returns-in-None-clause-other
returns-in-None-clause-other c = λ key to l.
    let r = scalar_read _ _ _ key to _ refl c.head.ensures.found (c.head.ensures.opens key to l) l in
    sym (c.in-None.ensures ∙ ap (names true (map entry_of c.args.rows.now)) r.is)
