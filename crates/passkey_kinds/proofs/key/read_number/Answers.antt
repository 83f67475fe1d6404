use Rattle.passkey_kinds.proofs.Steps.{◌∙◌, map, ap, true, refl, Some, entry_of, names, scalar_read, scalar_moves, names_found}
use Rattle.passkey_kinds.proofs.Keys.{small_less, small_named, number_is_no_null}
use Rattle.passkey_cbor.specs.CursorState.{ahead}
use Rattle.passkey_cbor.specs.declared.head.Head.TheVariants as head
use Rattle.passkey_kinds.proofs.key.read_number.Goals as goal

pub returns-in-Some-clause-finds : goal.returns-in-Some-clause-finds
returns-in-Some-clause-finds c = λ key to l.
    let es = map entry_of c.args.rows.now in
    let r = scalar_read _ _ (Some (head.Unsigned c.in-Some.number)) key to _ refl c.in-Some.ensures.passes
    (c.in-Some.ensures.opens key to l) l in
    record {
      is = names_found true es key c.with_number.result (c.with_number.ensures ∙ small_named c.in-Some.number es
          (small_less c.in-Some.number (ahead c.args.cursor.now) c.in-Some.ensures.is) ∙ ap (names true es) r.is);
      spends = r.spends;
      ends = r.ends (number_is_no_null c.in-Some.number);
    }

pub returns-in-Some-clause-further : goal.returns-in-Some-clause-further
returns-in-Some-clause-further c = scalar_moves _ _ (Some (head.Unsigned c.in-Some.number)) _ c.in-Some.ensures.passes refl
    (number_is_no_null c.in-Some.number)

pub returns-in-None-clause-other : goal.returns-in-None-clause-other
returns-in-None-clause-other c = rw (← c.in-None.ensures.passes) c.read_other_number.ensures.other
