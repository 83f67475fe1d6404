use Rattle.passkey_kinds.proofs.Steps.{◌∙◌, ◌≡◌, List, ℕ, map, sym, ap, subst, refl, true, IsEncodedAt, entry_of, names, lent_spends, looks_none}
use Rattle.passkey_cbor.specs.CursorState.{CursorState, ahead}
use Rattle.passkey_cbor.specs.Lent.{begins_text}
use Rattle.passkey_kinds.specs.RecordReading.{FoundRow}
use Rattle.passkey_kinds.specs.Words.{Further}
use Rattle.passkey_kinds.specs.declared.rows.Named.TheVariants as named
use Rattle.passkey_kinds.proofs.Cursor.{string_further}
use Rattle.passkey_kinds.proofs.Keys.{row_begins}
use Rattle.passkey_kinds.proofs.Lent.{text_there}
use Rattle.passkey_kinds.specs.Record.{row, row_named}
use Rattle.passkey_kinds.proofs.key.pass_name.Goals as goal

pub returns-then-pass_text-clause-finds : goal.returns-then-pass_text-clause-finds
returns-then-pass_text-clause-finds c = λ b key to l.
    let same = c.loop-row.invariant.same in
    let passed = c.if-pass_text.ensures in
    let es = map entry_of c.args.rows.now in
    let s = c.name.result.now in
    let here : IsEncodedAt key c.loop-row.cursor.bytes c.loop-row.cursor.place to =
    subst (λ (w : CursorState). IsEncodedAt key w.bytes w.place to) (sym same) l in
    let f = passed.lends refl key to here in
    let spent = lent_spends key here passed.passes f (looks_none _ _) in
    let begins = ap (λ (t : List ℕ). begins_text t (ahead c.loop-row.cursor)) (sym c.name.ensures) ∙ sym passed.is in
    let is = row_begins (ahead c.loop-row.cursor) c.args.rows.now c.loop-row.row-index _ c.loop-row-test.true
    c.loop-row.invariant.first begins in
    let row_is : row c.number.result ≡ row_named es s =
    ap row c.number.ensures ∙ is ∙ ap (row_named es) (sym c.name.ensures) in
    subst (λ (w : CursorState). FoundRow (names b es key) 2 to w c.pass_text.new.self (named.Row c.number.result)) same (record {
      is = row_is ∙ ap (names b es) (sym (text_there s key f));
      spends = spent.0;
      ends = spent.1;
    })

pub returns-then-pass_text-clause-further : goal.returns-then-pass_text-clause-further
returns-then-pass_text-clause-further c =
    subst (λ (w : CursorState). Further w c.pass_text.new.self) c.loop-row.invariant.same
    (string_further true _ _ _ c.if-pass_text.ensures.passes)
