use Rattle.passkey_kinds.proofs.Steps.{◌∙◌, ◌≡◌, map, sym, ap, subst, refl, arith, true, Some, length, IsEncodedAt, lent_decodes, looks_none, lent_is, name_from, false, Ok}
use Rattle.passkey_cbor.specs.CursorState.{CursorState, ahead}
use Rattle.passkey_kinds.specs.Words.{Further, Decodes, MayGrow}
use Rattle.passkey_kinds.proofs.Keys.{value_begins}
use Rattle.passkey_kinds.proofs.Cursor.{string_further}
use Rattle.passkey_webauthn.specs.Names.{row_of, value_in}
use Rattle.passkey_kinds.proofs.names.pass_named.Goals as goal

pub returns-then-pass_text-clause-reads : goal.returns-then-pass_text-clause-reads
returns-then-pass_text-clause-reads g c = λ i to l.
    let same = c.loop-row.invariant.same in
    let passed = c.if-pass_text.ensures in
    let name = c.row-item.result in
    let here : IsEncodedAt i c.loop-row.cursor.bytes c.loop-row.cursor.place to =
    subst (λ (w : CursorState). IsEncodedAt i w.bytes w.place to) (sym same) l in
    let f = passed.lends refl i to here in
    let is = lent_is true (record { len = Some (length name.0.now); bytes = name.0.now }) name.0.now f.0 refl f.1.1.tells in
    let value : value_in (map row_of c.table-table.result.now) name.0.now ≡ Some name.1 =
    value_begins (ahead c.loop-row.cursor) c.table-table.result.now c.loop-row.row-index name c.loop-row-test.true
    c.row-item.is c.loop-row.invariant.first (sym passed.is) in
    subst (λ (w : CursorState). Decodes (λ x. x) (name_from (value_in g.T.EnumNames.table) i) (MayGrow false i) 2 0 to w
    c.pass_text.new.self (Ok name.1)) same
    (lent_decodes (name_from (value_in g.T.EnumNames.table)) false i (omega arith) here passed.passes f (looks_none _ _)
    (sym (ap (λ ns. value_in ns f.0) c.table-table.ensures) ∙ sym (ap (value_in (map row_of c.table-table.result.now)) is)
    ∙ value))

pub returns-then-pass_text-clause-further : goal.returns-then-pass_text-clause-further
returns-then-pass_text-clause-further g c =
    subst (λ (w : CursorState). Further w c.pass_text.new.self) c.loop-row.invariant.same
    (string_further true _ _ _ c.if-pass_text.ensures.passes)
