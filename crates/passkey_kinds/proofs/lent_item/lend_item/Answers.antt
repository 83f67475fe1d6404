use Rattle.passkey_kinds.proofs.Steps.{table_of, refl}
use Rattle.passkey_kinds.proofs.Finding.{encoded_there}
use Rattle.passkey_kinds.proofs.LentItem.{lends_none, value_at, passes_value}
use Rattle.passkey_kinds.proofs.lent_item.lend_item.Goals as goal

pub returns-then-not-enter_value : goal.returns-then-not-enter_value
returns-then-not-enter_value g c =
    let p = c.if-not-skip.ensures.front in
    let bytes = c.args.bytes.now in
    lends_none (table_of g.R.Record.fields) c.args.number bytes c.new-cursor.ensures p c.go_back.ensures
    (c.if-not-enter_value.ensures.enters p.item p.len (encoded_there bytes c.new-cursor.ensures p c.go_back.ensures))

pub returns-then-not-skip-2 : goal.returns-then-not-skip-2
returns-then-not-skip-2 g c =
    let p = c.if-not-skip.ensures.front in
    let e = c.if-not-enter_value.ensures.enters p.item p.len
    (encoded_there c.args.bytes.now c.new-cursor.ensures p c.go_back.ensures) in
    let passes = passes_value (table_of g.R.Record.fields) c.args.number e c.if-not-skip-2.ensures.passes in
    let no = passes.is_found in
    absurd cc

pub returns : goal.returns
returns g c =
    let p = c.if-not-skip.ensures.front in
    let bytes = c.args.bytes.now in
    let e = c.if-not-enter_value.ensures.enters p.item p.len (encoded_there bytes c.new-cursor.ensures p c.go_back.ensures) in
    let passes = passes_value (table_of g.R.Record.fields) c.args.number e c.if-not-skip-2.ensures.passes in (
      c.enter_value.new.cursor.place,
      e.to,
      (
        value_at (table_of g.R.Record.fields) c.args.number bytes c.new-cursor.ensures p c.go_back.ensures e,
        rw (c.place-from.ensures, c.place.ensures, passes.place) refl,
      ),
    )
