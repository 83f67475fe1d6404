use Rattle.std.proofs.Common.{refl, true}
use Rattle.std.proofs.lemmas.Result.{err_from_is_err_and}
use Rattle.passkey_cbor.specs.Item.{text_string}
use Rattle.passkey_cbor.specs.CursorState.{ahead}
use Rattle.passkey_cbor.specs.Reading.{string_at}
use Rattle.passkey_cbor.specs.Building.{a_text, a_counted_item}
use Rattle.passkey_cbor.specs.declared.value.Value.{Text}
use Rattle.passkey_cbor.proofs.building.Views.{item_of-Text}
use Rattle.passkey_cbor.proofs.building.Gathering.{makes_put, fails_put}
use Rattle.passkey_cbor.proofs.cursor.Cursor.build_text_string.Goals as goal

pub returns-in_err-build_text : goal.returns-in_err-build_text
returns-in_err-build_text c =
    let p = err_from_is_err_and c.from_residual.result c.from_residual.ensures.1 in
    rw (p.1, p.2) (fails_put a_text a_counted_item text_string (string_at true c.args.len (ahead c.args.self.now))
    _ c.args.self.now c.build_text.new.self c.in_err-build_text.field-0.0 refl (λ s h. tt) (λ s. refl)
    c.in_err-build_text.ensures)

pub returns : goal.returns
returns c =
    rw c.put.ensures (makes_put a_text a_counted_item text_string
    (string_at true c.args.len (ahead c.args.self.now)) _ c.args.self.now c.build_text.new.self
    c.in_ok-build_text.field-0 (Text c.in_ok-build_text.field-0) refl (item_of-Text c.in_ok-build_text.field-0)
    (λ s. refl) c.in_ok-build_text.ensures)
