use Rattle.std.proofs.Common.{refl, false}
use Rattle.std.proofs.lemmas.Result.{err_from_is_err_and}
use Rattle.passkey_cbor.specs.Item.{byte_string}
use Rattle.passkey_cbor.specs.CursorState.{ahead}
use Rattle.passkey_cbor.specs.Reading.{string_at}
use Rattle.passkey_cbor.specs.Building.{some_bytes, a_counted_item}
use Rattle.passkey_cbor.specs.declared.value.Value.{Bytes}
use Rattle.passkey_cbor.proofs.building.Views.{item_of-Bytes}
use Rattle.passkey_cbor.proofs.building.Gathering.{makes_put, fails_put}
use Rattle.passkey_cbor.proofs.building.Valuing.{grows_bytes}
use Rattle.passkey_cbor.proofs.cursor.Cursor.build_byte_string.Goals as goal

pub returns-in_err-build_bytes : goal.returns-in_err-build_bytes
returns-in_err-build_bytes c =
    let p = err_from_is_err_and c.from_residual.result c.from_residual.ensures.1 in
    rw (p.1, p.2) (fails_put some_bytes a_counted_item byte_string
    (string_at false c.args.len (ahead c.args.self.now)) _ c.args.self.now c.build_bytes.new.self
    c.in_err-build_bytes.field-0.0 refl grows_bytes (λ s. refl) c.in_err-build_bytes.ensures.made)

pub returns : goal.returns
returns c =
    rw c.put.ensures (makes_put some_bytes a_counted_item byte_string
    (string_at false c.args.len (ahead c.args.self.now)) _ c.args.self.now c.build_bytes.new.self
    c.in_ok-build_bytes.field-0 (Bytes c.in_ok-build_bytes.field-0) refl (item_of-Bytes c.in_ok-build_bytes.field-0)
    (λ s. refl) c.in_ok-build_bytes.ensures.made)
