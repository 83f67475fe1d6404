use Rattle.std.proofs.Common.{◌≡◌, ℕ, Option, ap}
use Rattle.std.specs.Prelude.{unwrap_or}
use Rattle.passkey_cbor.specs.CursorState.{ahead}
use Rattle.passkey_cbor.proofs.skipping.After.{string_piece}
use Rattle.passkey_cbor.proofs.cursor.Cursor.build_bytes.Goals as goal

pub returns-in-Some-clause-made : goal.returns-in-Some-clause-made
returns-in-Some-clause-made c =
    let content : unwrap_or c.args.len 0 ≡ c.in-Some.len = ap (λ (l : Option ℕ). unwrap_or l 0) c.in-Some.is in
    rw (string_piece c.args.is_text c.args.len c.in-Some.len (ahead c.args.self.now) c.in-Some.is, content)
    c.build_piece.ensures.made
