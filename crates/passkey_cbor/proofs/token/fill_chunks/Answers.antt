use Rattle.std.proofs.Common.{◌∙◌, ℕ, ◌+◌, ◌-◌, ◌^◌, min, false, None, refl, ap}
use Rattle.passkey_cbor.specs.CursorState.{CursorState, ahead}
use Rattle.passkey_cbor.proofs.strings.Joining.{looks_at_all}
use Rattle.passkey_cbor.proofs.token.fill_chunks.Goals as goal

pub returns-clause-looks : goal.returns-clause-looks
returns-clause-looks c =
    looks_at_all false None c.args.region.now c.new-chunks.result c.put_chunks.new.chunks c.args.cursor.now
    c.add_heads.new.self refl (ap ahead c.new-chunks.ensures) (ap (λ (w : CursorState). w.heads) c.new-chunks.ensures)
    c.put_chunks.ensures.counted (c.add_heads.ensures.raised ∙ ap (λ (h : ℕ). record c.args.cursor.now
    { heads = min (c.args.cursor.now.heads + h) (2 ^ 128 - 1) }) c.count.ensures.heads)
