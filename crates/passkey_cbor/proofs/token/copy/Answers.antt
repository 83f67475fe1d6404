use Rattle.std.proofs.Common.{◌∙◌, ℕ, ◌+◌, ◌-◌, ◌^◌, min, ap, sym, arith, length, subst}
use Rattle.passkey_cbor.specs.Inside.{IsAllowed}
use Rattle.std.proofs.lemmas.Result.{err_from_is_err_and}
use Rattle.passkey_cbor.specs.CursorState.{CursorState, ahead}
use Rattle.passkey_cbor.proofs.strings.Strings.{is_allowed-is}
use Rattle.passkey_cbor.proofs.strings.Joining.{copies_chunks, looks_at_all, looks_at_some, looks_at_none, looks_at_some_none, whole_region}
use Rattle.passkey_cbor.proofs.token.copy.Goals as goal

pub returns-in_err-copied-in-Some-clause-copies : goal.returns-in_err-copied-in-Some-clause-copies
returns-in_err-copied-in-Some-clause-copies c =
    let p = err_from_is_err_and c.from_residual.result c.from_residual.ensures.1 in
    rw p.1 (λ s t. omega (
      arith,
      c.in_err-copied-in-Some.ensures.some,
      ap length (whole_region c.args.is_text c.args.len _ c.args.region.now s c.in-Some.is t).0,
    ))

pub returns-in_ok-copied-in-Some-clause-allowed_text : goal.returns-in_ok-copied-in-Some-clause-allowed_text
returns-in_ok-copied-in-Some-clause-allowed_text c =
    is_allowed-is c.args.is_text _ (subst (IsAllowed c.args.is_text) (sym c.in_ok-copied-in-Some.ensures.copy)
    (whole_region c.args.is_text c.args.len _ c.args.region.now c.requires.0 c.in-Some.is c.requires.1).1)

pub returns-in-Ok-clause-copies : goal.returns-in-Ok-clause-copies
returns-in-Ok-clause-copies c = copies_chunks c.args.is_text c.args.len c.args.region.now c.new-chunks.result
    c.build_chunks-bytes.new.self _ c.in-None.is (ap ahead c.new-chunks.ensures) c.in-Ok.ensures.made

pub returns-in-Ok-clause-looks : goal.returns-in-Ok-clause-looks
returns-in-Ok-clause-looks c = looks_at_all c.args.is_text c.args.len c.args.region.now c.new-chunks.result
    c.build_chunks-bytes.new.self c.args.cursor.now c.add_heads.new.self c.in-None.is
    (ap ahead c.new-chunks.ensures) (ap (λ (w : CursorState). w.heads) c.new-chunks.ensures) c.in-Ok.ensures.counted
    (c.add_heads.ensures.raised ∙ ap (λ (h : ℕ). record c.args.cursor.now
    { heads = min (c.args.cursor.now.heads + h) (2 ^ 128 - 1) }) c.count.ensures.heads)

pub returns-in-Err-clause-copies : goal.returns-in-Err-clause-copies
returns-in-Err-clause-copies c = copies_chunks c.args.is_text c.args.len c.args.region.now c.new-chunks.result
    c.build_chunks-bytes.new.self _ c.in-None.is (ap ahead c.new-chunks.ensures) c.in-Err.ensures.made

pub returns-in-Err-clause-looks : goal.returns-in-Err-clause-looks
returns-in-Err-clause-looks c = looks_at_some c.args.is_text c.args.len c.args.region.now c.new-chunks.result
    c.build_chunks-bytes.new.self c.args.cursor.now c.add_heads.new.self c.in-None.is
    (ap ahead c.new-chunks.ensures) (ap (λ (w : CursorState). w.heads) c.new-chunks.ensures) c.in-Err.ensures.counted
    (c.add_heads.ensures.raised ∙ ap (λ (h : ℕ). record c.args.cursor.now
    { heads = min (c.args.cursor.now.heads + h) (2 ^ 128 - 1) }) c.count.ensures.heads)

pub returns-in_ok-copied-in-Some-clause-looks : goal.returns-in_ok-copied-in-Some-clause-looks
returns-in_ok-copied-in-Some-clause-looks c =
    looks_at_none c.args.is_text c.args.len _ c.args.region.now c.args.cursor.now c.in-Some.is

pub returns-in_err-copied-in-Some-clause-looks :
    goal.returns-in_err-copied-in-Some-clause-looks
returns-in_err-copied-in-Some-clause-looks c =
    let p = err_from_is_err_and c.from_residual.result c.from_residual.ensures.1 in
    rw p.1 (looks_at_some_none c.args.is_text c.args.len _ c.args.region.now c.args.cursor.now c.in-Some.is)
