use Rattle.std.proofs.Common.{◌∙◌, ℕ, ◌+◌, ◌-◌, ◌^◌, min, List, map, ap}
use Rattle.passkey_cbor.specs.Names.{place_of}
use Rattle.passkey_cbor.specs.CursorState.{CursorState, ahead}
use Rattle.passkey_cbor.proofs.strings.Joining.{name_of_chunks, looks_for, looks_for_none, whole_region}
use Rattle.passkey_cbor.proofs.strings.Naming.{place_of-told}
use Rattle.passkey_cbor.proofs.names.name_of.Goals as goal

pub returns-in-Some-clause-name : goal.returns-in-Some-clause-name
returns-in-Some-clause-name c s t = c.place_of.ensures ∙ place_of-told c.args.region.now c.args.names.now
    ∙ ap (λ (u : List ℕ). place_of u (map (λ n. n.now) c.args.names.now))
    (whole_region c.args.is_text c.args.len _ c.args.region.now s c.in-Some.is t).0

pub returns-in-None-clause-name : goal.returns-in-None-clause-name
returns-in-None-clause-name c =
    name_of_chunks c.args.is_text c.args.len c.args.region.now _ c.new-chunks.result c.place_of_joined-place.result
    c.in-None.is (ap ahead c.new-chunks.ensures) c.place_of_joined-place.ensures.place

pub returns-in-None-clause-looks : goal.returns-in-None-clause-looks
returns-in-None-clause-looks c = looks_for c.args.is_text _ c.args.len c.args.region.now c.new-chunks.result
    c.place_of_joined-place.new.chunks c.args.cursor.now c.add_heads.new.self c.in-None.is
    (ap ahead c.new-chunks.ensures) (ap (λ (w : CursorState). w.heads) c.new-chunks.ensures)
    c.place_of_joined-place.ensures.counted (c.add_heads.ensures.raised ∙ ap (λ (h : ℕ). record c.args.cursor.now
    { heads = min (c.args.cursor.now.heads + h) (2 ^ 128 - 1) }) c.count.ensures.heads)

pub returns-in-Some-clause-looks : goal.returns-in-Some-clause-looks
returns-in-Some-clause-looks c =
    looks_for_none c.args.is_text _ c.args.len _ c.args.region.now c.args.cursor.now c.in-Some.is
