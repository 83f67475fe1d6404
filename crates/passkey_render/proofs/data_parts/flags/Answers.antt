use Rattle.std.proofs.Common.{Global, ℕ, Vec, sym}
use Rattle.passkey_cbor_text.proofs.Gathering.{reads_as}
use Rattle.passkey_render.proofs.Parts.{array_seen, no_elements, no_parts, parts_there}
use Rattle.passkey_render.proofs.data_parts.flags.Goals as goal

pub returns-in-Array : goal.returns-in-Array
returns-in-Array c = reads_as (λ (v : Vec ℕ Global). v.items) _ _ c.named_flags.result
    (sym (parts_there _ _ _ _ (array_seen c.args.json.now c.in-Array.all _ c.in-Array.is c.deref.ensures.value)))
    c.named_flags.ensures

pub returns-in_default : goal.returns-in_default
returns-in_default c = reads_as (λ (v : Vec ℕ Global). v.items) _ _ c.numbered_flags.result
    (sym (no_parts _ _ _ (no_elements c.args.json.now c.in_default.not-Array))) c.numbered_flags.ensures
