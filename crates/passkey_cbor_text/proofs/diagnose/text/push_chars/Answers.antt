use Rattle.std.proofs.Common.{flat_map, sym, ap, ◌∙◌, ◌++◌, List, ℕ, map-id, string_bytes}
use Rattle.std.proofs.lemmas.Iterator.{YieldsList-from_chars}
use Rattle.std.proofs.lemmas.Iterator.Consumers.{YieldsList-end}
use Rattle.passkey_cbor_text.specs.diagnose.Quoted.{char_text}
use Rattle.passkey_cbor_text.proofs.diagnose.text.push_chars.Goals as goal

pub returns : goal.returns
returns c =
    let end = YieldsList-end (YieldsList-from_chars c.args.text.now c.utf8.text cc) c.loop-c.yielded _
    c.loop-c.yielded_by _ _ c.in-None.is c.next.ensures.steps in
    c.loop-c.invariant
    ∙ ap (λ (cs : List ℕ). string_bytes c.args.out.now ++ flat_map char_text cs) (sym (map-id c.loop-c.yielded) ∙ end.0)
