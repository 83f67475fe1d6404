use Rattle.std.proofs.Common.{◌≡◌, ◌∙◌, Global, List, ℕ, Vec, String, Ok, map, subst}
use Rattle.passkey_cbor_text.proofs.Indexed.{mapped_at}
use Rattle.passkey_cbor_text.proofs.Pairs.{pushed}
use Rattle.passkey_cbor_text.specs.values.NoItem.{FailsAs}
use Rattle.passkey_render.proofs.Parts.{each_goes, each_stops}
use Rattle.passkey_render.specs.DataParts.{part_in, part_of}
use Rattle.passkey_render.specs.Parts.{named_in}
use Rattle.passkey_render.proofs.data_parts.parts.Goals as goal

abbrev CodePart : Type 0
CodePart = String Global × Vec ℕ Global

pub returns-in-Err : goal.returns-in-Err
returns-in-Err g c =
    let x = c.index-all-index in
    let of = part_of g.S.Structure.part in
    let at = mapped_at named_in c.args.all.now _ x.result x.is c.loop-index-test.true in
    each_stops of _ _ _ _ _ at _ c.in-Err.fault c.under.result c.loop-index.invariant
    (subst (λ (ps : List CodePart). FailsAs (of (map part_in ps) (named_in x.result)) c.in-Err.fault) c.deref.ensures.value
    c.in-Err.ensures) c.under.ensures

pub loop-index-preserved : goal.loop-index-preserved
loop-index-preserved g c =
    let x = c.index-all-index in
    let of = part_of g.S.Structure.part in
    let at = mapped_at named_in c.args.all.now _ x.result x.is c.loop-index-test.true in
    each_goes of _ _ _ _ _ at _ _
    (subst (λ (ps : List CodePart). of (map part_in ps) (named_in x.result) ≡ Ok (part_in c.in-Ok.part)) c.deref.ensures.value
    c.in-Ok.ensures) (pushed part_in _ _ _ c.in_ok-push-in-Ok.ensures.items) ∙ c.loop-index.invariant
