use Rattle.std.specs.Map.Iter.{deref_pair}
use Rattle.std.proofs.Common.{◌∙◌, ◌++◌, ap, map, subst, sym}
use Rattle.std.proofs.lemmas.Map.Iter.{rest_more}
use Rattle.passkey_json.proofs.Dropping.{Lists, all_listed, part_listed}
use Rattle.passkey_json.specs.Dropped.{dropped, dropped_map, dropped_members, under}
use Rattle.passkey_json.specs.Shape.{named}
use Rattle.serde_json.specs.View.{members_view, view}
use Rattle.passkey_json.proofs.map.MapTextFromJson.dropped.Goals as goal

pub loop-name-preserved : goal.loop-name-preserved
loop-name-preserved g c =
    let of = dropped g.T.FromJson.shape in
    let next = rest_more deref_pair c.loop-name.name-iterator c.next.new.self c.next.result
    (c.in-Some.name, c.in-Some.member) c.in-Some.is c.next.ensures.steps in
    let name = c.in_ok-from_str.ensures.same ∙ c.as_str.ensures.value in
    let os = of (view c.in-Some.member.now) in
    part_listed _ (map (under (named c.in_ok-from_str.field-0)) os) _ _ _
    (subst (λ left. Lists (dropped_map of (view c.args.value.now)) left c.loop-name.dropped.items)
    (ap (λ ms. dropped_members of (members_view ms)) next
    ∙ ap (λ n. map (under (named n)) os ++ dropped_members of (members_view c.next.new.self)) (sym name))
    c.loop-name.invariant) c.in_ok-append_as.ensures

pub returns : goal.returns
returns g c =
    let of = dropped g.T.FromJson.shape in
    all_listed _ _ c.loop-name.dropped.items (ap (λ ms. dropped_members of (members_view ms)) c.in-None.ensures.steps.0)
    c.loop-name.invariant
