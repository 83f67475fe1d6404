use Rattle.passkey_cbor.specs.Item.{map, pairs_of}
use Rattle.passkey_view.proofs.Walking.{found_in_map, no_map}
use Rattle.passkey_view.proofs.member.member_ahead.Goals as goal

pub returns-in-None : goal.returns-in-None
returns-in-None g c = λ ms to l. absurd (c.in-None.ensures.view (map (pairs_of ms)) to l)

pub returns-in-Map : goal.returns-in-Map
returns-in-Map g c =
    let v = c.in-Some.ensures.view in
    found_in_map _ v.0 c.in-Map.left _ _ c.args.cursor.now c.view_ahead.new.cursor v.1 c.in-Map.is c.in-Some.ensures.opened
    c.value_ahead.ensures

pub returns-in_default : goal.returns-in_default
returns-in_default g c = λ ms to l.
    let v = c.in-Some.ensures.view in
    absurd (no_map v.0 _ _ _ ms to v.1 c.in_default.not-Map l)
