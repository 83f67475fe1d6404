use Rattle.passkey_cbor.specs.View.{pair_of}
use Rattle.passkey_cbor.specs.declared.value.Value.{Value}
use Rattle.passkey_repair.proofs.Places.{edits_member, puts_back}
use Rattle.passkey_repair.proofs.messages.place.+change.Goals as goal
use Rattle.passkey_repair.specs.messages.Edit.{edited_at, place_of}
use Rattle.passkey_repair.specs.messages.Views.{change_of, key_item}
use Rattle.std.proofs.Common.{List, Some, ap, get_or, length, map, subst, ◌<◌, ◌∷◌, ◌≡◌}
use Rattle.std.proofs.lemmas.List.{set-set}

pub change_at-returns-in_ok-is_made-in-Map : goal.change_at-returns-in_ok-is_made-in-Map
change_at-returns-in_ok-is_made-in-Map t c =
    let key = key_item c.in-Some.key.now in
    let path = map key_item c.in-Some.rest.now in
    let along : map key_item c.args.path.now ≡ key ∷ path = ap (map key_item) c.in-Some.ensures.cases.0 in
    rw c.in-Map.is (edits_member (map key_item c.args.path.now) key path (change_of c.args.change.now) c.in-Map.pairs
    c.change_member.new.pairs c.in_ok-is_made-in-Map.is_made along c.in_ok-is_made-in-Map.ensures)

pub change_member-returns : goal.change_member-returns
change_member-returns t c =
    let ps = c.args.pairs.now.items in
    let n = c.in-Some.index in
    let p = c.replace-label.result in
    let within = subst (λ (xs : List (Value × Value)). n < length xs) c.deref.ensures.value c.in-Some.ensures.within in
    let found = subst (λ (xs : List (Value × Value)). Some n ≡ place_of (key_item c.args.key.now) (map pair_of xs))
    c.deref.ensures.value c.in-Some.ensures.place in
    let is : p ≡ get_or ps n p = rw c.replace-label.ensures.value c.index_mut.ensures.value in
    rw (set-set ps n c.replace-label.new.dest (p.0, c.in_ok-value.value))
    (puts_back (edited_at (map key_item c.args.path.now) (change_of c.args.change.now)) (key_item c.args.key.now) ps n p
    within is found c.in_ok-value.value c.in_ok-value.is_made c.in_ok-value.ensures)
