use Rattle.std.proofs.Common.{◌≡◌, drop, map, take}
use Rattle.passkey_cbor.specs.View.{item_of, pair_of}
use Rattle.passkey_registered.specs.CanonicalForm.{AreKeysOf, canonical_form, canonical_member, sorted}
use Rattle.passkey_registered.specs.extensions.Others.{with_all}
use Rattle.passkey_registered.proofs.canonical_form.+canonical.Given as goal

abbrev pub invariant-in_order_elements-loop-element : goal.invariant-in_order_elements-loop-element
invariant-in_order_elements-loop-element l =
    map item_of l.all.items ≡ map canonical_form (map item_of (take l.element-index l.elements))

abbrev pub invariant-in_order_members-loop-key : goal.invariant-in_order_members-loop-key
invariant-in_order_members-loop-key l =
    (with_all (map canonical_member (map pair_of (drop l.key-index l.pairs))) (map pair_of l.members.items)
    ≡ sorted (map canonical_member (map pair_of l.pairs)))
    × AreKeysOf (map pair_of l.members.items) (map (λ k. k.items) l.keys.items)
