use Rattle.std.proofs.Common.{◌≡◌, map, take}
use Rattle.passkey_cbor.specs.View.{item_of}
use Rattle.passkey_explain.specs.Described.{described_of, key, labelled}
use Rattle.passkey_explain.specs.DescribedData.{field_of}
use Rattle.passkey_render.specs.Opened.{opened, opened_part}
use Rattle.passkey_render.proofs.inside.+inside.Given as goal

abbrev pub invariant-open_items-loop-item : goal.invariant-open_items-loop-item
invariant-open_items-loop-item l =
    map described_of l.parts.items ≡ map opened (map described_of (take l.item-index l.items))

abbrev pub invariant-opened-loop-key : goal.invariant-opened-loop-key
invariant-opened-loop-key l =
    map (λ p. labelled (key (item_of p.0)) (described_of p.1)) l.parts.items
    ≡ map (λ p. labelled (key (item_of p.0)) (opened (described_of p.1))) (take l.key-index l.key-items)

abbrev pub invariant-open_members-loop-name : goal.invariant-open_members-loop-name
invariant-open_members-loop-name l =
    map field_of l.parts.items ≡ map (λ p. opened_part (field_of p)) (take l.name-index l.fields)
