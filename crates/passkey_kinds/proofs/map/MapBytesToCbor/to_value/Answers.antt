use Rattle.std.proofs.lemmas.List.Sorted.{All-permutation, IsPermutation-sym}
use Rattle.passkey_kinds.proofs.Steps.{◌∙◌, map, ap, pairs_of, item_of-Map, Members, entry_tree, deref_pair}
use Rattle.passkey_cbor.specs.Item as item
use Rattle.passkey_kinds.proofs.map.MapBytesToCbor.to_value.Goals as goal

pub returns-clause-tree : goal.returns-clause-tree
returns-clause-tree g c =
    item_of-Map c.in_ok-write_entries.field-0
    ∙ ap (λ (ms : Members). item.map (pairs_of ms)) (c.in_ok-write_entries.ensures.trees
    ∙ ap (λ es. map (entry_tree g.T.ToCbor.tree) (map deref_pair es)) c.deref.ensures.value
    ∙ ap (map (entry_tree g.T.ToCbor.tree)) c.in_ok-entries.ensures.sorted)

pub returns-clause-fits : goal.returns-clause-fits
returns-clause-fits g c = All-permutation (λ e. g.T.ToCbor.fits e.1) _ _
    (IsPermutation-sym _ _ c.in_ok-entries.ensures.moved) (rw c.deref.ensures.value at c.in_ok-write_entries.ensures.fits)
