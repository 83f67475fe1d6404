-- Values that statements are decoded from and encoded as.
use Rattle.std.proofs.Common.{◌≡◌, ◌<◌, List, [], ◌∷◌, length, map, Err, arith, refl, ap}
use Rattle.passkey_attestation.specs.Statement.{read_none}
use Rattle.passkey_attestation.specs.Statements.{element, element_parts}
use Rattle.passkey_attestation.specs.declared.compound.CompoundElement.{CompoundElement}
use Rattle.passkey_attestation.specs.declared.fault.StatementFault.TheVariants.{NotEmpty}
use Rattle.passkey_cbor.specs.Item.{array, items_of, map as map_item}
use Rattle.passkey_cbor.specs.View.{pairs_view}
use Rattle.passkey_cbor.specs.declared.value.Value.{Value}
use Rattle.passkey_kinds.specs.Placed.{plain_tree}
use Rattle.passkey_kinds.specs.Tree.{list_tree}

pub not_none : (ps : List (Value × Value)) → 0 < length ps → read_none (map_item (pairs_view ps)) ≡ Err NotEmpty
not_none [] h = absurd (omega (arith, h))
not_none (p ∷ ps) h = refl

-- the elements of a compound statement, by what contracts see of them
pub elements_seen : (es : List CompoundElement) → list_tree (λ (e : CompoundElement). plain_tree element (element_parts e)) es
    ≡ list_tree (plain_tree element) (map element_parts es)
elements_seen es = ap (λ is. array (items_of is)) (seen es) where
  seen : (xs : List CompoundElement) → map (λ (e : CompoundElement). plain_tree element (element_parts e)) xs
      ≡ map (plain_tree element) (map element_parts xs)
  seen [] = refl
  seen (x ∷ xs) = ap (λ is. plain_tree element (element_parts x) ∷ is) (seen xs)
