-- The lists of elements and of members in arrays and maps.
use Rattle.std.specs.List.{filter_map}
use Rattle.std.proofs.Common.{arith, ◌≡◌, ◌<◌, List, [], ◌∷◌, length, ap}
use Rattle.passkey_cbor.specs.Item.{Item, array, map, items_of, pairs_of}
use Rattle.passkey_iana.specs.Iana.{key_operation_named}
use Rattle.passkey_cose.specs.KeyFaults.{first_op_fault, ops_fault, first_fault}
use Rattle.passkey_cose.specs.KeyLabels.{Members}
use Rattle.passkey_cbor.proofs.items.Items.{elements-items_of, members-pairs_of}
use Rattle.passkey_cose.specs.KeyReading.{name_in, ops_in, key_or_fault, read_key}

pub ops_fault-array : (xs : List Item) → 0 < length xs → ops_fault (array (items_of xs)) ≡ first_op_fault [] xs
ops_fault-array [] h = absurd (omega arith)
ops_fault-array (x ∷ xs) h = ap (λ (ys : List Item). first_op_fault [] (x ∷ ys)) (elements-items_of xs)

pub ops_in-array : (xs : List Item) → ops_in (array (items_of xs)) ≡ filter_map (name_in key_operation_named) xs
ops_in-array xs = ap (filter_map (name_in key_operation_named)) (elements-items_of xs)

pub read_key-map : (ms : Members) → read_key (map (pairs_of ms)) ≡ key_or_fault ms (first_fault [] ms)
read_key-map ms = ap (λ (ns : Members). key_or_fault ns (first_fault [] ns)) (members-pairs_of ms)
