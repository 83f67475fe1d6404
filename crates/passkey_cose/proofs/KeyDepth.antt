-- The nesting levels of the data item that a key is written as.
use Rattle.std.proofs.Common.{◌≡◌, ℕ, ℤ, suc, ◌≤◌, max, length, List, [], ◌∷◌, ◌++◌, map, Option, Some, None, option_map, refl, ap, arith}
use Rattle.passkey_cbor.specs.Depth.{depth, items_depth, pairs_depth}
use Rattle.passkey_cbor.specs.Item.{Item, byte_string, items_of, pairs_of}
use Rattle.passkey_iana.specs.Iana.{algorithm_number, key_type_number}
use Rattle.passkey_cose.specs.KeyLabels.{Members}
use Rattle.passkey_cose.specs.KeyParts.{KeyParts, member, op_item, ops_item, key_item}
use Rattle.passkey_cose.specs.Registered.{Named, assigned, named_item}
use Rattle.passkey_iana.specs.declared.key_operation.KeyOperation.{KeyOperation}

pub members_depth-append : (ms ns : Members)
    → pairs_depth (pairs_of (ms ++ ns)) ≡ max (pairs_depth (pairs_of ms)) (pairs_depth (pairs_of ns))
members_depth-append [] ns = omega arith
members_depth-append (m ∷ ms) ns =
    let rest = members_depth-append ms ns in
    omega arith

named_depth : {T : Type 0} (number_of : T → ℤ) (x : Named T) → depth (named_item number_of x) ≡ 0
named_depth number_of (assigned a) = refl
named_depth number_of _ = refl

name_depth : {T : Type 0} (number_of : T → ℤ) (n : ℕ) (x : Option (Named T))
    → pairs_depth (pairs_of (member n (option_map (named_item number_of) x))) ≡ 0
name_depth number_of n None = refl
name_depth number_of n (Some x) = let d = named_depth number_of x in omega arith

string_depth : (n : ℕ) (s : Option (List ℕ)) → pairs_depth (pairs_of (member n (option_map byte_string s))) ≡ 0
string_depth n None = refl
string_depth n (Some s) = refl

ops_depth : (os : List (Named KeyOperation)) → items_depth (items_of (map op_item os)) ≡ 0
ops_depth [] = refl
ops_depth (o ∷ os) =
    let first : depth (op_item o) ≡ 0 = named_depth _ o in
    let rest = ops_depth os in
    omega arith

pub some_ops_depth : {X : Type 0} (name : X → Named KeyOperation) (xs : List X) → 1 ≤ length xs
    → pairs_depth (pairs_of (member 4 (ops_item (map name xs)))) ≡ 1
some_ops_depth name [] some = omega arith
some_ops_depth name (x ∷ xs) some =
    let all = ops_depth (map name (x ∷ xs)) in
    omega arith

-- only the operations and the other parameters have levels
only_two : (x : Item) (ids algs ops ivs ps : Members) → depth x ≡ 0 → pairs_depth (pairs_of ids) ≡ 0
    → pairs_depth (pairs_of algs) ≡ 0 → pairs_depth (pairs_of ivs) ≡ 0
    → pairs_depth (pairs_of (member 1 (Some x) ++ ids ++ algs ++ ops ++ ivs ++ ps))
    ≡ max (pairs_depth (pairs_of ps)) (pairs_depth (pairs_of ops))
only_two x ids algs ops ivs ps types none_a none_b none_c =
    let a = members_depth-append ids algs in
    let b = members_depth-append (ids ++ algs) ops in
    let c = members_depth-append (ids ++ algs ++ ops) ivs in
    let d = members_depth-append (ids ++ algs ++ ops ++ ivs) ps in
    omega arith

pub key_depth_is : (k : KeyParts) → depth (key_item k)
    ≡ suc (max (pairs_depth (pairs_of k.params)) (pairs_depth (pairs_of (member 4 (ops_item k.key_ops)))))
key_depth_is k =
    let ids = member 2 (option_map byte_string k.key_id) in
    let algs = member 3 (option_map (named_item algorithm_number) k.alg) in
    let ops = member 4 (ops_item k.key_ops) in
    let ivs = member 5 (option_map byte_string k.base_iv) in
    ap suc (only_two (named_item key_type_number k.kty) ids algs ops ivs k.params (named_depth key_type_number
    k.kty) (string_depth 2 k.key_id) (name_depth algorithm_number 3 k.alg) (string_depth 5 k.base_iv))
