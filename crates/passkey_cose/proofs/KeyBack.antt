-- A key, when written, is read back with assigned numbers as the registries' values.
use Rattle.std.specs.List.{filter_map, cons_option}
use Rattle.std.specs.Option.{option_and_then}
use Rattle.std.specs.Result.{result_map_both}
use Rattle.std.proofs.Common.{◌≡◌, ◌∙◌, ℕ, ℤ, pos, ◌<◌, arith, length, Bool, true, false, if◌then◌else◌, List, [], ◌∷◌, ◌++◌, map, Option, Some, None, option_map, unwrap_or, Ok, refl, sym, ap, subst}
use Rattle.std.proofs.lemmas.Bool.{true≢false}
use Rattle.passkey_cbor.specs.Item.{Item, number, byte_string}
use Rattle.passkey_cose.specs.KeyReadable.{is_reserved}
use Rattle.passkey_iana.specs.Iana.{algorithm_number, algorithm_named, key_type_number, key_type_named, key_operation_number, key_operation_named}
use Rattle.passkey_iana.specs.IanaLaws.{algorithm_named-number, key_type_named-number, key_operation_named-number}
use Rattle.passkey_iana.specs.Signed64.{is_signed_64}
use Rattle.passkey_cose.specs.KeyFaults.{name_fault, op_fault, first_op_fault}
use Rattle.passkey_cose.specs.KeyNormal.{normal_named, normal_key, IsKey}
use Rattle.passkey_cose.specs.KeyParts.{KeyParts, op_item, ops_item, key_members, key_item}
use Rattle.passkey_cose.specs.KeyReading.{assigned_or_other, name_in, bytes_in, ops_in, under, further, key_type, key_or_fault, read_key}
use Rattle.passkey_cose.specs.Registered.{Named, assigned, other, text, named_item}
use Rattle.passkey_cose.specs.RegisteredSame.{NumbersName}
use Rattle.passkey_cose.specs.declared.error.CoseError.{CoseError}
use Rattle.passkey_cose.specs.declared.error.CoseError.TheVariants.{OutOfRangeIntegerValue}
use Rattle.passkey_iana.specs.declared.key_operation.KeyOperation.{KeyOperation}
use Rattle.passkey_iana.specs.declared.key_type.KeyType.{KeyType}
use Rattle.passkey_iana.specs.declared.key_type.KeyType.TheVariants.{Reserved, OKP, EC2, RSA, Symmetric}
use Rattle.passkey_cose.proofs.KeyFurther.{none_either}
use Rattle.passkey_cose.proofs.KeyHeld.{IsGoodName, AreGoodOps, under_good}
use Rattle.passkey_cose.proofs.KeyLists.{ops_fault-array, ops_in-array, read_key-map}
use Rattle.passkey_cose.proofs.KeyMembers.{further_own, members_of, members_sorted}
use Rattle.passkey_cose.proofs.KeySorted.{sorted, under_1, under_2, under_3, under_4, under_5, further_sorted}

-- ---- names

number_back : {T : Type 0} (number_of : T → ℤ) (named : ℤ → Option T) → NumbersName number_of named → (a : T)
    → assigned_or_other (number_of a) (named (number_of a)) ≡ assigned a
number_back {T = T} number_of named law a = ap (assigned_or_other (number_of a)) ((law (number_of a) a).1 refl)

signed_back : {T : Type 0} (named : ℤ → Option T) (z : ℤ) → name_fault (number z) ≡ None
    → name_in named (number z) ≡ Some (assigned_or_other z (named z))
signed_back named z e =
    (elim (is_signed_64 z) as (λ (b : Bool). (if b then None else Some OutOfRangeIntegerValue) ≡ None
    → (if b then Some (assigned_or_other z (named z)) else None) ≡ Some (assigned_or_other z (named z))) [
      | true ↦ λ h. refl
      | false ↦ λ h. cc
    ]) e

name_back : {T : Type 0} (number_of : T → ℤ) (named : ℤ → Option T) → NumbersName number_of named → (x : Named T)
    → name_fault (named_item number_of x) ≡ None
    → name_in named (named_item number_of x) ≡ Some (normal_named named x)
name_back number_of named law (assigned a) e =
    signed_back named (number_of a) e ∙ ap Some (number_back number_of named law a)
name_back number_of named law (other z) e = signed_back named z e
name_back number_of named law (text s) e = refl

names_back : {T : Type 0} (number_of : T → ℤ) (named : ℤ → Option T) → NumbersName number_of named
    → (o : Option (Named T)) → IsGoodName (option_map (named_item number_of) o)
    → option_and_then (name_in named) (option_map (named_item number_of) o) ≡ option_map (normal_named named) o
names_back number_of named law None e = refl
names_back number_of named law (Some x) e = name_back number_of named law x e

strings_back : (o : Option (List ℕ)) → option_and_then bytes_in (option_map byte_string o) ≡ o
strings_back None = refl
strings_back (Some s) = refl

-- ---- operations

each_op_back : (earlier : List Item) (os : List (Named KeyOperation)) → first_op_fault earlier (map op_item os)
    ≡ None → filter_map (name_in key_operation_named) (map op_item os) ≡ map (normal_named key_operation_named) os
each_op_back earlier [] e = refl
each_op_back earlier (o ∷ os) e =
    let parts = none_either (op_fault earlier (op_item o))
    (first_op_fault (earlier ++ op_item o ∷ []) (map op_item os)) e in
    let name = none_either (name_fault (op_item o)) _ parts.0 in
    let here : name_in key_operation_named (op_item o) ≡ Some (normal_named key_operation_named o) =
    name_back key_operation_number key_operation_named key_operation_named-number o name.0 in
    let following = each_op_back (earlier ++ op_item o ∷ []) os parts.1 in
    λ i. cons_option (here i) (following i)

ops_back : (os : List (Named KeyOperation)) → AreGoodOps (ops_item os)
    → unwrap_or (option_map ops_in (ops_item os)) [] ≡ map (normal_named key_operation_named) os
ops_back [] e = refl
ops_back (o ∷ os) e =
    let some : 0 < length (map op_item (o ∷ os)) = omega arith in
    let good : first_op_fault [] (map op_item (o ∷ os)) ≡ None =
    sym (ops_fault-array (map op_item (o ∷ os)) some) ∙ e in
    ops_in-array (map op_item (o ∷ os)) ∙ each_op_back [] (o ∷ os) good

-- ---- the type

other_type : (z : ℤ) → is_reserved (other z) ≡ false
    → key_type (Some (normal_named key_type_named (other z))) ≡ Ok (normal_named key_type_named (other z))
other_type z e =
    (elim (key_type_named z) as (λ (o : Option KeyType). key_type_named z ≡ o
    → key_type (Some (assigned_or_other z o)) ≡ Ok (assigned_or_other z o)) [
      | None ↦ λ h. refl
      | Some t ↦ λ h. given_type t h
    ]) refl
  where
    given_type : (t : KeyType) → key_type_named z ≡ Some t → key_type (Some (assigned t)) ≡ Ok (assigned t)
    given_type Reserved h =
        let same : pos 0 ≡ z = (key_type_named-number z Reserved).0 h in
        let never : is_reserved (other (pos 0)) ≡ false =
        subst (λ (w : ℤ). is_reserved (other w) ≡ false) (sym same) e in
        absurd (true≢false never)
    given_type OKP h = refl
    given_type EC2 h = refl
    given_type RSA h = refl
    given_type Symmetric h = refl

type_back : (kty : Named KeyType) → is_reserved kty ≡ false
    → key_type (Some (normal_named key_type_named kty)) ≡ Ok (normal_named key_type_named kty)
type_back (assigned Reserved) e = cc
type_back (other z) e = other_type z e
type_back _ e = refl

-- ---- the key

pub key_back : (k : KeyParts) → IsKey k → is_reserved k.kty ≡ false → read_key (key_item k) ≡ Ok (normal_key k)
unfolding members_of
key_back k valid typed =
    let ms = key_members k in
    let a = Some (named_item key_type_number k.kty) in
    let b = option_map byte_string k.key_id in
    let c = option_map (named_item algorithm_number) k.alg in
    let d = ops_item k.key_ops in
    let e = option_map byte_string k.base_iv in
    let same : key_members k ≡ sorted a b c d e k.params = members_sorted k valid.separate in
    let at_1 : under 1 ms ≡ a = ap (under 1) same ∙ under_1 a b c d e k.params in
    let at_2 : under 2 ms ≡ b = ap (under 2) same ∙ under_2 a b c d e k.params in
    let at_3 : under 3 ms ≡ c = ap (under 3) same ∙ under_3 a b c d e k.params in
    let at_4 : under 4 ms ≡ d = ap (under 4) same ∙ under_4 a b c d e k.params in
    let at_5 : under 5 ms ≡ e = ap (under 5) same ∙ under_5 a b c d e k.params in
    let good_1 : IsGoodName a = subst IsGoodName at_1 (under_good 1 [] ms valid.good) in
    let good_3 : IsGoodName c = subst IsGoodName at_3 (under_good 3 [] ms valid.good) in
    let good_4 : AreGoodOps d = subst AreGoodOps at_4 (under_good 4 [] ms valid.good) in
    let types : option_and_then (name_in key_type_named) (under 1 ms) ≡ Some (normal_named key_type_named k.kty) =
    ap (option_and_then (name_in key_type_named)) at_1
    ∙ name_back key_type_number key_type_named key_type_named-number k.kty good_1 in
    let ids : option_and_then bytes_in (under 2 ms) ≡ k.key_id =
    ap (option_and_then bytes_in) at_2 ∙ strings_back k.key_id in
    let algs : option_and_then (name_in algorithm_named) (under 3 ms)
    ≡ option_map (normal_named algorithm_named) k.alg = ap (option_and_then (name_in algorithm_named)) at_3
    ∙ names_back algorithm_number algorithm_named algorithm_named-number k.alg good_3 in
    let ops : unwrap_or (option_map ops_in (under 4 ms)) [] ≡ map (normal_named key_operation_named) k.key_ops =
    ap (λ o. unwrap_or (option_map ops_in o) []) at_4 ∙ ops_back k.key_ops good_4 in
    let ivs : option_and_then bytes_in (under 5 ms) ≡ k.base_iv =
    ap (option_and_then bytes_in) at_5 ∙ strings_back k.base_iv in
    let others : further ms ≡ k.params =
    ap further same ∙ further_sorted a b c d e k.params ∙ further_own k.params valid.separate in
    let made : Named KeyType → KeyParts =
    λ kty. record {
      kty = kty;
      key_id = k.key_id;
      alg = option_map (normal_named algorithm_named) k.alg;
      key_ops = map (normal_named key_operation_named) k.key_ops;
      base_iv = k.base_iv;
      params = k.params;
    } in
    let read : key_or_fault ms None
    ≡ result_map_both made (λ (f : CoseError). f) (key_type (Some (normal_named key_type_named k.kty))) =
    λ i. result_map_both (λ (kty : Named KeyType). (let l : KeyParts = record {
      kty = kty;
      key_id = ids i;
      alg = algs i;
      key_ops = ops i;
      base_iv = ivs i;
      params = others i;
    } in l)) (λ (f : CoseError). f)
    (key_type (types i)) in
    read_key-map ms ∙ ap (key_or_fault ms) valid.good ∙ read
    ∙ ap (result_map_both made (λ (f : CoseError). f)) (type_back k.kty typed)
