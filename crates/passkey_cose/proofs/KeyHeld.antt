-- What is read from a member that isn't bad is written as the same data item.
use Rattle.std.specs.List.{filter_map, find, cons_option}
use Rattle.std.specs.Option.{option_and_then}
use Rattle.std.proofs.Common.{◌≡◌, ◌<◌, ℕ, ℤ, pos, arith, length, IsSome, Bool, true, false, ◌∷◌, ◌++◌, List, [], map, Option, Some, None, option_map, unwrap_or, Ok, if◌then◌else◌, refl, ap, subst, ◌∙◌}
use Rattle.passkey_cbor.specs.Item.{Item, number, byte_string, text_string, array, no_items, item, elements, items_of}
use Rattle.passkey_cbor.specs.SameItems.{item_Decides}
use Rattle.passkey_cbor.proofs.items.Items.{items_of-elements}
use Rattle.passkey_iana.specs.Iana.{key_operation_named, key_operation_number}
use Rattle.passkey_iana.specs.IanaLaws.{key_operation_named-number}
use Rattle.passkey_iana.specs.Signed64.{is_signed_64}
use Rattle.passkey_cose.specs.KeyFaults.{name_fault, bytes_fault, op_fault, first_op_fault, ops_fault, value_fault, member_fault, first_fault}
use Rattle.passkey_cose.specs.KeyLabels.{Members, is_label, has_label}
use Rattle.passkey_cose.specs.KeyParts.{op_item, ops_item}
use Rattle.passkey_cose.specs.KeyReading.{assigned_or_other, name_in, bytes_in, ops_in, under, key_type}
use Rattle.passkey_cose.specs.Registered.{Named, assigned, other, text, named_item}
use Rattle.passkey_cose.specs.RegisteredSame.{NumbersName}
use Rattle.passkey_cose.specs.declared.error.CoseError.{CoseError}
use Rattle.passkey_cose.specs.declared.error.CoseError.TheVariants.{OutOfRangeIntegerValue, DuplicateMapKey}
use Rattle.passkey_iana.specs.declared.key_operation.KeyOperation.{KeyOperation}
use Rattle.passkey_iana.specs.declared.key_type.KeyType.{KeyType}
use Rattle.passkey_iana.specs.declared.key_type.KeyType.TheVariants.{Reserved, OKP, EC2, RSA, Symmetric}
use Rattle.passkey_cose.proofs.KeyFurther.{none_either}

-- ---- names

number_written : {T : Type 0} (number_of : T → ℤ) (named : ℤ → Option T) → NumbersName number_of named → (z : ℤ)
    → named_item number_of (assigned_or_other z (named z)) ≡ number z
number_written {T = T} number_of named law z =
    (elim (named z) as (λ (o : Option T). named z ≡ o → named_item number_of (assigned_or_other z o) ≡ number z) [
      | Some a ↦ λ h. ap number ((law z a).0 h)
      | None ↦ λ h. refl
    ]) refl

pub name_written : {T : Type 0} (number_of : T → ℤ) (named : ℤ → Option T) → NumbersName number_of named
    → (i : Item) → name_fault i ≡ None → option_map (named_item number_of) (name_in named i) ≡ Some i
name_written number_of named law (number z) e =
    (elim (is_signed_64 z) as (λ (b : Bool). (if b then None else Some OutOfRangeIntegerValue) ≡ None → option_map
    (named_item number_of) (if b then Some (assigned_or_other z (named z)) else None) ≡ Some (number z)) [
      | true ↦ λ h. ap Some (number_written number_of named law z)
      | false ↦ λ h. cc
    ]) e
name_written number_of named law (text_string s) e = refl
name_written number_of named law i e = cc

-- the value, if present, is good under the label n
abbrev pub GoodUnder : ℕ → Option Item → Type 0
GoodUnder n None = Unit {0}
GoodUnder n (Some i) = value_fault (number (pos n)) i ≡ None

abbrev pub IsGoodName : Option Item → Type 0
IsGoodName None = Unit {0}
IsGoodName (Some i) = name_fault i ≡ None

abbrev pub IsGoodString : Option Item → Type 0
IsGoodString None = Unit {0}
IsGoodString (Some i) = bytes_fault i ≡ None

abbrev pub AreGoodOps : Option Item → Type 0
AreGoodOps None = Unit {0}
AreGoodOps (Some i) = ops_fault i ≡ None

pub names_written : {T : Type 0} (number_of : T → ℤ) (named : ℤ → Option T) → NumbersName number_of named
    → (o : Option Item) → IsGoodName o → option_map (named_item number_of) (option_and_then (name_in named) o) ≡ o
names_written number_of named law None e = refl
names_written number_of named law (Some i) e = name_written number_of named law i e

-- ---- strings

bytes_written : (i : Item) → bytes_fault i ≡ None → option_map byte_string (bytes_in i) ≡ Some i
bytes_written (byte_string s) e = refl
bytes_written i e = cc

pub strings_written : (o : Option Item) → IsGoodString o → option_map byte_string (option_and_then bytes_in o) ≡ o
strings_written None e = refl
strings_written (Some i) e = bytes_written i e

-- ---- operations

op_written : (op : Item) (names : List (Named KeyOperation)) (ops : List Item) → name_fault op ≡ None
    → map op_item names ≡ ops → map op_item (cons_option (name_in key_operation_named op) names) ≡ op ∷ ops
op_written op names ops e h =
    let written : option_map op_item (name_in key_operation_named op) ≡ Some op =
    name_written key_operation_number key_operation_named key_operation_named-number op e in
    (elim (name_in key_operation_named op) as (λ (o : Option (Named KeyOperation)). option_map op_item o ≡ Some op
    → map op_item (cons_option o names) ≡ op ∷ ops) [
      | Some n ↦ λ w. (let same : op_item n ≡ op = cc in cc)
      | None ↦ λ w. cc
    ]) written

ops_written : (earlier ops : List Item) → first_op_fault earlier ops ≡ None
    → map op_item (filter_map (name_in key_operation_named) ops) ≡ ops
ops_written earlier [] e = refl
ops_written earlier (op ∷ ops) e =
    let parts = none_either (op_fault earlier op) (first_op_fault (earlier ++ op ∷ []) ops) e in
    let name = none_either (name_fault op) _ parts.0 in
    op_written op (filter_map (name_in key_operation_named) ops) ops name.0
    (ops_written (earlier ++ op ∷ []) ops parts.1)

ops_item-some : (names : List (Named KeyOperation)) (op : Item) (ops : List Item) → map op_item names ≡ op ∷ ops
    → ops_item names ≡ Some (array (items_of (op ∷ ops)))
ops_item-some [] op ops e = cc
ops_item-some (n ∷ ns) op ops e = ap (λ (xs : List Item). Some (array (items_of xs))) e

array_written : (i : Item) → ops_fault i ≡ None → ops_item (ops_in i) ≡ Some i
array_written (array no_items) e = cc
array_written (array (item x xs)) e =
    ops_item-some (ops_in (array (item x xs))) x (elements xs) (ops_written [] (x ∷ elements xs) e)
    ∙ ap (λ xs. Some (array xs)) (items_of-elements (item x xs))
array_written i e = cc

pub all_ops_written : (o : Option Item) → AreGoodOps o → ops_item (unwrap_or (option_map ops_in o) []) ≡ o
all_ops_written None e = refl
all_ops_written (Some i) e = array_written i e

some_names : (names : List (Named KeyOperation)) (i : Item) → ops_item names ≡ Some i → 0 < length names
some_names [] i e = cc
some_names (n ∷ ns) i e = omega arith

pub some_ops : (o : Option Item) → AreGoodOps o → IsSome o → 0 < length (unwrap_or (option_map ops_in o) [])
some_ops None e some = cc
some_ops (Some i) e some = some_names (ops_in i) i (array_written i e)

-- ---- the type

pub key_type_is : (o : Option (Named KeyType)) (kty : Named KeyType) → key_type o ≡ Ok kty → o ≡ Some kty
key_type_is None kty e = cc
key_type_is (Some (assigned Reserved)) kty e = cc
key_type_is (Some (assigned OKP)) kty e = cc
key_type_is (Some (assigned EC2)) kty e = cc
key_type_is (Some (assigned RSA)) kty e = cc
key_type_is (Some (assigned Symmetric)) kty e = cc
key_type_is (Some (other z)) kty e = cc
key_type_is (Some (text s)) kty e = cc

-- ---- the value under a label

no_fault : (b : Bool) (e : CoseError) (fault : Option CoseError) → (if b then Some e else fault) ≡ None
    → fault ≡ None
no_fault true e fault h = cc
no_fault false e fault h = h

value_good : (earlier : Members) (m : Item × Item) → member_fault earlier m ≡ None → value_fault m.0 m.1 ≡ None
value_good earlier m e =
    no_fault (has_label earlier m.0) DuplicateMapKey (value_fault m.0 m.1) (none_either (name_fault m.0)
    (if has_label earlier m.0 then Some DuplicateMapKey else value_fault m.0 m.1) e).1

pub under_good : (n : ℕ) (earlier ms : Members) → first_fault earlier ms ≡ None → GoodUnder n (under n ms)
under_good n earlier [] e = tt
under_good n earlier (m ∷ ms) e =
    let parts = none_either (member_fault earlier m) (first_fault (earlier ++ m ∷ []) ms) e in
    (elim (is_label n m.0) as (λ (b : Bool). is_label n m.0 ≡ b → GoodUnder n (option_map (λ (p : Item × Item). p.1)
    (if b then Some m else find (λ (p : Item × Item). is_label n p.0) ms))) [
      | true ↦ λ h. subst (λ (l : Item). value_fault l m.1 ≡ None) ((item_Decides m.0 (number (pos n))).0 h)
          (value_good earlier m parts.0)
      | false ↦ λ h. under_good n (earlier ++ m ∷ []) ms parts.1
    ]) refl
