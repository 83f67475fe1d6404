-- `parts_eq` decides whether two keys are equal: proofs that the impls of PartialEq and Eq cite.
use Rattle.std.specs.Bool.{Decides}
use Rattle.std.specs.Cmp.{IsEquivalence, decided}
use Rattle.std.specs.Cmp.Lexicographic.{pointwise}
use Rattle.std.specs.Option.{option_eq}
use Rattle.std.specs.Str.{bytes_eq}
use Rattle.std.proofs.Common.{◌≡◌, ◌&&◌, Bool, true, Some, None, refl, sym, ap, subst}
use Rattle.std.proofs.lemmas.Bool.{true≢false, and_parts, and_from}
use Rattle.std.proofs.lemmas.Slice.Eq.{bytes_eq-Decides, slice_eq-Decides}
use Rattle.passkey_cbor.specs.Item.{Item}
use Rattle.passkey_cbor.specs.Same.{item_eq}
use Rattle.passkey_cbor.specs.SameItems.{item_Decides}
use Rattle.passkey_iana.specs.Iana.{algorithm_number, key_type_number, key_operation_number}
use Rattle.passkey_iana.specs.IanaLaws.{algorithm_named-number, key_type_named-number, key_operation_named-number}
use Rattle.passkey_cose.specs.KeyParts.{KeyParts}
use Rattle.passkey_cose.specs.KeySame.{member_eq, strings_eq, names_eq, parts_eq}
use Rattle.passkey_cose.specs.Registered.{named_eq}
use Rattle.passkey_cose.specs.RegisteredSame.{named_Decides}

-- the test decides whether two values of the type are equal
abbrev pub DecidesAll : {T : Type 0} → (T → T → Bool) → Type 0
DecidesAll {T = T} E = (x y : T) → Decides (E x y) (x ≡ y)

pub option_decides : {T : Type 0} (E : T → T → Bool) → DecidesAll E → DecidesAll (option_eq E)
option_decides E each None None = (λ e. refl, λ e. refl)
option_decides E each None (Some y) = (λ e. absurd (true≢false (sym e)), λ e. cc)
option_decides E each (Some x) None = (λ e. absurd (true≢false (sym e)), λ e. cc)
option_decides E each (Some x) (Some y) =
    (λ e. ap Some ((each x y).0 e), λ e. (each x y).1 (let same : x ≡ y = cc in same))

list_decides : {T : Type 0} (E : T → T → Bool) → DecidesAll E → DecidesAll (pointwise E)
list_decides E each xs ys = slice_eq-Decides each xs ys (pointwise E xs ys) refl

strings_decide : DecidesAll (option_eq bytes_eq)
strings_decide = option_decides bytes_eq bytes_eq-Decides

types_decide : DecidesAll (named_eq key_type_number)
types_decide = named_Decides key_type_named-number

algs_decide : DecidesAll (option_eq (named_eq algorithm_number))
algs_decide = option_decides (named_eq algorithm_number) (named_Decides algorithm_named-number)

ops_decide : DecidesAll (pointwise (named_eq key_operation_number))
ops_decide = list_decides (named_eq key_operation_number) (named_Decides key_operation_named-number)

member_same : (m n : Item × Item) → member_eq m n ≡ true → m ≡ n
member_same m n e =
    let parts = and_parts (item_eq m.0 n.0) (item_eq m.1 n.1) e in
    let labels = (item_Decides m.0 n.0).0 parts.0 in
    let values = (item_Decides m.1 n.1).0 parts.1 in
    λ i. (labels i, values i)

member_own : (m : Item × Item) → member_eq m m ≡ true
member_own m =
    and_from (item_eq m.0 m.0) (item_eq m.1 m.1) ((item_Decides m.0 m.0).1 refl) ((item_Decides m.1 m.1).1 refl)

members_decide : DecidesAll (pointwise member_eq)
members_decide = list_decides member_eq
    (λ m n. (member_same m n, λ e. subst (λ (o : Item × Item). member_eq m o ≡ true) e (member_own m)))

parts_same : (k l : KeyParts) → parts_eq k l ≡ true → k ≡ l
parts_same k l e =
    let all = and_parts (strings_eq k l && names_eq k l) (pointwise member_eq k.params l.params) e in
    let front = and_parts (strings_eq k l) (names_eq k l) all.0 in
    let strings =
    and_parts (option_eq bytes_eq k.key_id l.key_id) (option_eq bytes_eq k.base_iv l.base_iv) front.0 in
    let names = and_parts (named_eq key_type_number k.kty l.kty && option_eq (named_eq algorithm_number) k.alg
    l.alg) (pointwise (named_eq key_operation_number) k.key_ops l.key_ops) front.1 in
    let named = and_parts (named_eq key_type_number k.kty l.kty) (option_eq (named_eq algorithm_number) k.alg l.alg)
    names.0 in
    let key_id = (strings_decide k.key_id l.key_id).0 strings.0 in
    let base_iv = (strings_decide k.base_iv l.base_iv).0 strings.1 in
    let kty = (types_decide k.kty l.kty).0 named.0 in
    let alg = (algs_decide k.alg l.alg).0 named.1 in
    let key_ops = (ops_decide k.key_ops l.key_ops).0 names.1 in
    let params = (members_decide k.params l.params).0 all.1 in
    λ i. record {
      kty = kty i;
      key_id = key_id i;
      alg = alg i;
      key_ops = key_ops i;
      base_iv = base_iv i;
      params = params i;
    }

parts_own : (k : KeyParts) → parts_eq k k ≡ true
parts_own k =
    let strings = and_from (option_eq bytes_eq k.key_id k.key_id) (option_eq bytes_eq k.base_iv k.base_iv)
    ((strings_decide k.key_id k.key_id).1 refl) ((strings_decide k.base_iv k.base_iv).1 refl) in
    let named = and_from (named_eq key_type_number k.kty k.kty) (option_eq (named_eq algorithm_number) k.alg k.alg)
    ((types_decide k.kty k.kty).1 refl) ((algs_decide k.alg k.alg).1 refl) in
    let names = and_from (named_eq key_type_number k.kty k.kty && option_eq (named_eq algorithm_number) k.alg k.alg)
    (pointwise (named_eq key_operation_number) k.key_ops k.key_ops) named
    ((ops_decide k.key_ops k.key_ops).1 refl) in
    and_from (strings_eq k k && names_eq k k) (pointwise member_eq k.params k.params)
    (and_from (strings_eq k k) (names_eq k k) strings names) ((members_decide k.params k.params).1 refl)

pub parts_Decides : (k l : KeyParts) → Decides (parts_eq k l) (k ≡ l)
parts_Decides k l = (parts_same k l, λ e. subst (λ (o : KeyParts). parts_eq k o ≡ true) e (parts_own k))

pub parts_eq-equivalence : IsEquivalence parts_eq
parts_eq-equivalence = decided parts_eq parts_Decides
