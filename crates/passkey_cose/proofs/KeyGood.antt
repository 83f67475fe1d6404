-- If no written member of a key is bad, none is after a part of it changes.
use Rattle.std.specs.List.{list_any}
use Rattle.std.proofs.Common.{◌≡◌, ◌∙◌, ◌<◌, arith, length, ℕ, true, false, ◌||◌, List, [], ◌∷◌, ◌++◌, map, Some, None, option_map, refl, sym, ap, subst}
use Rattle.std.proofs.lemmas.Bool.{or_parts, or_from}
use Rattle.std.proofs.lemmas.List.{append-nil, append_assoc}
use Rattle.std.proofs.lemmas.List.Folds.{list_any-append}
use Rattle.passkey_cbor.specs.Item.{Item, byte_string}
use Rattle.passkey_cbor.specs.Same.{item_eq}
use Rattle.passkey_iana.specs.Iana.{algorithm_number, key_type_number}
use Rattle.passkey_cose.specs.KeyFaults.{name_fault, string_fault, first_op_fault, member_fault, first_fault}
use Rattle.passkey_cose.specs.KeyLabels.{Members, is_common, has_label, are_separate}
use Rattle.passkey_cose.specs.KeyNames.{AreNames}
use Rattle.passkey_cose.specs.KeyNormal.{IsKey}
use Rattle.passkey_cose.specs.KeyParts.{KeyParts, member, op_item, ops_item, key_members}
use Rattle.passkey_cose.specs.KeyReading.{under, further}
use Rattle.passkey_cose.specs.KeyWith.{has_repeat}
use Rattle.passkey_cose.specs.Registered.{Named, named_item}
use Rattle.passkey_iana.specs.declared.algorithm.Algorithm.{Algorithm}
use Rattle.passkey_iana.specs.declared.key_operation.KeyOperation.{KeyOperation}
use Rattle.passkey_cose.proofs.KeyFurther.{none_either}
use Rattle.passkey_cose.proofs.KeyHeld.{IsGoodName, IsGoodString, AreGoodOps, under_good}
use Rattle.passkey_cose.proofs.KeyLists.{ops_fault-array}
use Rattle.passkey_cose.proofs.KeyMembers.{further_own, members_of, members_sorted}
use Rattle.passkey_cose.proofs.KeySeparate.{unequal_flip}
use Rattle.passkey_cose.proofs.KeySorted.{sorted, under_1, under_2, under_3, under_4, under_5, further_sorted, sorted_good, uncommon, uncommon_value, has_label-split, has_label-member}

-- ---- the common parameters

record AreGood (k : KeyParts) : Type 0 where
  pub kty : IsGoodName (Some (named_item key_type_number k.kty))
  pub key_id : IsGoodString (option_map byte_string k.key_id)
  pub alg : IsGoodName (option_map (named_item algorithm_number) k.alg)
  pub key_ops : AreGoodOps (ops_item k.key_ops)
  pub base_iv : IsGoodString (option_map byte_string k.base_iv)

parts_good : (k : KeyParts) → IsKey k → AreGood k
unfolding members_of
parts_good k valid =
    let ms = key_members k in
    let a = Some (named_item key_type_number k.kty) in
    let b = option_map byte_string k.key_id in
    let c = option_map (named_item algorithm_number) k.alg in
    let d = ops_item k.key_ops in
    let e = option_map byte_string k.base_iv in
    let same : key_members k ≡ sorted a b c d e k.params = members_sorted k valid.separate in
    record {
      kty = subst IsGoodName (ap (under 1) same ∙ under_1 a b c d e k.params) (under_good 1 [] ms valid.good);
      key_id = subst IsGoodString (ap (under 2) same ∙ under_2 a b c d e k.params) (under_good 2 [] ms valid.good);
      alg = subst IsGoodName (ap (under 3) same ∙ under_3 a b c d e k.params) (under_good 3 [] ms valid.good);
      key_ops = subst AreGoodOps (ap (under 4) same ∙ under_4 a b c d e k.params) (under_good 4 [] ms valid.good);
      base_iv = subst IsGoodString (ap (under 5) same ∙ under_5 a b c d e k.params) (under_good 5 [] ms valid.good);
    }

further_of : (k : KeyParts) → are_separate k.params ≡ true → further (key_members k) ≡ k.params
unfolding members_of
further_of k separate =
    ap further (members_sorted k separate) ∙ further_sorted (Some (named_item key_type_number k.kty))
    (option_map byte_string k.key_id) (option_map (named_item algorithm_number) k.alg) (ops_item k.key_ops)
    (option_map byte_string k.base_iv) k.params ∙ further_own k.params separate

-- if the other parameters are unchanged and the common ones are good, no member is bad
good_again : (k l : KeyParts) → IsKey k → l.params ≡ k.params → AreGood l → first_fault [] (key_members l) ≡ None
unfolding members_of
good_again k l valid params good =
    let ms = key_members k in
    let a = Some (named_item key_type_number l.kty) in
    let b = option_map byte_string l.key_id in
    let c = option_map (named_item algorithm_number) l.alg in
    let d = ops_item l.key_ops in
    let e = option_map byte_string l.base_iv in
    let own : further ms ≡ k.params = further_of k valid.separate in
    let separate : are_separate (further ms) ≡ true = ap are_separate own ∙ valid.separate in
    let all : first_fault [] (sorted a b c d e ms) ≡ None =
    sorted_good a b c d e ms good.kty good.key_id good.alg good.key_ops good.base_iv valid.good separate in
    let kept : are_separate l.params ≡ true = ap are_separate params ∙ valid.separate in
    let others : further l.params ≡ further ms = further_own l.params kept ∙ params ∙ sym own in
    let same : key_members l ≡ sorted a b c d e ms = members_sorted l kept ∙ ap (λ (ps : Members). member 1 a
    ++ (member 2 b ++ (member 3 c ++ (member 4 d ++ (member 5 e ++ ps))))) others in
    ap (first_fault []) same ∙ all

pub good_algorithm : (k : KeyParts) (alg : Named Algorithm) → IsKey k → name_fault (named_item algorithm_number alg)
    ≡ None → first_fault [] (key_members (record k { alg = Some alg })) ≡ None
good_algorithm k alg valid good =
    let g = parts_good k valid in
    good_again k (record k { alg = Some alg }) valid refl
    (record { kty = g.kty; key_id = g.key_id; alg = good; key_ops = g.key_ops; base_iv = g.base_iv })

pub good_name : (k : KeyParts) (id : List ℕ) → IsKey k → string_fault id ≡ None
    → first_fault [] (key_members (record k { key_id = Some id })) ≡ None
good_name k id valid good =
    let g = parts_good k valid in
    good_again k (record k { key_id = Some id }) valid refl
    (record { kty = g.kty; key_id = good; alg = g.alg; key_ops = g.key_ops; base_iv = g.base_iv })

pub good_iv : (k : KeyParts) (iv : List ℕ) → IsKey k → string_fault iv ≡ None
    → first_fault [] (key_members (record k { base_iv = Some iv })) ≡ None
good_iv k iv valid good =
    let g = parts_good k valid in
    good_again k (record k { base_iv = Some iv }) valid refl
    (record { kty = g.kty; key_id = g.key_id; alg = g.alg; key_ops = g.key_ops; base_iv = good })

-- ---- operations

-- each is a name, and doesn't occur before
abbrev AreFresh : List Item → List Item → Type 0
AreFresh earlier [] = Unit {0}
AreFresh earlier (x ∷ xs) = (name_fault x ≡ None) × (list_any (item_eq x) earlier ≡ false) × AreFresh earlier xs

fresh : (xs : List Item) → AreNames xs → AreFresh [] xs
fresh [] names = tt
fresh (x ∷ xs) names = (names.0, refl, fresh xs names.1)

any_push : (earlier : List Item) (x y : Item) → list_any (item_eq y) earlier ≡ false → item_eq y x ≡ false
    → list_any (item_eq y) (earlier ++ x ∷ []) ≡ false
any_push earlier x y old new =
    list_any-append (item_eq y) earlier (x ∷ [])
    ∙ or_from (list_any (item_eq y) earlier) (item_eq y x || false) old (or_from (item_eq y x) false new refl)

still_fresh : (earlier : List Item) (x : Item) (xs : List Item) → list_any (item_eq x) xs ≡ false
    → AreFresh earlier xs → AreFresh (earlier ++ x ∷ []) xs
still_fresh earlier x [] e h = tt
still_fresh earlier x (y ∷ ys) e h =
    let parts = or_parts (item_eq x y) (list_any (item_eq x) ys) e in
    (h.0, any_push earlier x y h.1 (unequal_flip x y parts.0), still_fresh earlier x ys parts.1 h.2)

fresh_good : (earlier xs : List Item) → has_repeat xs ≡ false → AreFresh earlier xs
    → first_op_fault earlier xs ≡ None
fresh_good earlier [] e h = refl
fresh_good earlier (x ∷ xs) e h =
    let parts = or_parts (list_any (item_eq x) xs) (has_repeat xs) e in
    let rest = fresh_good (earlier ++ x ∷ []) xs parts.1 (still_fresh earlier x xs parts.0 h.2) in
    rw (h.0, h.1) rest

ops_good : (os : List (Named KeyOperation)) → AreNames (map op_item os) → has_repeat (map op_item os) ≡ false
    → AreGoodOps (ops_item os)
ops_good [] names e = tt
ops_good (o ∷ os) names e =
    let some : 0 < length (map op_item (o ∷ os)) = omega arith in
    ops_fault-array (map op_item (o ∷ os)) some
    ∙ fresh_good [] (map op_item (o ∷ os)) e (fresh (map op_item (o ∷ os)) names)

pub good_ops : (k : KeyParts) (os : List (Named KeyOperation)) → IsKey k → AreNames (map op_item os)
    → has_repeat (map op_item os) ≡ false → first_fault [] (key_members (record k { key_ops = os })) ≡ None
good_ops k os valid names e =
    let g = parts_good k valid in
    good_again k (record k { key_ops = os }) valid refl
    (record { kty = g.kty; key_id = g.key_id; alg = g.alg; key_ops = ops_good os names e; base_iv = g.base_iv })

-- ---- one more parameter

first_push : (earlier ms : Members) (m : Item × Item) → first_fault earlier ms ≡ None
    → member_fault (earlier ++ ms) m ≡ None → first_fault earlier (ms ++ m ∷ []) ≡ None
first_push earlier [] m e h =
    let here : member_fault earlier m ≡ None = rw append-nil at h in
    rw here refl
first_push earlier (n ∷ ns) m e h =
    let parts = none_either (member_fault earlier n) (first_fault (earlier ++ n ∷ []) ns) e in
    let moved : (earlier ++ n ∷ []) ++ ns ≡ earlier ++ n ∷ ns = simp append_assoc in
    let rest = first_push (earlier ++ n ∷ []) ns m parts.1 (ap (λ (es : Members). member_fault es m) moved ∙ h) in
    rw parts.0 rest

label_new : (k : KeyParts) (label : Item) → is_common label ≡ false → has_label k.params label ≡ false
    → has_label (key_members k) label ≡ false
label_new k label common new =
    let u = uncommon label common in
    let a = member 1 (Some (named_item key_type_number k.kty)) in
    let b = member 2 (option_map byte_string k.key_id) in
    let c = member 3 (option_map (named_item algorithm_number) k.alg) in
    let d = member 4 (ops_item k.key_ops) in
    let e = member 5 (option_map byte_string k.base_iv) in
    has_label-split (a ++ b ++ c ++ d ++ e) k.params label
    (has_label-split (a ++ b ++ c ++ d) e label
    (has_label-split (a ++ b ++ c) d label
    (has_label-split (a ++ b) c label
    (has_label-split a b label (has_label-member 1 (Some (named_item key_type_number k.kty)) label u.not_1)
    (has_label-member 2 (option_map byte_string k.key_id) label u.not_2))
    (has_label-member 3 (option_map (named_item algorithm_number) k.alg) label u.not_3))
    (has_label-member 4 (ops_item k.key_ops) label u.not_4))
    (has_label-member 5 (option_map byte_string k.base_iv) label u.not_5))
    new

pub good_push : (k : KeyParts) (m : Item × Item) → IsKey k → name_fault m.0 ≡ None → is_common m.0 ≡ false
    → has_label k.params m.0 ≡ false
    → first_fault [] (key_members (record k { params = k.params ++ m ∷ [] })) ≡ None
good_push k m valid name common new =
    let flat : key_members (record k { params = k.params ++ m ∷ [] }) ≡ key_members k ++ m ∷ [] =
    simp append_assoc in
    let good : member_fault (key_members k) m ≡ None =
    rw (name, label_new k m.0 common new, uncommon_value m.0 m.1 (uncommon m.0 common)) refl in
    ap (first_fault []) flat ∙ first_push [] (key_members k) m valid.good good
