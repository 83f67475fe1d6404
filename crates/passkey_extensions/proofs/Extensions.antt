-- Records of extensions: they can be decoded again, have few levels, and their keys ascend.
use Rattle.passkey_kinds.proofs.Common.{Item, ReadIsCoherent, record_kind, places_of}
use Rattle.passkey_kinds.proofs.Steps.{Kind, Around, OnlyAt, item_around, around, required_keeps, optional_keeps, tolerated_keeps, decoded_few, canonical_around, number_tree, ℕ, suc, ◌≤◌, arith, Option, Some, None, refl, depth, shortest_head, EachFits, IsReadBack, IsLawful, lawful, raised, truth_back, or_null_back, or_null_same, optional_place, map_back, map_values_same, IsPlain, plainly, null_plain, map_plain, numbers_plain, puts_value, puts_default, kind_back, ◌▸◌, no_more, numbers_back, result_ok, ◌≡◌, Ok, ap, byte_back, bytes_back, kept_back, anything, tolerated_place, rows_back, ◌<◌, codes, option_map, text_string, zero, nat_lt, nat_le, min, ◌^◌, ◌-◌, OnlyDeep, only_deep, AtMostOneLeadingItem, WrittenIsLeadingItem, WrittenIsCanonical, KeysAscend, keys_ascend}
use Rattle.std.proofs.Common.{leb-true}
use Rattle.passkey_extensions.specs.GetExtensions.{get_extensions_parts, get_extensions_tree, GetExtensionsFit, get_extensions_fields, get_extensions_members, get_extensions_kept}
use Rattle.passkey_extensions.specs.HmacInput.{HmacInputParts, read_hmac_input, hmac_input_tree, HmacInputFits, hmac_input_fields, hmac_input_members, is_hmac_input_coherent, hmac_input_kept}
use Rattle.passkey_extensions.specs.MakeExtensions.{make_extensions_parts, make_extensions_tree, MakeExtensionsFit, make_extensions_fields, make_extensions_members, make_extensions_kept}
use Rattle.passkey_extensions.specs.Prf.{prf_values, prf_inputs, make_credential_prf, get_assertion_prf, unsigned, normal_unsigned}
use Rattle.passkey_kinds.specs.Coded.{byte_map, plain}
use Rattle.passkey_kinds.specs.Placed.{PlainTable, plain_kind, plain_tree}
use Rattle.passkey_kinds.specs.Tree.{option_tree}

-- ---- inputs and outputs of the extension prf can be decoded again, have few levels, and their keys ascend

pub values_law : IsLawful 1 prf_values
unfolding shortest_head
values_law =
    lawful 1 prf_values (λ v. refl) (λ v. refl) (λ v. refl) (λ k v. search (plainly, numbers_plain k)) (λ v fits.
    puts_value (numbers_back 32) v.first (search) ▸
    puts_default (optional_place (numbers_back 32) refl v.second (search)) refl ▸
    no_more)

values_map_back : IsReadBack (byte_map (plain prf_values)).typed.of (byte_map (plain prf_values)).tree
    (byte_map (plain prf_values)).Fits (λ m. m)
values_map_back = grind (arith, map_back, values_law, map_values_same)

pub inputs_law : IsLawful 3 prf_inputs
unfolding shortest_head
inputs_law = lawful 3 prf_inputs (λ i. refl) (λ i. refl) (λ i. refl)
    (λ k i. search (plainly, values_law.plain (suc k), values_law.plain k, map_plain (suc (suc k)))) (λ i fits.
    puts_default (optional_place values_law.back refl i.eval (search)) refl ▸
    puts_default (optional_place values_map_back refl i.eval_by_credential (search)) refl ▸
    no_more)

-- ---- outputs

pub make_credential_prf_law : IsLawful 2 make_credential_prf
unfolding shortest_head
make_credential_prf_law =
    lawful 2 make_credential_prf (λ o. refl) (λ o. refl) (λ o. refl) (λ k o. search (plainly, values_law.plain k)) (λ o fits.
    puts_value truth_back o.enabled (search) ▸
    puts_default (optional_place values_law.back refl o.results (search)) refl ▸
    no_more)

pub get_assertion_prf_law : IsLawful 2 get_assertion_prf
unfolding shortest_head
get_assertion_prf_law =
    lawful 2 get_assertion_prf (λ o. refl) (λ o. refl) (λ o. refl) (λ k o. search (plainly, values_law.plain k)) (λ o fits.
    puts_value values_law.back o.results (search) ▸
    no_more)

-- ---- unsigned outputs

module _ {P : Type 0} (t : PlainTable P) where
  pub unsigned_back : {normal : P → P} → IsReadBack (plain_kind t) (plain_tree t) (EachFits t.members) normal
      → IsReadBack (plain_kind (unsigned t)) (plain_tree (unsigned t)) (EachFits (unsigned t).members)
      (normal_unsigned normal)
  unsigned_back {normal} law = grind (arith, kind_back, puts_value, or_null_back, no_more)

  pub unsigned_keys : KeysAscend (places_of (unsigned t).members)
  unfolding shortest_head
  unsigned_keys o = keys_ascend (places_of (unsigned t).members o) refl

  or_null_plain : (n : ℕ) → ((r : P) → IsPlain n (plain_tree t r)) → (o : Option P)
      → IsPlain n (option_tree (plain_tree t) o)
  or_null_plain n each None = null_plain n
  or_null_plain n each (Some r) = each r

  unsigned_law : {n : ℕ} → IsLawful n t → IsLawful (suc n) (unsigned t)
  unfolding shortest_head
  unsigned_law {n} law = lawful (suc n) (unsigned t) (λ o. refl) (λ o. refl) (λ o. refl)
      (λ k o. search (plainly, or_null_plain (suc (raised n k)) (law.plain k))) (λ o fits.
      puts_value (or_null_same law.back refl) o.prf fits.0 ▸
      no_more)

pub make_credential_unsigned_law : IsLawful 3 (unsigned make_credential_prf)
make_credential_unsigned_law = unsigned_law make_credential_prf make_credential_prf_law

pub get_assertion_unsigned_law : IsLawful 3 (unsigned get_assertion_prf)
get_assertion_unsigned_law = unsigned_law get_assertion_prf get_assertion_prf_law

-- ---- the encodings of the extensions' records can be decoded again

-- the same for the view of a value
pub seen_back : {A P M : Type 0} {kind : Kind M} {tree : P → Item} {Fits : P → Type 0} {normal : P → M}
    → (seen : A → P) → IsReadBack kind tree Fits normal
    → IsReadBack kind (λ x. tree (seen x)) (λ x. Fits (seen x)) (λ x. normal (seen x))
seen_back seen r = record { back = λ x h. r.back (seen x) h }

pub hmac_message_back : (h : HmacInputParts) → HmacInputFits h → read_hmac_input (hmac_input_tree h) ≡ Ok h
hmac_message_back h fits = grind (arith, rows_back, puts_value, kept_back, bytes_back, puts_default, optional_place, byte_back, no_more)

pub hmac_parts_back : IsReadBack (record_kind hmac_input_fields) hmac_input_tree HmacInputFits (λ h. h)
hmac_parts_back = record { back = λ h fits. ap result_ok (hmac_message_back h fits) }

pub make_parts_back : IsReadBack (record_kind make_extensions_fields) make_extensions_tree MakeExtensionsFit (λ e. e)
make_parts_back = grind (arith, kind_back, puts_default, optional_place, inputs_law, truth_back, anything, hmac_parts_back, no_more)

pub make_extensions_back : IsReadBack (record_kind make_extensions_fields)
    (λ e. make_extensions_tree (make_extensions_parts e)) (λ e. MakeExtensionsFit (make_extensions_parts e))
    make_extensions_parts
make_extensions_back = seen_back make_extensions_parts make_parts_back

pub get_parts_back : IsReadBack (record_kind get_extensions_fields) get_extensions_tree GetExtensionsFit (λ e. e)
get_parts_back = grind (arith, kind_back, puts_default, tolerated_place, inputs_law, hmac_parts_back, no_more)

pub get_extensions_back : IsReadBack (record_kind get_extensions_fields)
    (λ e. get_extensions_tree (get_extensions_parts e)) (λ e. GetExtensionsFit (get_extensions_parts e))
    get_extensions_parts
get_extensions_back = seen_back get_extensions_parts get_parts_back

-- ---- the key that an input of hmac-secret keeps: what is encoded around it

hmac_input_only : OnlyAt 0 (places_of hmac_input_members) (number_tree 1) (λ h. Some h.key_agreement)
unfolding shortest_head
hmac_input_only = record {
  keyed = search plainly;
  ascends = λ h. refl;
  each = λ Q rule h key. search (rule.holds, plainly) depth 9;
  this = λ Q h each. each.0;
}

pub hmac_input_around : Around (record_kind hmac_input_fields) hmac_input_tree hmac_input_kept 1 1
hmac_input_around = around item_around hmac_input_fields (λ h. Some h.key_agreement) hmac_input_only
    (λ n. (omega arith, tt)) (λ n i few. search (required_keeps item_around) depth 9)

pub make_extensions_only : OnlyAt 4 (places_of make_extensions_members) (text_string (codes "hmac-secret-mc"))
    (λ e. option_map hmac_input_tree e.hmac_secret_mc)
unfolding shortest_head
make_extensions_only = record {
  keyed = search plainly;
  ascends = λ e. refl;
  each = λ Q rule e salts. search (rule.holds, plainly, inputs_law.plain 0) depth 9;
  this = λ Q e each. each.1.1.0;
}

pub make_extensions_around : Around (record_kind make_extensions_fields) make_extensions_tree make_extensions_kept 2 5
make_extensions_around = around hmac_input_around make_extensions_fields (λ e. e.hmac_secret_mc)
    make_extensions_only (λ n. tt) (λ n i few. search (optional_keeps hmac_input_around) depth 9)

pub get_extensions_only : OnlyAt 4 (places_of get_extensions_members) (text_string (codes "hmac-secret"))
    (λ e. option_map hmac_input_tree e.hmac_secret)
unfolding shortest_head
get_extensions_only = record {
  keyed = search plainly;
  ascends = λ e. refl;
  each = λ Q rule e salts. search (rule.holds, plainly, inputs_law.plain 0) depth 9;
  this = λ Q e each. each.1.0;
}

pub get_extensions_around : Around (record_kind get_extensions_fields) get_extensions_tree get_extensions_kept 2 5
get_extensions_around = around hmac_input_around get_extensions_fields (λ e. e.hmac_secret) get_extensions_only
    (λ n. tt) (λ n i few. search (tolerated_keeps hmac_input_around) depth 9)

-- ---- keys ascend

pub hmac_input_keys : KeysAscend (places_of hmac_input_members)
hmac_input_keys h = keys_ascend (places_of hmac_input_members h) (hmac_input_only.ascends h)

pub make_extensions_keys : KeysAscend (places_of make_extensions_members)
make_extensions_keys e = keys_ascend (places_of make_extensions_members e) (make_extensions_only.ascends e)

pub get_extensions_keys : KeysAscend (places_of get_extensions_members)
get_extensions_keys e = keys_ascend (places_of get_extensions_members e) (get_extensions_only.ascends e)

-- ---- nesting levels: those of the key, and a few around it

input_up : (h : HmacInputParts) (n : ℕ) → depth h.key_agreement < n → depth (hmac_input_tree h) ≤ n
input_up h zero less = absurd (omega arith)
input_up h (suc n) less = omega (arith, hmac_input_around.levels n h (omega arith) (omega arith, tt))

input_down : (h : HmacInputParts) (n : ℕ) → depth (hmac_input_tree h) ≤ n → depth h.key_agreement < n
input_down h zero within = absurd (omega (arith, within))
input_down h (suc n) within = omega (arith, (hmac_input_around.within n h (omega (arith, within))).0)

-- a key has one level less than the input that contains it
pub input_within : (h : HmacInputParts) (n : ℕ) → n < 2 ^ 64
    → nat_lt (min (depth h.key_agreement) (2 ^ 64 - 1)) n ≡ nat_le (depth (hmac_input_tree h)) n
input_within h n small = grind (arith, input_up, input_down)

pub make_credential_levels : OnlyDeep (places_of make_extensions_members) hmac_input_tree (λ e. e.hmac_secret_mc) 254
make_credential_levels = only_deep 254 (omega arith) make_extensions_only

pub get_assertion_levels : OnlyDeep (places_of get_extensions_members) hmac_input_tree (λ e. e.hmac_secret) 254
get_assertion_levels = only_deep 254 (omega arith) get_extensions_only

-- ---- laws of inputs of the extension hmac-secret

pub hmac_input_coherent : ReadIsCoherent read_hmac_input is_hmac_input_coherent
hmac_input_coherent = decoded_few hmac_input_fields hmac_input_around (omega arith) (omega arith)

pub hmac_input_canonical : AtMostOneLeadingItem → WrittenIsLeadingItem
    → WrittenIsCanonical hmac_input_tree is_hmac_input_coherent hmac_input_kept
hmac_input_canonical one front = canonical_around one front hmac_input_around (λ h coherent. leb-true _ _ coherent)
