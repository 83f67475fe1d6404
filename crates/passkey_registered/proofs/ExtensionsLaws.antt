-- Records of extensions: they can be decoded again, have few levels, and their keys ascend.
use Rattle.passkey_commands.specs.credential_management.CredProtect.{cred_protect_byte, cred_protect_of}
use Rattle.passkey_registered.proofs.Named.{IsNamed, named_law, plain_messages}
use Rattle.passkey_registered.specs.extensions.LargeBlobs.{IsFlat, blob_get_inputs, blob_get_outputs, blob_make_inputs, blob_make_outputs}
use Rattle.passkey_registered.specs.extensions.MakeCredentialInputs.{make_credential_inputs, normal_make_credential_inputs}
use Rattle.passkey_registered.specs.extensions.MakeCredentialOutputs.{make_credential_outputs, normal_make_credential_outputs}
use Rattle.passkey_registered.specs.extensions.Prf.{prf_inputs, prf_outputs, prf_values}
use Rattle.passkey_registered.specs.extensions.GetAssertionInputs.{get_assertion_inputs}
use Rattle.passkey_registered.specs.extensions.GetAssertionOutputs.{get_assertion_outputs}
use Rattle.passkey_registered.specs.extensions.Unsigned.{unsigned_outputs}
use Rattle.passkey_kinds.proofs.Lists.{map_same}
use Rattle.passkey_kinds.proofs.Lawful.{IsLawful, IsLawfulAs, lawful}
use Rattle.passkey_kinds.proofs.Numbered.{code_place, long_back, not_null_around, not_null_back}
use Rattle.passkey_kinds.proofs.Steps.{IsReadBack, None, Option, anything, arith, byte_string, bytes_back, codes, false, length, list_plain, list_same, map_back, map_plain, map_values_same, no_more, optional_keeps, optional_place, plainly, puts_default, puts_value, refl, shortest_head, sized_bytes_from, suc, text_back, truth_back, word_back, ℕ, ◌≡◌, ◌▸◌, List, Some, [], ap, map, option_map}
use Rattle.std.proofs.Common.{◌∷◌}
use Rattle.passkey_kinds.specs.Coded.{byte_map, plain}
use Rattle.passkey_kinds.specs.Numbered.{AreMessages, table_fields}
use Rattle.passkey_kinds.specs.Words.{PlainTable, fields_of, plain_tree, record_cost}
use Rattle.passkey_kinds.proofs.Ordered.{IsPlain}

-- ---- the extension prf

pub sized_string_back : IsReadBack (sized_bytes_from 32) byte_string (λ b. length b ≡ 32) (λ b. b)
sized_string_back = record { back = λ b h. rw h refl }

pub prf_values_law : IsLawful 0 prf_values
unfolding shortest_head
prf_values_law = lawful 0 prf_values (λ v. refl) (λ v. refl) (λ v. refl) (λ k v. search plainly) (λ v fits.
    puts_value sized_string_back v.first (search) ▸
    puts_default (optional_place sized_string_back refl v.second (search)) refl ▸
    no_more)

prf_map_back : IsReadBack (byte_map (plain prf_values)).typed.of (byte_map (plain prf_values)).tree
    (byte_map (plain prf_values)).Fits (λ m. m)
prf_map_back = grind (arith, map_back, prf_values_law, map_values_same)

pub prf_inputs_law : IsLawful 2 prf_inputs
unfolding shortest_head
prf_inputs_law = lawful 2 prf_inputs (λ i. refl) (λ i. refl) (λ i. refl)
    (λ k i. search (plainly, prf_values_law.plain (suc k), prf_values_law.plain k, map_plain (suc k))) (λ i fits.
    puts_default (optional_place prf_values_law.back refl i.eval (search)) refl ▸
    puts_default (optional_place prf_map_back refl i.eval_by_credential (search)) refl ▸
    no_more)

pub prf_outputs_law : IsLawful 1 prf_outputs
unfolding shortest_head
prf_outputs_law =
    lawful 1 prf_outputs (λ r. refl) (λ r. refl) (λ r. refl) (λ k r. search (plainly, prf_values_law.plain k)) (λ r fits.
    puts_default (optional_place truth_back refl r.enabled (anything r.enabled)) refl ▸
    puts_default (optional_place prf_values_law.back refl r.results (search)) refl ▸
    no_more)

-- ---- the extension largeBlob

pub blob_make_inputs_law : IsLawful 0 blob_make_inputs
unfolding shortest_head
blob_make_inputs_law = lawful 0 blob_make_inputs (λ r. refl) (λ r. refl) (λ r. refl) (λ k r. search plainly depth 8) (λ r fits.
    puts_default (optional_place text_back refl r.support (anything r.support)) refl ▸
    no_more)

pub blob_get_inputs_law : IsLawful 0 blob_get_inputs
unfolding shortest_head
blob_get_inputs_law = lawful 0 blob_get_inputs (λ r. refl) (λ r. refl) (λ r. refl) (λ k r. search plainly depth 8) (λ r fits.
    puts_default (optional_place truth_back refl r.read (anything r.read)) refl ▸
    puts_default (optional_place bytes_back refl r.write (anything r.write)) refl ▸
    puts_default (optional_place long_back refl r.original_size (search)) refl ▸
    no_more)

pub blob_make_outputs_law : IsLawful 0 blob_make_outputs
unfolding shortest_head
blob_make_outputs_law = lawful 0 blob_make_outputs (λ r. refl) (λ r. refl) (λ r. refl) (λ k r. search plainly depth 8) (λ r fits.
    puts_default (optional_place truth_back refl r.supported (anything r.supported)) refl ▸
    no_more)

pub blob_get_outputs_law : IsLawful 0 blob_get_outputs
unfolding shortest_head
blob_get_outputs_law = lawful 0 blob_get_outputs (λ r. refl) (λ r. refl) (λ r. refl) (λ k r. search plainly depth 8) (λ r fits.
    puts_default (optional_place bytes_back refl r.blob (anything r.blob)) refl ▸
    puts_default (optional_place truth_back refl r.written (anything r.written)) refl ▸
    puts_default (optional_place long_back refl r.original_size (search)) refl ▸
    no_more)

-- ---- lists of lists

each_list_same : (xs : List (List ℕ)) → map (λ (ys : List ℕ). map (λ (n : ℕ). n) ys) xs ≡ xs
each_list_same [] = refl
each_list_same (ys ∷ xs) = rw (map_same ys, each_list_same xs) refl

-- the view of a list of lists of numbers, if there is one
abbrev pub seen_lists : Option (List (List ℕ)) → Option (List (List ℕ))
seen_lists o = option_map (λ (xs : List (List ℕ)). map (λ (ys : List ℕ). map (λ (n : ℕ). n) ys) xs) o

pub lists_same : (o : Option (List (List ℕ))) → seen_lists o ≡ o
lists_same None = refl
lists_same (Some xs) = ap Some (each_list_same xs)

-- ---- what keeps no data item

pub make_credential_outputs_law : IsLawfulAs normal_make_credential_outputs 2 make_credential_outputs
unfolding shortest_head
make_credential_outputs_law = lawful 2 make_credential_outputs (λ r. refl) (λ r. refl) (λ r. refl)
    (λ k r. search (plainly, list_plain (suc k), list_plain k) depth 12) (λ r fits.
    puts_default (optional_place (list_same (list_same word_back)) refl r.uvm (search)) refl ▸
    puts_default (optional_place truth_back refl r.cred_blob (anything r.cred_blob)) refl ▸
    puts_default (code_place cred_protect_of cred_protect_byte r.cred_protect (search)) refl ▸
    puts_default (optional_place truth_back refl r.hmac_secret (anything r.hmac_secret)) refl ▸
    puts_default (optional_place word_back refl r.min_pin_length (search)) refl ▸
    puts_default (optional_place bytes_back refl r.hmac_secret_mc (anything r.hmac_secret_mc)) refl ▸
    puts_default (optional_place truth_back refl r.pin_complexity_policy (anything r.pin_complexity_policy)) refl ▸
    no_more)

pub make_credential_outputs_messages : AreMessages false make_credential_outputs (λ r. None)
make_credential_outputs_messages = plain_messages 2 make_credential_outputs (omega arith) make_credential_outputs_law

pub get_assertion_outputs_law : IsLawful 2 get_assertion_outputs
unfolding shortest_head
get_assertion_outputs_law = lawful 2 get_assertion_outputs (λ r. refl) (λ r. refl) (λ r. refl)
    (λ k r. search (plainly, list_plain (suc k), list_plain k) depth 12) (λ r fits.
    puts_default (optional_place (list_same (list_same word_back)) refl r.uvm (search)) refl ▸
    puts_default (optional_place bytes_back refl r.cred_blob (anything r.cred_blob)) refl ▸
    puts_default (optional_place bytes_back refl r.hmac_secret (anything r.hmac_secret)) refl ▸
    puts_default (optional_place truth_back refl r.third_party_payment (anything r.third_party_payment)) refl ▸
    no_more)

pub get_assertion_outputs_messages : AreMessages false get_assertion_outputs (λ r. None)
get_assertion_outputs_messages = plain_messages 2 get_assertion_outputs (omega arith) get_assertion_outputs_law

-- records with nothing but leaves
is_flat : {P : Type 0} (t : PlainTable P) → IsLawful 0 t → record_cost (fields_of t) ≡ 4 → IsFlat t
is_flat t law cost = record {
  back = law.back;
  levels = λ r. (law.plain 0 r).levels;
  order = λ r. (law.plain 0 r).order;
  cost = cost;
}

pub blob_make_outputs_flat : IsFlat blob_make_outputs
blob_make_outputs_flat = is_flat blob_make_outputs blob_make_outputs_law refl

pub blob_get_outputs_flat : IsFlat blob_get_outputs
blob_get_outputs_flat = is_flat blob_get_outputs blob_get_outputs_law refl

module _ {L : Type 0} (t : PlainTable L) (flat : IsFlat t) where
  few_levels : (k : ℕ) (r : L) → IsPlain (suc k) (plain_tree t r)
  few_levels k r = record { levels = omega (arith, flat.levels r); order = flat.order r }

  pub unsigned_outputs_law : IsLawful 2 (unsigned_outputs t)
  unfolding shortest_head
  unsigned_outputs_law = lawful 2 (unsigned_outputs t) (λ r. refl) (λ r. refl) (λ r. refl)
      (λ k r. search (plainly, prf_outputs_law.plain k, few_levels (suc k)) depth 12) (λ r fits.
      puts_default (optional_place prf_outputs_law.back refl r.prf (search)) refl ▸
      puts_default (optional_place flat.back refl r.large_blob (search)) refl ▸
      no_more)

  pub unsigned_outputs_messages : AreMessages false (unsigned_outputs t) (λ r. None)
  unsigned_outputs_messages = plain_messages 2 (unsigned_outputs t) (omega arith) unsigned_outputs_law

  pub unsigned_outputs_cost : suc (record_cost (table_fields false (unsigned_outputs t))) ≡ 7
  unsigned_outputs_cost = rw flat.cost refl

-- ---- inputs, which keep the salts of hmac-secret

pub make_credential_inputs_law : IsNamed normal_make_credential_inputs make_credential_inputs (λ r. r.hmac_secret_mc)
unfolding shortest_head
make_credential_inputs_law = named_law make_credential_inputs 3 (codes "hmac-secret-mc") (omega arith) (λ r. refl) (λ r. refl)
    (λ r. refl)
    (λ Q rule r key. search (rule.holds, plainly, prf_inputs_law.plain 0, blob_make_inputs_law.plain 2) depth 18)
    (λ Q r each. search) (λ m. tt)
    (λ m i less. search (optional_keeps not_null_around) depth 18 parts 18) (λ r fits.
    puts_default (optional_place prf_inputs_law.back refl r.prf (search)) refl ▸
    puts_default (optional_place truth_back refl r.uvm (anything r.uvm)) refl ▸
    puts_default (optional_place bytes_back refl r.cred_blob (anything r.cred_blob)) refl ▸
    puts_default (optional_place blob_make_inputs_law.back refl r.large_blob (search)) refl ▸
    puts_default (code_place cred_protect_of cred_protect_byte r.cred_protect (search)) refl ▸
    puts_default (optional_place truth_back refl r.hmac_secret (anything r.hmac_secret)) refl ▸
    puts_default (optional_place truth_back refl r.large_blob_key (anything r.large_blob_key)) refl ▸
    puts_default (optional_place truth_back refl r.min_pin_length (anything r.min_pin_length)) refl ▸
    puts_default (optional_place not_null_back refl r.hmac_secret_mc (search)) refl ▸
    puts_default (optional_place truth_back refl r.third_party_payment (anything r.third_party_payment)) refl ▸
    puts_default (optional_place truth_back refl r.pin_complexity_policy (anything r.pin_complexity_policy)) refl ▸
    no_more)

pub get_assertion_inputs_law : IsNamed (λ r. r) get_assertion_inputs (λ r. r.hmac_secret)
unfolding shortest_head
get_assertion_inputs_law = named_law get_assertion_inputs 3 (codes "hmac-secret") (omega arith) (λ r. refl) (λ r. refl)
    (λ r. refl)
    (λ Q rule r key. search (rule.holds, plainly, prf_inputs_law.plain 0, blob_get_inputs_law.plain 2) depth 18)
    (λ Q r each. search) (λ m. tt)
    (λ m i less. search (optional_keeps not_null_around) depth 18 parts 18) (λ r fits.
    puts_default (optional_place prf_inputs_law.back refl r.prf (search)) refl ▸
    puts_default (optional_place truth_back refl r.uvm (anything r.uvm)) refl ▸
    puts_default (optional_place truth_back refl r.cred_blob (anything r.cred_blob)) refl ▸
    puts_default (optional_place blob_get_inputs_law.back refl r.large_blob (search)) refl ▸
    puts_default (optional_place not_null_back refl r.hmac_secret (search)) refl ▸
    puts_default (optional_place truth_back refl r.large_blob_key (anything r.large_blob_key)) refl ▸
    puts_default (optional_place truth_back refl r.third_party_payment (anything r.third_party_payment)) refl ▸
    no_more)
