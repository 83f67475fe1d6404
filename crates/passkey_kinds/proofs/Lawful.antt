-- Plain records: they can be decoded again, have few levels, and their keys ascend.
use Rattle.passkey_kinds.proofs.Common.{shortest_head, make_credential_signed, get_assertion_signed, descriptor, parameters, webauthn_user, each, EachFits, fields_of, places_of, PlainTable, members_of, plain_kind, plain_tree, IsReadBack, table_of, KeysAscend, Unknown, ◌≡◌, ℕ, suc, arith, Bool, true, ◌&&◌, List, Option, Some, None, refl, zero}
use Rattle.passkey_core.specs.SignedOutputs.{make_credential_item, get_assertion_item}
use Rattle.passkey_core.specs.declared.make_credential.SignedExtensionOutputs as make_credential
use Rattle.passkey_core.specs.declared.get_assertion.SignedExtensionOutputs as get_assertion
use Rattle.passkey_kinds.proofs.Back.{have_rows, are_distinct, missing_of, Backs, numbers, kind_back, puts_value, puts_default, ◌▸◌, no_more}
use Rattle.passkey_kinds.proofs.LeafBack.{text_back, bytes_back, credential_type_back, transport_back, algorithm_back, or_else_back, accepted_place, truth_back, optional_place, anything}
use Rattle.passkey_kinds.proofs.Levels.{EachPlace}
use Rattle.passkey_kinds.proofs.Ordered.{ascend, keys_ascend, IsPlain, record_plain, plainly, list_plain}

-- ---- records with names alone that keep no data item: they can be decoded again, have few levels, and
-- their keys ascend

-- n levels more than k
abbrev pub raised : ℕ → ℕ → ℕ
raised zero k = k
raised (suc n) k = suc (raised n k)

-- A record is decoded again as its normal form, its keys ascend, and its members' encodings have at
-- most n levels.
pub record IsLawfulAs {P : Type 0} (normal : P → P) (n : ℕ) (t : PlainTable P) : Type 0 where
  pub back : IsReadBack (plain_kind t) (plain_tree t) (EachFits t.members) normal
  pub plain : (k : ℕ) (r : P) → IsPlain (suc (raised n k)) (plain_tree t r)
  pub keys : KeysAscend (places_of t.members)

-- a record that is its own normal form
abbrev pub IsLawful : {P : Type 0} → ℕ → PlainTable P → Type 0
IsLawful n t = IsLawfulAs (λ r. r) n t

module _ {P : Type 0} {normal : P → P} (n : ℕ) (t : PlainTable P) where
  pub lawful : ((r : P) → ascend (places_of t.members r) ≡ true)
      → ((r : P) → (have_rows (table_of (fields_of t)) (numbers (members_of t.members)) (places_of t.members r)
      && are_distinct (numbers (members_of t.members))) ≡ true)
      → ((r : P) → missing_of (table_of (fields_of t)) (numbers (members_of t.members)) (places_of t.members r)
      ≡ None) → ((k : ℕ) (r : P) → EachPlace (IsPlain (raised n k)) (places_of t.members r))
      → ((r : P) → EachFits t.members r → Backs (members_of t.members) (places_of t.members r) t.blank (normal r))
      → IsLawfulAs normal n t
  lawful up keys complete each backs = record {
    back =
        record {
          back = λ r fits. kind_back (fields_of t) (places_of t.members r) (normal r) (keys r) (complete
              r) (backs r fits);
        };
    plain = λ k r. record_plain (raised n k) (places_of t.members r) (up r) (each k r);
    keys = λ r. keys_ascend (places_of t.members r) (up r);
  }

-- ---- the laws of WebAuthn's records, and of extension outputs in authenticator data

pub descriptor_law : IsLawful 1 descriptor
unfolding shortest_head
descriptor_law =
    lawful 1 descriptor (λ d. refl) (λ d. refl) (λ d. refl) (λ k d. search (plainly, list_plain k)) (λ d fits.
    puts_value bytes_back d.id tt ▸
    puts_value (or_else_back credential_type_back Unknown) d.ty tt ▸
    puts_default (accepted_place transport_back d.transports (search)) refl ▸
    no_more)

pub parameters_law : IsLawful 0 parameters
unfolding shortest_head
parameters_law = grind (arith, lawful, plainly, puts_value, algorithm_back, or_else_back, credential_type_back, no_more)

pub user_law : IsLawful 0 webauthn_user
unfolding shortest_head
user_law = grind (arith, lawful, plainly, puts_value, bytes_back, text_back, no_more)

pub make_credential_signed_law : IsLawful 0 make_credential_signed
unfolding shortest_head
make_credential_signed_law =
    grind (arith, lawful, plainly, puts_default, optional_place, truth_back, bytes_back, anything, no_more)

pub get_assertion_signed_law : IsLawful 0 get_assertion_signed
unfolding shortest_head
get_assertion_signed_law = grind (arith, lawful, plainly, puts_default, optional_place, bytes_back, anything, no_more)

make_credential_places : (made : Option Bool) (secrets : Option (List ℕ))
    → plain_tree make_credential_signed (record { hmac_secret = made; hmac_secret_mc = secrets })
    ≡ make_credential_item (record { hmac_secret = made; hmac_secret_mc = secrets })
make_credential_places None None = refl
make_credential_places None (Some b) = refl
make_credential_places (Some t) None = refl
make_credential_places (Some t) (Some b) = refl

pub make_credential_same : (o : make_credential.SignedExtensionOutputs) → plain_tree make_credential_signed o ≡ make_credential_item o
make_credential_same o = make_credential_places o.hmac_secret o.hmac_secret_mc

get_assertion_places : (secrets : Option (List ℕ)) → plain_tree get_assertion_signed (record { hmac_secret = secrets })
    ≡ get_assertion_item (record { hmac_secret = secrets })
get_assertion_places None = refl
get_assertion_places (Some b) = refl

pub get_assertion_same : (o : get_assertion.SignedExtensionOutputs) → plain_tree get_assertion_signed o ≡ get_assertion_item o
get_assertion_same o = get_assertion_places o.hmac_secret
