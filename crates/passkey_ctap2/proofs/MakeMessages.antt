-- Messages of authenticatorMakeCredential: decoding their encodings again, their nesting levels, and their canonical form.
use Rattle.passkey_kinds.proofs.Common.{places_of}
use Rattle.passkey_kinds.proofs.Steps.{◌∙◌, item_around, required_keeps, optional_keeps, arith, ℕ, Bool, true, false, codes, text_string, shortest_head, true_place, IsLawfulAs, lawful, truth_back, PlaceHas, IsPlain, plainly, truth_plain, text_plain, puts_value, puts_default, no_more, list_plain, descriptor_law, parameters_law, user_law, ◌≡◌, nat_le, nat_tests, Some, Ok, depth, ReadIsCoherent, byte_back, bytes_back, anything, optional_place, accepted_same, accepted_place, rows_back, back_if_few, back_if_good, refl, ◌▸◌, ◌-◌, ◌^◌, min, nat_lt, EachFits, WrittenIsLeadingItem, is_coherent, GivenIsCoherent, ReadIsGiven, WrittenDataAreReadBack, auth_data_back, auth_data_coherent, text_back, kept_back, record_within, picked, picked_back, and_parts, AtMostOneLeadingItem, WrittenIsCanonical}
use Rattle.passkey_kinds.proofs.Taken.{auth_data_lent}
use Rattle.passkey_kinds.specs.Lending.{AuthDataAreLent}
use Rattle.passkey_kinds.specs.Numbered.{MessagesAreReadBack, is_shallow}
use Rattle.passkey_kinds.specs.Words.{WrittenIsReadBack, read_item}
use Rattle.passkey_core.specs.DataNormal.{IsData, normal_data}
use Rattle.passkey_core.specs.DataParts.{DataParts}
use Rattle.passkey_extensions.proofs.Entities.{rp_law}
use Rattle.passkey_extensions.proofs.Extensions.{make_parts_back, make_extensions_around, make_credential_unsigned_law}
use Rattle.passkey_extensions.specs.MakeExtensions.{make_extensions_tree, make_extensions_kept}
use Rattle.passkey_kinds.specs.Tree.{where_true}
use Rattle.std.specs.Prelude.{[], ◌∷◌}
use Rattle.passkey_ctap2.proofs.Messages.{KeepsIn, keeps_in, read_coherent}
use Rattle.passkey_ctap2.specs.MakeRequest.{options, normal_options, MakeRequestParts, make_request, make_request_fields, make_request_tree, normal_make_request}
use Rattle.passkey_ctap2.specs.MakeResponse.{MakeResponseParts, make_response, make_response_fields, make_response_kept, make_response_tree, is_make_response_coherent, normal_make_response, attestation_places, attestation_tree, unattested}

-- ---- options of authenticatorMakeCredential can be decoded again, have one level, and their keys ascend

up_plain : (n : ℕ) (b : Bool) → PlaceHas (IsPlain n) (text_string (codes "up")) (where_true (text_string (codes "up")) b).1
up_plain n true = (text_plain n (codes "up"), truth_plain n true)
up_plain n false = tt

pub options_law : IsLawfulAs normal_options 0 options
unfolding shortest_head
options_law = grind (arith, lawful, plainly, up_plain, puts_value, truth_back, puts_default, true_place, codes, no_more)

-- ---- requests: only the extensions may have many levels

pub request_law : KeepsIn make_request make_extensions_tree make_extensions_kept (λ r. r.extensions)
unfolding shortest_head
request_law = keeps_in make_extensions_around make_request (λ r. r.extensions) 4 6 (omega arith) (omega arith)
    (omega arith) (λ r. refl)
    (λ Q rule r extensions. search (
      rule.holds,
      plainly,
      rp_law.plain 3,
      user_law.plain 3,
      list_plain 3,
      parameters_law.plain 2,
      descriptor_law.plain 1,
      options_law.plain 3,
    ) depth 15)
    (λ Q r each. each.1.1.1.1.1.0) (λ m. tt)
    (λ m i few. search (optional_keeps make_extensions_around) depth 13 parts 13)

request_back : (r : MakeRequestParts) → EachFits make_request.members r
    → read_item make_request_fields (make_request_tree r) ≡ Ok (normal_make_request r)
request_back r fits =
    rows_back make_request_fields (places_of make_request.members r) (normal_make_request r) refl refl
    (puts_value bytes_back r.client_data_hash tt ▸
    puts_value rp_law.back r.rp (search) ▸
    puts_value user_law.back r.user (search) ▸
    puts_value (accepted_same parameters_law.back) r.pub_key_cred_params (search) ▸
    puts_default (accepted_place descriptor_law.back r.exclude_list (search)) refl ▸
    puts_default (optional_place make_parts_back refl r.extensions (search)) refl ▸
    puts_value options_law.back r.options (search) ▸
    puts_default (optional_place bytes_back refl r.pin_auth (anything r.pin_auth)) refl ▸
    puts_default (optional_place byte_back refl r.pin_protocol (search)) refl ▸
    no_more)

pub request_read_back : WrittenIsLeadingItem → MessagesAreReadBack true normal_make_request make_request
request_read_back front = back_if_few (read_item make_request_fields) make_request_tree
    (EachFits make_request.members) normal_make_request front request_back

-- ---- responses: only the statement may have many levels

pub response_law : KeepsIn make_response (λ i. i) (λ i. i ∷ []) (λ r. Some r.att_stmt)
unfolding shortest_head
response_law = keeps_in item_around make_response (λ r. Some r.att_stmt) 4 3 (omega arith) (omega arith)
    (omega arith) (λ r. refl)
    (λ Q rule r statement. search (rule.holds, plainly, make_credential_unsigned_law.plain 0) depth 12)
    (λ Q r each. each.1.1.0) (λ m. (omega arith, tt))
    (λ m i few. search (required_keeps item_around) depth 10 parts 10)

-- the statement's levels decide, even if they don't fit in a `usize`
capped : (n : ℕ) → nat_lt (min n (2 ^ 64 - 1)) 256 ≡ nat_le n 255
capped n = grind (arith, nat_tests)

pub statement_decides : (r : MakeResponseParts)
    → nat_lt (min (depth r.att_stmt) (2 ^ 64 - 1)) 256 ≡ is_shallow make_response r
statement_decides r = capped (depth r.att_stmt) ∙ response_law.levels.present r r.att_stmt refl

response_back : WrittenDataAreReadBack → ReadIsGiven → (r : MakeResponseParts) → EachFits make_response.members r
    → is_coherent r.auth_data ≡ true
    → read_item make_response_fields (make_response_tree r) ≡ Ok (normal_make_response r)
response_back written given r fits coherent =
    rows_back make_response_fields (places_of make_response.members r) (normal_make_response r) refl refl
    (puts_value text_back r.fmt tt ▸
    puts_value (auth_data_back written given) r.auth_data (search) ▸
    puts_value kept_back r.att_stmt tt ▸
    puts_default (optional_place truth_back refl r.ep_att (anything r.ep_att)) refl ▸
    puts_default (optional_place bytes_back refl r.large_blob_key (anything r.large_blob_key)) refl ▸
    puts_default (optional_place make_credential_unsigned_law.back refl r.unsigned_extension_outputs (search)) refl ▸
    no_more)

pub response_read_back : WrittenIsLeadingItem → WrittenDataAreReadBack → ReadIsGiven
    → WrittenIsReadBack (read_item make_response_fields) make_response_tree (EachFits make_response.members)
    is_make_response_coherent normal_make_response
response_read_back front written given = back_if_good (read_item make_response_fields) make_response_tree
    (EachFits make_response.members) normal_make_response (λ r. is_coherent r.auth_data) front (response_back written given)

pub response_coherent : GivenIsCoherent
    → ReadIsCoherent (read_item make_response_fields) is_make_response_coherent
response_coherent law = read_coherent make_response (λ r. is_coherent r.auth_data) response_law.coherent refl
    (λ i. search (auth_data_coherent law) depth 10 parts 10)

pub response_canonical : AtMostOneLeadingItem → WrittenIsLeadingItem
    → WrittenIsCanonical make_response_tree is_make_response_coherent make_response_kept
response_canonical one front r w coherent = response_law.canonical one front r w
    (and_parts (is_coherent r.auth_data) (is_shallow make_response r) coherent).1

-- ---- attestation objects

attestation_back : WrittenDataAreReadBack → ReadIsGiven → (d : DataParts) → IsData d → is_coherent d ≡ true
    → read_item make_response_fields (attestation_tree d) ≡ Ok (unattested (normal_data d))
attestation_back written given d fits coherent = grind (arith, picked_back, picked, puts_value, text_back, codes, kept_back, auth_data_back, no_more)

pub attestation_read_back : WrittenIsLeadingItem → WrittenDataAreReadBack → ReadIsGiven
    → WrittenIsReadBack (read_item make_response_fields) (λ r. attestation_tree r.auth_data) (λ r. IsData r.auth_data)
    (λ r. is_coherent r.auth_data) (λ r. unattested (normal_data r.auth_data))
attestation_read_back law written given r rest fits writable coherent = (
  law (attestation_tree r.auth_data) rest
      writable (omega (
        arith,
        record_within 1 (attestation_places r.auth_data) (search arith),
      )),
  attestation_back written given r.auth_data fits coherent,
)

-- ---- what the authenticator data are decoded from is lent

pub make_auth_data_lent : AuthDataAreLent make_response_fields (λ r. r.auth_data)
make_auth_data_lent = auth_data_lent make_response_fields (λ r. r.auth_data) (search) refl
