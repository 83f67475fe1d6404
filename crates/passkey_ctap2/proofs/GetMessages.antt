-- Messages of authenticatorGetAssertion: decoding their encodings again, their nesting levels, and their canonical form.
use Rattle.passkey_kinds.proofs.Common.{places_of}
use Rattle.passkey_kinds.proofs.Numbered.{plain_messages}
use Rattle.passkey_kinds.proofs.Ordered.{keys_ascend}
use Rattle.passkey_kinds.proofs.Steps.{[], KeysAscend, tolerated_keeps, arith, shortest_head, IsLawful, lawful, truth_back, plainly, puts_value, no_more, list_plain, descriptor_law, ◌≡◌, true, Ok, refl, ReadIsCoherent, byte_back, text_back, bytes_back, anything, optional_place, accepted_place, tolerated_place, puts_default, rows_back, back_if_few, back_if_good, EachFits, ◌▸◌, Bool, None, ◌&&◌, and_parts, is_coherent, GivenIsCoherent, ReadIsGiven, WrittenDataAreReadBack, auth_data_back, auth_data_coherent, AtMostOneLeadingItem, WrittenIsLeadingItem, WrittenIsCanonical}
use Rattle.passkey_kinds.proofs.Taken.{auth_data_lent}
use Rattle.passkey_kinds.specs.Lending.{AuthDataAreLent}
use Rattle.passkey_kinds.specs.Numbered.{AreMessages, MessagesAreReadBack, is_shallow}
use Rattle.passkey_kinds.specs.Words.{WrittenIsReadBack, read_item}
use Rattle.passkey_extensions.proofs.Entities.{user_law}
use Rattle.passkey_extensions.proofs.Extensions.{get_parts_back, get_extensions_around, get_assertion_unsigned_law}
use Rattle.passkey_extensions.specs.GetExtensions.{get_extensions_tree, get_extensions_kept}
use Rattle.passkey_ctap2.proofs.Messages.{KeepsIn, keeps_in, read_coherent}
use Rattle.passkey_ctap2.specs.GetRequest.{options, GetRequestParts, get_request, get_request_fields, get_request_tree}
use Rattle.passkey_ctap2.specs.GetResponse.{GetResponseParts, get_response, get_response_fields, get_response_parts, get_response_tree, is_get_response_coherent, normal_get_response}

-- ---- options of authenticatorGetAssertion can be decoded again, have one level, and their keys ascend

pub options_law : IsLawful 0 options
unfolding shortest_head
options_law = grind (arith, lawful, plainly, puts_value, truth_back, no_more)

-- ---- requests: only the extensions may have many levels

pub request_law : KeepsIn get_request get_extensions_tree get_extensions_kept (λ r. r.extensions)
unfolding shortest_head
request_law = keeps_in get_extensions_around get_request (λ r. r.extensions) 4 4 (omega arith) (omega arith)
    (omega arith) (λ r. refl)
    (λ Q rule r extensions.
    search (rule.holds, plainly, list_plain 3, descriptor_law.plain 1, options_law.plain 3) depth 13)
    (λ Q r each. each.1.1.1.0) (λ m. tt)
    (λ m i few. search (tolerated_keeps get_extensions_around) depth 11 parts 11)

request_back : (r : GetRequestParts) → EachFits get_request.members r
    → read_item get_request_fields (get_request_tree r) ≡ Ok r
request_back r fits =
    rows_back get_request_fields (places_of get_request.members r) r refl refl
    (puts_value text_back r.rp_id tt ▸
    puts_value bytes_back r.client_data_hash tt ▸
    puts_default (accepted_place descriptor_law.back r.allow_list (search)) refl ▸
    puts_default (tolerated_place get_parts_back r.extensions (search)) refl ▸
    puts_value options_law.back r.options (search) ▸
    puts_default (optional_place bytes_back refl r.pin_auth (anything r.pin_auth)) refl ▸
    puts_default (optional_place byte_back refl r.pin_protocol (search)) refl ▸
    no_more)

pub request_read_back : WrittenIsLeadingItem → MessagesAreReadBack true (λ r. r) get_request
request_read_back front = back_if_few (read_item get_request_fields) get_request_tree
    (EachFits get_request.members) (λ r. r) front request_back

-- ---- responses: no member has many levels

pub response_law : AreMessages true get_response (λ r. None)
unfolding shortest_head
response_law = plain_messages 4 get_response (omega arith) (λ r. refl)
    (λ r. search (plainly, descriptor_law.plain 2, user_law.plain 3, get_assertion_unsigned_law.plain 0) depth 14)

pub response_keys : KeysAscend (λ r. places_of get_response.members (get_response_parts r))
unfolding shortest_head
response_keys r = keys_ascend (places_of get_response.members (get_response_parts r)) refl

response_back : WrittenDataAreReadBack → ReadIsGiven → (r : GetResponseParts) → EachFits get_response.members r
    → is_coherent r.auth_data ≡ true → read_item get_response_fields (get_response_tree r) ≡ Ok (normal_get_response r)
response_back written given r fits coherent =
    rows_back get_response_fields (places_of get_response.members r) (normal_get_response r) refl refl
    (puts_default (optional_place descriptor_law.back refl r.credential (search)) refl ▸
    puts_value (auth_data_back written given) r.auth_data (search) ▸
    puts_value bytes_back r.signature tt ▸
    puts_default (optional_place user_law.back refl r.user (search)) refl ▸
    puts_default (optional_place byte_back refl r.number_of_credentials (search)) refl ▸
    puts_default (optional_place truth_back refl r.user_selected (anything r.user_selected)) refl ▸
    puts_default (optional_place bytes_back refl r.large_blob_key (anything r.large_blob_key)) refl ▸
    puts_default (optional_place get_assertion_unsigned_law.back refl r.unsigned_extension_outputs (search)) refl ▸
    no_more)

pub response_read_back : WrittenIsLeadingItem → WrittenDataAreReadBack → ReadIsGiven
    → WrittenIsReadBack (read_item get_response_fields) get_response_tree (EachFits get_response.members)
    is_get_response_coherent normal_get_response
response_read_back front written given = back_if_good (read_item get_response_fields) get_response_tree
    (EachFits get_response.members) normal_get_response (λ r. is_coherent r.auth_data) front (response_back written given)

and_true : (a b : Bool) → true ≡ b → a ≡ a && b
and_true a b h = grind arith

-- whether the authenticator data are coherent decides whether the response is
pub data_decide : (r : GetResponseParts) → is_coherent r.auth_data ≡ is_get_response_coherent r
data_decide r = and_true (is_coherent r.auth_data) (is_shallow get_response r) (response_law.levels r)

pub response_coherent : GivenIsCoherent → ReadIsCoherent (read_item get_response_fields) is_get_response_coherent
response_coherent law = read_coherent get_response (λ r. is_coherent r.auth_data) response_law.coherent refl
    (λ i. search (auth_data_coherent law) depth 12 parts 12)

pub response_canonical : AtMostOneLeadingItem → WrittenIsLeadingItem
    → WrittenIsCanonical get_response_tree is_get_response_coherent (λ r. [])
response_canonical one front r w coherent = response_law.canonical one front r w
    (and_parts (is_coherent r.auth_data) (is_shallow get_response r) coherent).1

-- ---- what the authenticator data are decoded from is lent

pub get_auth_data_lent : AuthDataAreLent get_response_fields (λ r. r.auth_data)
get_auth_data_lent = auth_data_lent get_response_fields (λ r. r.auth_data) (search) refl
