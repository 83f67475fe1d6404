-- Attestation statements that are maps: they can be decoded again, have few levels, and their keys ascend.
use Rattle.std.proofs.Common.{option_map, Some}
use Rattle.passkey_attestation.specs.AlgorithmIdentifier.{identifier_of, identifier_tree, algorithm_identifier, signed}
use Rattle.passkey_attestation.specs.Statements.{packed, tpm, android_key, safety_net, fido_u2f, apple, element, element_parts}
use Rattle.passkey_attestation.specs.declared.compound.CompoundElement.{CompoundElement}
use Rattle.passkey_kinds.proofs.Back.{kind_back}
use Rattle.passkey_kinds.proofs.Lawful.{IsLawful, lawful}
use Rattle.passkey_kinds.proofs.LeafBack.{bytes_back, text_back, kept_back, list_same, optional_place, anything, all_of_anything}
use Rattle.passkey_kinds.proofs.Ordered.{list_plain, plainly, keys_ascend}
use Rattle.passkey_kinds.proofs.Steps.{ℕ, arith, refl, ◌≡◌, shortest_head, puts_value, puts_default, no_more, ◌▸◌, IsReadBack, EachFits, KeysAscend, fields_of, Item}
use Rattle.passkey_kinds.specs.Placed.{places_of, plain_kind, plain_tree}
use Rattle.passkey_kinds.specs.Reader.{scalar_in}
use Rattle.passkey_cbor.specs.Item as item

-- ---- algorithm identifiers

pub signed_scalar : (i : Item) → signed.of i ≡ signed.of (scalar_in i)
signed_scalar (item.number z) = refl
signed_scalar _ = refl

pub identifier_back : IsReadBack signed.of identifier_tree algorithm_identifier.Fits (λ a. a)
identifier_back = record { back = λ a h. rw h refl }

-- ---- the laws of the formats

pub packed_law : IsLawful 1 packed
unfolding shortest_head
packed_law = lawful 1 packed (λ r. refl) (λ r. refl) (λ r. refl) (λ k r. search (plainly, list_plain k) depth 10) (λ r fits.
    puts_value identifier_back r.alg (search) ▸
    puts_value bytes_back r.sig tt ▸
    puts_default (optional_place (list_same bytes_back) refl r.x5c (all_of_anything r.x5c)) refl ▸
    puts_default (optional_place bytes_back refl r.ecdaa_key_id (anything r.ecdaa_key_id)) refl ▸
    no_more)

pub tpm_law : IsLawful 1 tpm
unfolding shortest_head
tpm_law = lawful 1 tpm (λ r. refl) (λ r. refl) (λ r. refl) (λ k r. search (plainly, list_plain k) depth 10) (λ r fits.
    puts_value identifier_back r.alg (search) ▸
    puts_value bytes_back r.sig tt ▸
    puts_value text_back r.ver tt ▸
    puts_value (list_same bytes_back) r.x5c (search) ▸
    puts_value bytes_back r.pub_area tt ▸
    puts_value bytes_back r.cert_info tt ▸
    no_more)

pub android_key_law : IsLawful 1 android_key
unfolding shortest_head
android_key_law = lawful 1 android_key (λ r. refl) (λ r. refl) (λ r. refl) (λ k r. search (plainly, list_plain k) depth 10) (λ r fits.
    puts_value identifier_back r.alg (search) ▸
    puts_value bytes_back r.sig tt ▸
    puts_value (list_same bytes_back) r.x5c (search) ▸
    no_more)

pub safety_net_law : IsLawful 0 safety_net
unfolding shortest_head
safety_net_law = lawful 0 safety_net (λ r. refl) (λ r. refl) (λ r. refl) (λ k r. search (plainly) depth 10) (λ r fits.
    puts_value text_back r.ver tt ▸
    puts_value bytes_back r.response tt ▸
    no_more)

pub fido_u2f_law : IsLawful 1 fido_u2f
unfolding shortest_head
fido_u2f_law = lawful 1 fido_u2f (λ r. refl) (λ r. refl) (λ r. refl) (λ k r. search (plainly, list_plain k) depth 10) (λ r fits.
    puts_value bytes_back r.sig tt ▸
    puts_value (list_same bytes_back) r.x5c (search) ▸
    no_more)

pub apple_law : IsLawful 1 apple
unfolding shortest_head
apple_law = lawful 1 apple (λ r. refl) (λ r. refl) (λ r. refl) (λ k r. search (plainly, list_plain k) depth 10) (λ r fits.
    puts_default (optional_place identifier_back refl r.alg (search)) refl ▸
    puts_value (list_same bytes_back) r.x5c (search) ▸
    no_more)

-- ---- elements of a compound statement

pub element_ordered : KeysAscend (places_of element.members)
unfolding shortest_head
element_ordered r = keys_ascend (places_of element.members r) refl

pub element_kind_back : IsReadBack (plain_kind element) (plain_tree element) (EachFits element.members) (λ r. r)
unfolding shortest_head
element_kind_back = record {
  back = λ r fits. kind_back (fields_of element) (places_of element.members r) r refl refl (
      puts_value text_back r.fmt tt ▸
      puts_value kept_back r.att_stmt tt ▸
      no_more);
}

pub element_back : IsReadBack (plain_kind element) (λ (e : CompoundElement). plain_tree element (element_parts e))
    (λ e. EachFits element.members (element_parts e)) (λ e. element_parts e)
element_back = record { back = λ e fits. element_kind_back.back (element_parts e) fits }
