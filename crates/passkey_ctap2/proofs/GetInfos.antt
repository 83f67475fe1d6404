-- authenticatorGetInfo responses: decoding their encodings again, their nesting levels, and their canonical form.
use Rattle.passkey_kinds.proofs.Common.{places_of}
use Rattle.passkey_kinds.proofs.Lists.{option_same}
use Rattle.passkey_kinds.proofs.Steps.{KeysAscend, keys_ascend, item_around, optional_keeps, back_if_good, option_and_then, arith, ◌≡◌, Option, Some, None, refl, Item, shortest_head, any_from, optional_from, IsReadBack, Any, Falls, accepts_it, truth_back, anything, optional_place, IsLawful, lawful, plainly, puts_value, puts_default, ◌▸◌, no_more, number_tree, PlaceHas, EachPlace, list_plain, parameters_law, ℕ, pos, ◌^◌, ◌<◌, nat_lt, ltb-true, Bool, true, false, ◌&&◌, if◌then◌else◌, option_map, unwrap_or, Result, Ok, Err, OnOk, sym, ap, IfPresent, ReadIsCoherent, size_from, option_place, rows_back, size_back, aaguid_back, list_same, byte_back, word_back, text_back, bytes_back, transport_back, list_back, optional_back, all_of_anything, accepted_place, and_parts, AtMostOneLeadingItem, WrittenIsLeadingItem, WrittenIsCanonical}
use Rattle.std.proofs.Common.{ℕ, List, Bool, ◌<◌, ◌^◌, is_ok, IfErr, [], ◌∷◌}
use Rattle.passkey_cbor.specs.Item.{number, boolean, byte_string}
use Rattle.passkey_ctap2.proofs.Messages.{KeepsIn, keeps_in, read_coherent}
use Rattle.passkey_ctap2.specs.Encodable.{encodable_places}
use Rattle.passkey_ctap2.specs.GetInfo.{version, version_tree, normal_version, extension, extension_tree, normal_extension, options, unless_null, GetInfoParts, get_info, get_info_fields, get_info_tree, IsPositive, GetInfoFits, is_encodable, is_get_info_coherent, normal_get_info, get_info_kept}
use Rattle.passkey_kinds.specs.Kind.{IsSize}
use Rattle.passkey_kinds.specs.Numbered.{has_room, is_shallow}
use Rattle.passkey_kinds.specs.Words.{WrittenIsReadBack, read_item}
use Rattle.passkey_kinds.specs.declared.fault.WriteFault.{WriteFault}
use Rattle.passkey_kinds.specs.declared.fault.WriteFault.TheVariants.{NumberTooLarge}
use Rattle.passkey_cbor.specs.Item as item
use Rattle.passkey_kinds.specs.Coded as coded
use Rattle.passkey_kinds.specs.Typed as typed
use Rattle.passkey_kinds.specs.Record.{default}
use Rattle.passkey_kinds.proofs.Back.{Puts}

-- ---- values in an authenticatorGetInfo response can be decoded again from their encodings

pub version_back : IsReadBack version version_tree Any normal_version
version_back = record { back = λ v h. refl }

pub extension_back : IsReadBack extension extension_tree Any normal_extension
extension_back = record { back = λ e h. refl }

-- a kept data item that may be null
kept_or_null : (i : Item) → optional_from any_from i ≡ Some (unless_null i)
kept_or_null (number z) = refl
kept_or_null _ = refl

pub kept_place : (o : Option Item) → Falls (optional_from any_from) None o (option_and_then unless_null o)
kept_place None = record { value = refl; accepted = λ i e. absurd cc }
kept_place (Some i) = grind (arith, kept_or_null, accepts_it)

-- what the rows of these kinds put
module _ {P : Type 0} {n : ℕ} {name : List ℕ} {old : P} where
  truth_row : {set : Bool → P → P} (b : Bool) → Puts (default n name coded.truth.typed set) (Some (boolean b)) old (set b old)
  truth_row b = puts_value truth_back b tt

  flag_row : {set : Option Bool → P → P} (o : Option Bool) → set None old ≡ old
      → Puts (default n name (typed.optional coded.truth.typed) set) (option_map boolean o) old (set o old)
  flag_row o same = puts_default (optional_place truth_back refl o (anything o)) same

  bytes_row : {set : Option (List ℕ) → P → P} (o : Option (List ℕ)) → set None old ≡ old
      → Puts (default n name (typed.optional coded.bytes.typed) set) (option_map byte_string o) old (set o old)
  bytes_row o same = puts_default (optional_place bytes_back refl o (anything o)) same

  word_row : {set : Option ℕ → P → P} (o : Option ℕ) → IfPresent (λ k. k < 2 ^ 32) o → set None old ≡ old
      → Puts (default n name (typed.optional (typed.below (2 ^ 32))) set) (option_map number_tree o) old (set o old)
  word_row o fits same = puts_default (optional_place word_back refl o fits) same

pub options_law : IsLawful 0 options
unfolding shortest_head
options_law = lawful 0 options (λ o. refl) (λ o. refl) (λ o. refl) (λ k o. search plainly depth 24) (λ o fits.
    flag_row _ refl ▸ truth_row _ ▸ truth_row _ ▸ flag_row _ refl ▸ truth_row _ ▸ flag_row _ refl ▸
    flag_row _ refl ▸ flag_row _ refl ▸ flag_row _ refl ▸ flag_row _ refl ▸ flag_row _ refl ▸ flag_row _ refl ▸
    flag_row _ refl ▸ flag_row _ refl ▸ flag_row _ refl ▸ flag_row _ refl ▸ flag_row _ refl ▸ flag_row _ refl
    ▸ flag_row _ refl ▸ no_more)

-- ---- the certifications that a response keeps, and what is encoded around them

get_info_law : KeepsIn get_info (λ i. i) (λ i. i ∷ []) (λ r. r.certifications)
unfolding shortest_head
get_info_law = keeps_in item_around get_info (λ r. r.certifications) 2 19 (omega arith) (omega arith) (omega arith)
    (λ r. refl)
    (λ Q rule r here.
    let certifications : PlaceHas Q (number_tree 19) r.certifications = rw option_same at here in
    search (rule.holds, plainly, list_plain 1, options_law.plain 1, parameters_law.plain 0) depth 33)
    (λ Q r each. let places : EachPlace Q (places_of get_info.members r) = each in rw option_same (search))
    (λ m. tt) (λ m i few. search (optional_keeps item_around) depth 40 parts 40)

pub encodable_keys : KeysAscend encodable_places
unfolding shortest_head
encodable_keys e = keys_ascend (encodable_places e) refl

-- ---- an encoding can be decoded again

sized : (o : Option ℕ) → IfPresent IsPositive o → is_encodable o ≡ true → IfPresent IsSize o
sized None h e = tt
sized (Some n) h e = (h, ltb-true n (2 ^ 64) e)

response_back : (r : GetInfoParts) → GetInfoFits r → is_encodable r.max_msg_size ≡ true
    → read_item get_info_fields (get_info_tree r) ≡ Ok (normal_get_info r)
response_back r fits encoded =
    rows_back get_info_fields (places_of get_info.members r) (normal_get_info r) refl refl
    (
    puts_value (list_back version_back) r.versions (λ k d less. tt) ▸
    puts_default (option_place (optional_back (list_back extension_back) refl) r.extensions
    (all_of_anything r.extensions)) refl ▸
    puts_value aaguid_back r.aaguid (search) ▸
    puts_default (optional_place options_law.back refl r.options (search)) refl ▸
    puts_default (optional_place size_back refl r.max_msg_size (sized r.max_msg_size (search) encoded)) refl ▸
    puts_default (optional_place (list_same byte_back) refl r.pin_protocols (search)) refl ▸
    puts_default (accepted_place transport_back r.transports (all_of_anything r.transports)) refl ▸
    puts_default (accepted_place parameters_law.back r.algorithms (search)) refl ▸
    word_row _ (search) refl ▸ flag_row _ refl ▸ word_row _ (search) refl ▸ word_row _ (search) refl ▸
    word_row _ (search) refl ▸ word_row _ (search) refl ▸ word_row _ (search) refl ▸ word_row _ (search) refl ▸
    puts_default (kept_place r.certifications) refl ▸
    word_row _ (search) refl ▸
    puts_default (accepted_place word_back r.vendor_prototype_config_commands (search)) refl ▸
    puts_default (accepted_place text_back r.attestation_formats (all_of_anything r.attestation_formats)) refl ▸
    word_row _ (search) refl ▸ flag_row _ refl ▸ bytes_row _ refl ▸
    puts_default (accepted_place transport_back r.transports_for_reset (all_of_anything r.transports_for_reset))
    refl ▸
    flag_row _ refl ▸ bytes_row _ refl ▸ word_row _ (search) refl ▸
    no_more)

pub get_info_read_back : WrittenIsLeadingItem
    → WrittenIsReadBack (read_item get_info_fields) get_info_tree GetInfoFits is_get_info_coherent normal_get_info
get_info_read_back front = back_if_good (read_item get_info_fields) get_info_tree GetInfoFits normal_get_info
    (λ r. is_encodable r.max_msg_size) front response_back

-- ---- only the certifications may have many levels

room_decides : (r : GetInfoParts) → has_room r.certifications ≡ is_shallow get_info r
room_decides r = by_cases r.certifications refl where
  by_cases : (o : Option Item) → r.certifications ≡ o → has_room o ≡ is_shallow get_info r
  by_cases None is = get_info_law.levels.absent r is
  by_cases (Some i) is = get_info_law.levels.present r i is

pub parts_decide : (r : GetInfoParts)
    → (is_encodable r.max_msg_size && has_room r.certifications) ≡ is_get_info_coherent r
parts_decide r = ap (λ (b : Bool). is_encodable r.max_msg_size && b) (room_decides r)

-- whether the size became an item decides whether it can be encoded
pub told : {X : Type 0} (encoded : Bool) (r : Result X WriteFault) → OnOk r (encoded ≡ true)
    → IfErr r (λ e. (e ≡ NumberTooLarge) × (encoded ≡ false)) → is_ok r ≡ encoded
told encoded (Ok x) h f = sym h
told encoded (Err e) h f = sym f.1

-- ---- a decoded response is coherent

in_range : (n : ℕ) (a b : Bool) → nat_lt n (2 ^ 64) ≡ b
    → is_encodable (unwrap_or (option_map Some (if a && b then Some n else None)) None) ≡ true
in_range n true true e = e
in_range n true false e = refl
in_range n false b e = refl

-- each decoded size can be encoded
encoded_item : (i : Item) → is_encodable (unwrap_or (optional_from size_from i) None) ≡ true
encoded_item (item.number (pos n)) = in_range n (nat_lt 0 n) (nat_lt n (2 ^ 64)) refl
encoded_item _ = refl

size_good : (i : Item) (o : Option ℕ) → optional_from size_from i ≡ Some o → is_encodable o ≡ true
size_good i o e = grind (arith, encoded_item)

pub get_info_coherent : ReadIsCoherent (read_item get_info_fields) is_get_info_coherent
get_info_coherent = read_coherent get_info (λ r. is_encodable r.max_msg_size) get_info_law.coherent refl
    (λ i. search size_good depth 40 parts 40)

-- ---- the encodings of authenticatorGetInfo responses are canonical

pub get_info_canonical : AtMostOneLeadingItem → WrittenIsLeadingItem
    → WrittenIsCanonical get_info_tree is_get_info_coherent get_info_kept
get_info_canonical one front r w coherent = get_info_law.canonical one front r w
    (and_parts (is_encodable r.max_msg_size) (is_shallow get_info r) coherent).1
