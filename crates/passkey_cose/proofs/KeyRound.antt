-- A key that was read, when written, is read as the same key.
use Rattle.std.specs.Option.{option_and_then}
use Rattle.std.specs.Result.{result_map_both}
use Rattle.std.proofs.Common.{◌≡◌, ◌++◌, [], Option, Some, None, option_map, unwrap_or, Result, Ok, Err, refl, sym, ap, subst, ◌∙◌}
use Rattle.std.proofs.lemmas.List.{append_assoc}
use Rattle.passkey_cbor.specs.Item.{map, members, pairs_of}
use Rattle.passkey_iana.specs.Iana.{algorithm_number, algorithm_named, key_type_number, key_type_named}
use Rattle.passkey_iana.specs.IanaLaws.{algorithm_named-number, key_type_named-number}
use Rattle.passkey_cose.specs.KeyFaults.{first_fault}
use Rattle.passkey_cose.specs.KeyLabels.{Members}
use Rattle.passkey_cose.specs.KeyLaws.{ReadIsWrittenAlike}
use Rattle.passkey_cose.specs.KeyParts.{KeyParts, member, key_members, key_item}
use Rattle.passkey_cose.specs.KeyReading.{name_in, bytes_in, ops_in, under, further, key_from, key_type, key_or_fault, read_key}
use Rattle.passkey_cose.specs.Registered.{Named, named_item}
use Rattle.passkey_cose.specs.declared.error.CoseError.{CoseError}
use Rattle.passkey_iana.specs.declared.key_type.KeyType.{KeyType}
use Rattle.passkey_cose.proofs.KeyFurther.{further_separate}
use Rattle.passkey_cose.proofs.KeyHeld.{names_written, strings_written, all_ops_written, key_type_is, under_good}
use Rattle.passkey_cose.proofs.KeyLists.{read_key-map}
use Rattle.passkey_cose.proofs.KeySorted.{sorted, under_1, under_2, under_3, under_4, under_5, further_sorted, sorted_good}

unfoldable pub sorted_of : Members → Members
sorted_of ms = sorted (under 1 ms) (under 2 ms) (under 3 ms) (under 4 ms) (under 5 ms) ms

unfoldable pub type_of : Members → Option (Named KeyType)
type_of ms = option_and_then (name_in key_type_named) (under 1 ms)

-- the members that are written for a key that was read
pub written_members : (ms : Members) (kty : Named KeyType) → first_fault [] ms ≡ None → type_of ms ≡ Some kty
    → key_members (key_from ms kty) ≡ sorted_of ms
unfolding sorted_of type_of
written_members ms kty good named =
    let types : option_map (named_item key_type_number) (Some kty) ≡ under 1 ms =
    ap (option_map (named_item key_type_number)) (sym named) ∙ names_written key_type_number key_type_named
    key_type_named-number (under 1 ms) (under_good 1 [] ms good) in
    let ids = strings_written (under 2 ms) (under_good 2 [] ms good) in
    let algs = names_written algorithm_number algorithm_named algorithm_named-number (under 3 ms)
    (under_good 3 [] ms good) in
    let ops = all_ops_written (under 4 ms) (under_good 4 [] ms good) in
    let ivs = strings_written (under 5 ms) (under_good 5 [] ms good) in
    let flat : key_members (key_from ms kty) ≡ member 1 (under 1 ms) ++ member 2 (under 2 ms) ++ member 3
    (under 3 ms) ++ member 4 (under 4 ms) ++ member 5 (under 5 ms) ++ further ms = λ i. member 1 (types i)
    ++ member 2 (ids i) ++ member 3 (algs i) ++ member 4 (ops i) ++ member 5 (ivs i) ++ further ms in
    flat ∙ simp append_assoc

-- members are read alike if their values under the common labels and their other members are the same
judged_alike : (ms ns : Members) → under 1 ms ≡ under 1 ns → under 2 ms ≡ under 2 ns → under 3 ms ≡ under 3 ns
    → under 4 ms ≡ under 4 ns → under 5 ms ≡ under 5 ns → further ms ≡ further ns → key_or_fault ms None ≡ key_or_fault ns None
judged_alike ms ns types ids algs ops ivs others =
    λ i. result_map_both
    (λ (kty : Named KeyType). let k : KeyParts = record {
      kty = kty;
      key_id = option_and_then bytes_in (ids i);
      alg = option_and_then (name_in algorithm_named) (algs i);
      key_ops = unwrap_or (option_map ops_in (ops i)) [];
      base_iv = option_and_then bytes_in (ivs i);
      params = others i;
    } in k)
    (λ (e : CoseError). e)
    (key_type (option_and_then (name_in key_type_named) (types i)))

sorted_alike : (ms : Members) → key_or_fault (sorted_of ms) None ≡ key_or_fault ms None
unfolding sorted_of
sorted_alike ms =
    let a = under 1 ms in
    let b = under 2 ms in
    let c = under 3 ms in
    let d = under 4 ms in
    let e = under 5 ms in
    judged_alike (sorted a b c d e ms) ms (under_1 a b c d e ms) (under_2 a b c d e ms) (under_3 a b c d e ms)
    (under_4 a b c d e ms) (under_5 a b c d e ms) (further_sorted a b c d e ms)

sorted_first : (ms : Members) → first_fault [] ms ≡ None → first_fault [] (sorted_of ms) ≡ None
unfolding sorted_of
sorted_first ms good =
    sorted_good (under 1 ms) (under 2 ms) (under 3 ms) (under 4 ms) (under 5 ms) ms (under_good 1 [] ms good)
    (under_good 2 [] ms good) (under_good 3 [] ms good) (under_good 4 [] ms good) (under_good 5 [] ms good) good
    (further_separate [] ms good refl)

-- no member that is written for a key that was read is bad
pub read_good : (ms : Members) (kty : Named KeyType) → first_fault [] ms ≡ None → key_type (option_and_then
    (name_in key_type_named) (under 1 ms)) ≡ Ok kty → first_fault [] (key_members (key_from ms kty)) ≡ None
unfolding type_of
read_good ms kty good e =
    ap (first_fault []) (written_members ms kty good (key_type_is (type_of ms) kty e)) ∙ sorted_first ms good

typed : (ms : Members) (kty : Named KeyType) → first_fault [] ms ≡ None → key_type (type_of ms) ≡ Ok kty
    → read_key (key_item (key_from ms kty)) ≡ key_or_fault ms None
typed ms kty good e =
    let written = written_members ms kty good (key_type_is (type_of ms) kty e) in
    ap (λ (ns : Members). read_key (map (pairs_of ns))) written ∙ read_key-map (sorted_of ms)
    ∙ ap (key_or_fault (sorted_of ms)) (sorted_first ms good) ∙ sorted_alike ms

good_round : (ms : Members) (k : KeyParts) → first_fault [] ms ≡ None → key_or_fault ms None ≡ Ok k
    → read_key (key_item k) ≡ Ok k
unfolding type_of
good_round ms k good e =
    (elim (key_type (type_of ms)) as (λ (r : Result (Named KeyType) CoseError). key_type (type_of ms) ≡ r
    → result_map_both (key_from ms) (λ (e : CoseError). e) r ≡ Ok k → read_key (key_item k) ≡ Ok k) [
      | Ok kty ↦ λ h. λ w. (let same : key_from ms kty ≡ k =
          cc in subst (λ (l : KeyParts). read_key (key_item l) ≡ Ok k) same (typed ms kty good h ∙ e))
      | Err f ↦ λ h. λ w. cc
    ]) refl e

members_round : (ms : Members) (k : KeyParts) → key_or_fault ms (first_fault [] ms) ≡ Ok k → read_key (key_item k) ≡ Ok k
members_round ms k e =
    (elim (first_fault [] ms)
    as (λ (o : Option CoseError). first_fault [] ms ≡ o → key_or_fault ms o ≡ Ok k → read_key (key_item k) ≡ Ok k) [
      | Some f ↦ λ h. λ w. cc
      | None ↦ λ h. λ w. good_round ms k h w
    ]) refl e

pub read_is_written_alike : ReadIsWrittenAlike
read_is_written_alike (map ps) k e = members_round (members ps) k e
read_is_written_alike i k e = cc
