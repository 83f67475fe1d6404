-- The members of a written key, in their order.
use Rattle.std.proofs.Common.{◌≡◌, true, not, ◌&&◌, [], ◌∷◌, ◌++◌, Some, option_map, refl, sym, ap, ◌∙◌}
use Rattle.std.proofs.lemmas.Bool.{and_parts, not-true}
use Rattle.std.proofs.lemmas.List.{append_assoc}
use Rattle.passkey_cbor.specs.Item.{byte_string}
use Rattle.passkey_iana.specs.Iana.{algorithm_number, key_type_number}
use Rattle.passkey_cose.specs.KeyLabels.{Members, is_common, has_label, are_separate}
use Rattle.passkey_cose.specs.KeyParts.{KeyParts, member, ops_item, key_members}
use Rattle.passkey_cose.specs.KeyReading.{further}
use Rattle.passkey_cose.specs.Registered.{named_item}
use Rattle.passkey_cose.proofs.KeySorted.{sorted}

pub further_own : (ms : Members) → are_separate ms ≡ true → further ms ≡ ms
further_own [] e = refl
further_own (m ∷ ms) e =
    let parts = and_parts (not (is_common m.0) && not (has_label ms m.0)) (are_separate ms) e in
    let heads = and_parts (not (is_common m.0)) (not (has_label ms m.0)) parts.0 in
    rw (not-true (is_common m.0) heads.0) (ap (λ (ns : Members). m ∷ ns) (further_own ms parts.1))

unfoldable pub members_of : KeyParts → Members
members_of k = sorted (Some (named_item key_type_number k.kty)) (option_map byte_string k.key_id) (option_map
    (named_item algorithm_number) k.alg) (ops_item k.key_ops) (option_map byte_string k.base_iv) k.params

pub members_sorted : (k : KeyParts) → are_separate k.params ≡ true → key_members k ≡ members_of k
unfolding members_of
members_sorted k e =
    let types = member 1 (Some (named_item key_type_number k.kty)) in
    let ids = member 2 (option_map byte_string k.key_id) in
    let algs = member 3 (option_map (named_item algorithm_number) k.alg) in
    let ops = member 4 (ops_item k.key_ops) in
    let ivs = member 5 (option_map byte_string k.base_iv) in
    let flat : key_members k ≡ types ++ ids ++ algs ++ ops ++ ivs ++ further k.params =
    ap (λ (ps : Members). types ++ ids ++ algs ++ ops ++ ivs ++ ps) (sym (further_own k.params e)) in
    flat ∙ simp append_assoc
