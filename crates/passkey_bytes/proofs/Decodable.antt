-- A text is base64 exactly if each of its groups is, and a text with symbols decodes to at least one byte.
use Rattle.std.specs.Io.KnownBytes.{prepend_known}
use Rattle.std.specs.Result.{result_ok}
use Rattle.std.proofs.Common.{◌≡◌, ◌<◌, ◌*◌, ◌/◌, ◌==◌, ℕ, zero, suc, Bool, true, false, ◌&&◌, nat_lt, if◌then◌else◌, is_some, is_ok, List, [], ◌∷◌, ◌++◌, length, take, drop, Option, Some, None, Result, Ok, Err, arith, refl, sym, ap, subst, ◌∙◌, length-append}
use Rattle.std.proofs.lemmas.Bool.{true≢false, ne_eqb}
use Rattle.std.proofs.lemmas.Bool.Decides.{nat_tests}
use Rattle.std.proofs.lemmas.List.{append-nil}
use Rattle.base64.specs.Decode.{or_else, groups_error, groups_bytes, groups_before_last, lone_error, decode_outcome, scan_error, scan_bytes, scan_last, suffix_error, suffix_bytes}
use Rattle.base64.specs.GeneralPurpose.{decode_of, decoded_of, groups_error_of, groups_bytes_of}
use Rattle.base64.specs.declared.decode.DecodeError.{DecodeError}
use Rattle.base64.specs.declared.engine.DecodePaddingMode.{DecodePaddingMode}
use Rattle.base64.specs.declared.engine.general_purpose.GeneralPurpose.{GeneralPurpose}
use Rattle.base64.proofs.Decoding.{groups_error_first}
use Rattle.base64.proofs.Streams.{decoded_of-groups}
use Rattle.passkey_bytes.specs.Encoding.{window, ReadsZeros}

-- ---- the first group, and the rest as a text of its own

bad_outcome : (lone group suffix : Option DecodeError) (x : DecodeError) (bytes : List ℕ) → group ≡ Some x
    → is_ok (decode_outcome (or_else lone (or_else group suffix)) bytes) ≡ false
bad_outcome None group suffix x bytes e = rw e refl
bad_outcome (Some y) group suffix x bytes e = refl

bad_group : (e : GeneralPurpose) (s : List ℕ) (x : DecodeError) → 4 < length s → groups_error_of e s 1 ≡ Some x
    → is_ok (decode_of e s) ≡ false
bad_group e s x long bad =
    let all : groups_error e.decode_table s (groups_before_last (length s)) ≡ Some x =
    groups_error_first e.decode_table s 1 (groups_before_last (length s)) x bad (omega arith) in
    bad_outcome _ _ _ x _ all

some_prepended : (xs : List ℕ) (o : Option (List ℕ)) → is_some (prepend_known xs o) ≡ is_some o
some_prepended xs None = refl
some_prepended xs (Some ys) = refl

some_ok : {T E : Type 0} (r : Result T E) → is_some (result_ok r) ≡ is_ok r
some_ok (Ok x) = refl
some_ok (Err e) = refl

some_decoded : (e : GeneralPurpose) (s : List ℕ) → is_some (decoded_of e s) ≡ is_ok (decode_of e s)
unfolding decoded_of
some_decoded e s = some_ok (decode_of e s)

good_group : (e : GeneralPurpose) (s : List ℕ) → 4 < length s → groups_error_of e s 1 ≡ None
    → is_ok (decode_of e s) ≡ is_ok (decode_of e (drop 4 s))
good_group e s long good =
    let pieces : decoded_of e (s ++ []) ≡ prepend_known (groups_bytes_of e s 1) (decoded_of e (drop 4 s ++ [])) =
    decoded_of-groups e s [] 1 long good in
    let whole : decoded_of e s ≡ prepend_known (groups_bytes_of e s 1) (decoded_of e (drop 4 s)) =
    rw (append-nil s, append-nil (drop 4 s)) at pieces in
    sym (some_decoded e s) ∙ ap is_some whole ∙ some_prepended (groups_bytes_of e s 1) (decoded_of e (drop 4 s))
    ∙ some_decoded e (drop 4 s)

same_group : (dec s : List ℕ) → groups_error dec (window s) 1 ≡ groups_error dec s 1
unfolding groups_error
same_group dec s = refl

-- a text decodes exactly if its first group, followed by two symbols of value zero, and the rest do
pub group_by_group : (e : GeneralPurpose) (s : List ℕ) → ReadsZeros e → 4 < length s
    → is_ok (decode_of e s) ≡ (is_ok (decode_of e (window s)) && is_ok (decode_of e (drop 4 s)))
group_by_group e s zeros long =
    (elim (groups_error_of e s 1) as (λ (o : Option DecodeError). groups_error_of e s 1 ≡ o
    → is_ok (decode_of e s) ≡ (is_ok (decode_of e (window s)) && is_ok (decode_of e (drop 4 s)))) [
      | Some x ↦ λ bad. rw (
        bad_group e s x long bad,
        bad_group e (window s) x (omega arith) (same_group e.decode_table s ∙ bad),
      ) refl
      | None ↦ λ good. rw (good_group e (window s) (omega arith) (same_group e.decode_table s ∙ good), zeros)
          (good_group e s long good)
    ]) refl

-- ---- the bytes of a text with symbols

none_of : (x y : Option DecodeError) → or_else x y ≡ None → y ≡ None
none_of None y e = e
none_of (Some x) y e = cc

outcome_ok : (x : Option DecodeError) (bytes b : List ℕ) → decode_outcome x bytes ≡ Ok b → (x ≡ None) × (bytes ≡ b)
outcome_ok None bytes b e = (refl, cc)
outcome_ok (Some x) bytes b e = cc

some_taken : (n x : ℕ) (xs : List ℕ) → 0 < n → 0 < length (take n (x ∷ xs))
some_taken zero x xs some = absurd (omega arith)
some_taken (suc n) x xs some = omega arith

not_few : (b : Bool) (x : DecodeError) (y : Option DecodeError) → (if b then Some x else y) ≡ None → b ≡ false
not_few true x y e = cc
not_few false x y e = refl

some_suffix : (is_empty : Bool) (at : ℕ) (allow : Bool) (mode : DecodePaddingMode) (r : Result _ DecodeError)
    → is_empty ≡ false → scan_error is_empty at allow mode r ≡ None → 0 < length (scan_bytes r)
some_suffix is_empty at allow mode (Err e) some good = cc
some_suffix true at allow mode (Ok st) some good = absurd (true≢false some)
some_suffix false at allow mode (Ok st) some good =
    let few : nat_lt st.morsels_count 2 ≡ false = not_few (nat_lt st.morsels_count 2) _ _ good in
    let enough : 0 < st.morsels_count * 6 / 8 = grind (arith, nat_tests) in
    some_taken (st.morsels_count * 6 / 8) _ _ enough

pub some_bytes : (e : GeneralPurpose) (s b : List ℕ) → 0 < length s → decode_of e s ≡ Ok b → 0 < length b
some_bytes e s b some is =
    let dec = e.decode_table in
    let pad = e.padding.value in
    let last = groups_before_last (length s) in
    let outcome = outcome_ok _ _ b is in
    let suffix : suffix_error dec pad e.config.decode_allow_trailing_bits e.config.decode_padding_mode (4 * last) s
    ≡ None = none_of (groups_error dec s last) _ (none_of (lone_error dec pad s) _ outcome.0) in
    let filled : (length s == 0) ≡ false = ne_eqb _ _ (λ e. omega arith) in
    let more : 0 < length (suffix_bytes dec pad (4 * last) s) =
    some_suffix (length s == 0) (4 * last) e.config.decode_allow_trailing_bits e.config.decode_padding_mode
    (scan_last dec pad (4 * last) s) filled suffix in
    subst (λ (bytes : List ℕ). 0 < length bytes) outcome.1
    (omega (arith, length-append (groups_bytes dec s last) (suffix_bytes dec pad (4 * last) s)))
