-- A key that was read can be read back after it is written.
use Rattle.std.specs.List.{find}
use Rattle.std.specs.Option.{option_and_then}
use Rattle.std.specs.Cmp.{signed_Decides}
use Rattle.std.specs.Result.{result_map_both}
use Rattle.std.proofs.Common.{◌≡◌, ℕ, ℤ, pos, suc, ◌≤◌, max, [], ◌∷◌, ◌++◌, Bool, true, false, not, if◌then◌else◌, Option, Some, None, option_map, Result, Ok, Err, refl, sym, ap, subst, arith}
use Rattle.std.proofs.lemmas.Bool.{and_from, le-leb}
use Rattle.passkey_cbor.specs.Depth.{depth, pairs_depth}
use Rattle.passkey_cbor.specs.LeadingItem.{max_depth}
use Rattle.passkey_cbor.specs.Item.{Item, number, text_string, map, members, pairs_of}
use Rattle.passkey_iana.specs.Iana.{key_type_named}
use Rattle.passkey_iana.specs.Signed64.{is_signed_64}
use Rattle.passkey_cose.specs.KeyFaults.{first_fault}
use Rattle.passkey_cose.specs.KeyLabels.{Members, is_label, is_common}
use Rattle.passkey_cose.specs.KeyParts.{KeyParts, member, key_members, key_item}
use Rattle.passkey_cose.specs.KeyReading.{assigned_or_other, name_in, under, further, key_from, key_type, key_or_fault}
use Rattle.passkey_cose.specs.Registered.{Named, assigned, other}
use Rattle.passkey_cose.specs.declared.error.CoseError.{CoseError}
use Rattle.passkey_iana.specs.declared.key_type.KeyType.{KeyType}
use Rattle.passkey_iana.specs.declared.key_type.KeyType.TheVariants.{Reserved}
use Rattle.passkey_cose.specs.KeyReadable.{is_shallow, is_reserved, is_key_readable}
use Rattle.passkey_cose.specs.KeyLaws.{ReadIsReadable}
use Rattle.passkey_cose.proofs.KeyHeld.{key_type_is}
use Rattle.passkey_cose.proofs.KeyRound.{sorted_of, type_of, written_members}
use Rattle.passkey_cose.proofs.KeyDepth.{members_depth-append}
use Rattle.passkey_cbor.proofs.items.Items.{pairs_of-members}

-- ---- a key that was read has no more levels than its data item

under_shallow : (n : ℕ) (ms : Members) → pairs_depth (pairs_of (member n (under n ms))) ≤ pairs_depth (pairs_of ms)
under_shallow n [] = omega arith
under_shallow n (m ∷ ms) =
    let rest = under_shallow n ms in
    elim (is_label n m.0) as (λ (b : Bool). pairs_depth (pairs_of (member n (option_map (λ (l : Item × Item). l.1)
    (if b then Some m else find (λ (l : Item × Item). is_label n l.0) ms))))
    ≤ max (max (depth m.0) (depth m.1)) (pairs_depth (pairs_of ms))) [
      | true ↦ omega arith
      | false ↦ omega arith
    ]

further_shallow : (ms : Members) → pairs_depth (pairs_of (further ms)) ≤ pairs_depth (pairs_of ms)
further_shallow [] = omega arith
further_shallow (m ∷ ms) =
    let rest = further_shallow ms in
    elim (is_common m.0) as (λ (b : Bool). pairs_depth (pairs_of (if not b then m ∷ further ms else further ms))
    ≤ max (max (depth m.0) (depth m.1)) (pairs_depth (pairs_of ms))) [
      | true ↦ omega arith
      | false ↦ omega arith
    ]

sorted_shallow : (ms : Members) → pairs_depth (pairs_of (sorted_of ms)) ≤ pairs_depth (pairs_of ms)
unfolding sorted_of
sorted_shallow ms =
    let a = member 1 (under 1 ms) in
    let b = member 2 (under 2 ms) in
    let c = member 3 (under 3 ms) in
    let d = member 4 (under 4 ms) in
    let e = member 5 (under 5 ms) in
    let f = further ms in
    let p = members_depth-append a (b ++ (c ++ (d ++ (e ++ f)))) in
    let q = members_depth-append b (c ++ (d ++ (e ++ f))) in
    let r = members_depth-append c (d ++ (e ++ f)) in
    let s = members_depth-append d (e ++ f) in
    let t = members_depth-append e f in
    omega (
      arith,
      p,
      q,
      r,
      s,
      t,
      under_shallow 1 ms,
      under_shallow 2 ms,
      under_shallow 3 ms,
      under_shallow 4 ms,
      under_shallow 5 ms,
      further_shallow ms,
    )

-- ---- its type isn't the reserved one

other_unnamed : (i : Item) (z : ℤ) → name_in key_type_named i ≡ Some (other z) → key_type_named z ≡ None
other_unnamed (number w) z e =
    (elim (is_signed_64 w) as (λ (b : Bool). (if b then Some (assigned_or_other w (key_type_named w)) else None)
    ≡ Some (other z) → key_type_named z ≡ None) [
      | true ↦ (elim (key_type_named w) as (λ (o : Option KeyType). key_type_named w ≡ o
          → Some (assigned_or_other w o) ≡ Some (other z) → key_type_named z ≡ None) [
            | Some a ↦ λ h. λ g. cc
            | None ↦ λ h. λ g. (let same : w ≡ z = cc in subst (λ (v : ℤ). key_type_named v ≡ None) same h)
          ]) refl
      | false ↦ λ g. cc
    ]) e
other_unnamed (text_string s) z e = cc
other_unnamed i z e = cc

other_kept : (o : Option Item) (z : ℤ) → option_and_then (name_in key_type_named) o ≡ Some (other z)
    → key_type_named z ≡ None
other_kept None z e = cc
other_kept (Some i) z e = other_unnamed i z e

other_unreserved : (z : ℤ) → key_type_named z ≡ None → is_reserved (other z) ≡ false
other_unreserved z e =
    (elim (is_reserved (other z)) as (λ (b : Bool). is_reserved (other z) ≡ b → is_reserved (other z) ≡ false) [
      | true ↦ λ h. (let same : pos 0 ≡ z = (signed_Decides (pos 0) z).0 h in let named : key_type_named (pos 0)
          ≡ None = subst (λ (w : ℤ). key_type_named w ≡ None) (sym same) e in cc)
      | false ↦ λ h. h
    ]) refl

unreserved : (o : Option Item) (kty : Named KeyType)
    → key_type (option_and_then (name_in key_type_named) o) ≡ Ok kty → is_reserved kty ≡ false
unreserved o (assigned Reserved) e =
    let stands : option_and_then (name_in key_type_named) o ≡ Some (assigned Reserved) =
    key_type_is (option_and_then (name_in key_type_named) o) (assigned Reserved) e in
    let never : key_type (Some (assigned Reserved)) ≡ Ok (assigned Reserved) =
    subst (λ (n : Option (Named KeyType)). key_type n ≡ Ok (assigned Reserved)) stands e in
    cc
unreserved o (other z) e =
    other_unreserved z (other_kept o z (key_type_is (option_and_then (name_in key_type_named) o) (other z) e))
unreserved o _ e = refl

-- ---- a key that was read is readable

typed_readable : (ms : Members) (kty : Named KeyType) → first_fault [] ms ≡ None
    → key_type (option_and_then (name_in key_type_named) (under 1 ms)) ≡ Ok kty
    → suc (pairs_depth (pairs_of ms)) ≤ max_depth → is_key_readable (key_from ms kty) ≡ true
unfolding type_of
typed_readable ms kty good e shallow =
    let written : key_members (key_from ms kty) ≡ sorted_of ms =
    written_members ms kty good (key_type_is (option_and_then (name_in key_type_named) (under 1 ms)) kty e) in
    let less = sorted_shallow ms in
    let sorted_fits : suc (pairs_depth (pairs_of (sorted_of ms))) ≤ max_depth = omega (arith, less, shallow) in
    let fits : suc (pairs_depth (pairs_of (key_members (key_from ms kty)))) ≤ max_depth =
    subst (λ (ns : Members). suc (pairs_depth (pairs_of ns)) ≤ max_depth) (sym written) sorted_fits in
    and_from (not (is_reserved kty)) (is_shallow (key_item (key_from ms kty)))
    (ap not (unreserved (under 1 ms) kty e)) (le-leb _ _ fits)

good_readable : (ms : Members) (k : KeyParts) → first_fault [] ms ≡ None → key_or_fault ms None ≡ Ok k
    → suc (pairs_depth (pairs_of ms)) ≤ max_depth → is_key_readable k ≡ true
good_readable ms k good e shallow =
    (elim (key_type (option_and_then (name_in key_type_named) (under 1 ms)))
    as (λ (r : Result (Named KeyType) CoseError). key_type (option_and_then (name_in key_type_named) (under 1
    ms)) ≡ r → result_map_both (key_from ms) (λ (e : CoseError). e) r ≡ Ok k → is_key_readable k ≡ true) [
      | Ok kty ↦ λ h. λ w. (let same : key_from ms kty ≡ k =
          cc in subst (λ (l : KeyParts). is_key_readable l ≡ true) same (typed_readable ms kty good h shallow))
      | Err f ↦ λ h. λ w. cc
    ]) refl e

members_readable : (ms : Members) (k : KeyParts) → key_or_fault ms (first_fault [] ms) ≡ Ok k
    → suc (pairs_depth (pairs_of ms)) ≤ max_depth → is_key_readable k ≡ true
members_readable ms k e shallow =
    (elim (first_fault [] ms)
    as (λ (o : Option CoseError). first_fault [] ms ≡ o → key_or_fault ms o ≡ Ok k → is_key_readable k ≡ true) [
      | Some f ↦ λ h. λ w. cc
      | None ↦ λ h. λ w. good_readable ms k h w shallow
    ]) refl e

pub read_is_readable : ReadIsReadable
read_is_readable (map ps) k e shallow = members_readable (members ps) k e (rw (pairs_of-members ps) shallow)
read_is_readable i k e shallow = cc
