-- certInfo and pubArea, when read, are written as the same bytes.
use Rattle.std.specs.Result.{result_ok}
use Rattle.std.specs.Int.{Width, w8, w16, w32, w64, from_be_bytes, to_be_bytes}
use Rattle.std.proofs.Common.{◌≡◌, ◌∙◌, ◌==◌, ◌&&◌, ◌+◌, ◌≤◌, ℕ, ◌<◌, nat_lt, List, [], ◌∷◌, ◌++◌, length, slice_index, take, drop, Bool, true, false, if◌then◌else◌, ◌⊎◌, inl, inr, Option, Some, None, Result, Ok, Err, refl, sym, ap, subst, arith, lit<}
use Rattle.std.proofs.Math.ListN.{get_or-append}
use Rattle.std.proofs.lemmas.Bool.{and_parts, cases_lt, eqb-true, leb-true}
use Rattle.std.proofs.lemmas.Bool.Decides.{nat_tests}
use Rattle.std.proofs.lemmas.List.{append_assoc, append-nil, get_or-append-add, get_or_past, length-take-le, take-append-drop}
use Rattle.std.proofs.lemmas.Nat.{be_bytes_2, be_bytes_4, be_bytes_8}
use Rattle.passkey_tpm.specs.CertInfo.{CertInfoParts, magic, certify, header_at, clock_info_at, cert_info_at, cert_info_read, clock_info_written, cert_info_written}
use Rattle.passkey_tpm.specs.HashAlgorithm.{hash_of, hash_at}
use Rattle.passkey_tpm.specs.Laws.{CertInfoIsWrittenBack, PubAreaIsWrittenBack}
use Rattle.passkey_tpm.specs.Parts.{IsBytes, ◌>>=◌, bytes_at, number_at, constant_at, cut_off, wide_constant_at, u8_at, u16_at, u32_at, u64_at, sized_at, sized_written, whole_only}
use Rattle.passkey_tpm.specs.PubArea.{KeyParts, RsaParts, EccParts, PubAreaParts, curve_of, curve_at, null_written, type_at, rsa_at, ecc_at, key_at, key_type, key_written, rsa_written, ecc_written, pub_area_at, pub_area_read, pub_area_written}
use Rattle.passkey_tpm.specs.PubArea.KeyParts.{rsa, ecc}
use Rattle.passkey_tpm.specs.Scheme.{hash_written, hashed, rsa_scheme_at, ecdaa_at, ecc_scheme_at, kdf_at, rsa_scheme_written, ecc_scheme_written, kdf_written}
use Rattle.passkey_tpm.specs.declared.cert_info.ClockInfo.{ClockInfo}
use Rattle.passkey_tpm.specs.declared.hash_algorithm.HashAlgorithm.{HashAlgorithm}
use Rattle.passkey_tpm.specs.declared.public_key.Curve.{Curve}
use Rattle.passkey_tpm.specs.declared.public_key.KeyType.{KeyType}
use Rattle.passkey_tpm.specs.declared.public_key.KeyType.TheVariants as kind
use Rattle.passkey_tpm.specs.declared.refusal.Stop.{Stop}
use Rattle.passkey_tpm.specs.declared.refusal.TpmField.{TpmField}
use Rattle.passkey_tpm.specs.declared.refusal.TpmField.TheVariants as field
use Rattle.passkey_tpm.specs.declared.scheme.EccScheme.{EccScheme}
use Rattle.passkey_tpm.specs.declared.scheme.EccScheme.TheVariants as ecc_scheme
use Rattle.passkey_tpm.specs.declared.scheme.KdfScheme.{KdfScheme}
use Rattle.passkey_tpm.specs.declared.scheme.KdfScheme.TheVariants as kdf_scheme
use Rattle.passkey_tpm.specs.declared.scheme.RsaScheme.{RsaScheme}
use Rattle.passkey_tpm.specs.declared.scheme.RsaScheme.TheVariants as rsa_scheme

-- ---- a part that was read, and what follows it

-- The bytes are a part's encoding, and what follows.
record Taken (bytes written rest : List ℕ) : Type 0 where
  joined : written ++ rest ≡ bytes
  fits : IsBytes rest

-- A step that returned a value went on from one.
record Went {X Y : Type 0} (o : Result X Stop) (next : X → Result Y Stop) (y : Y) : Type 0 where
  x : X
  was : o ≡ Ok x
  gives : next x ≡ Ok y

moves : {X Y : Type 0} (o : Result X Stop) (next : X → Result Y Stop) (y : Y) → (o >>= next) ≡ Ok y → Went o next y
moves (Err s) next y e = absurd cc
moves (Ok x) next y e = record { x = x; was = refl; gives = e }

ok_is : {X : Type 0} {x y : X} → ◌≡◌ {A = Result X Stop} (Ok x) (Ok y) → x ≡ y
ok_is e = cc

-- a value that was found is one that a step returned
was_ok : {X : Type 0} (r : Result X Stop) (x : X) → result_ok r ≡ Some x → r ≡ Ok x
was_ok (Ok y) x e = cc
was_ok (Err s) x e = absurd cc

pair_is : {X : Type 0} {x y : X} {r s : List ℕ} → ◌≡◌ {A = Result (X × List ℕ) Stop} (Ok (x, r)) (Ok (y, s))
    → (x ≡ y) × (r ≡ s)
pair_is {X} e = let p = ok_is e in (ap (λ (q : X × List ℕ). q.0) p, ap (λ (q : X × List ℕ). q.1) p)

-- ---- parts of a fixed length

record Front (n : ℕ) (bytes front rest : List ℕ) : Type 0 where
  taken : Taken bytes front rest
  sized : length front ≡ n
  fits : IsBytes front

-- the value of a test that stopped nothing
stopped_not : {X : Type 0} (b : Bool) (s : Stop) (x y : X) → (if b then Err s else Ok x) ≡ Ok y → (b ≡ false) × (x ≡ y)
stopped_not true s x y e = absurd cc
stopped_not false s x y e = (refl, cc)

front_fits : (front rest : List ℕ) → IsBytes (front ++ rest) → IsBytes front
front_fits front rest h i = by_case (nat_lt i (length front)) refl where
  by_case : (b : Bool) → nat_lt i (length front) ≡ b → slice_index front i < 256
  by_case true is =
      let less : i < length front = leb-true _ _ is in
      subst (λ (n : ℕ). n < 256) (get_or-append front rest 0 i less) (h i)
  by_case false is =
      let past : length front ≤ i = grind (arith, nat_tests, cases_lt) in
      subst (λ (n : ℕ). n < 256) (sym (get_or_past front i 0 past)) (lit< tt)

rest_fits : (front rest : List ℕ) → IsBytes (front ++ rest) → IsBytes rest
rest_fits front rest h i = subst (λ (n : ℕ). n < 256) (get_or-append-add front rest i 0) (h (length front + i))

bytes_taken : (s : Stop) (n : ℕ) (bytes front rest : List ℕ) → IsBytes bytes → bytes_at s n bytes ≡ Ok (front, rest)
    → Front n bytes front rest
bytes_taken s n bytes front rest fits e =
    let parts : List ℕ × List ℕ = (take n bytes, drop n bytes) in
    let p = stopped_not (nat_lt (length bytes) n) s parts (front, rest) e in
    let same : take n bytes ≡ front = ap (λ (r : List ℕ × List ℕ). r.0) p.1 in
    let following : drop n bytes ≡ rest = ap (λ (r : List ℕ × List ℕ). r.1) p.1 in
    let short = p.0 in
    let long : n ≤ length bytes = grind (arith, nat_tests, cases_lt, short) in
    let joined : front ++ rest ≡ bytes = rw (← same, ← following) (take-append-drop n bytes) in
    let whole : IsBytes (front ++ rest) = subst (λ (t : List ℕ). IsBytes t) (sym joined) fits in record {
      taken = record { joined = joined; fits = rest_fits front rest whole };
      sized = ap length (sym same) ∙ length-take-le n bytes long;
      fits = front_fits front rest whole;
    }

-- the same bytes, in another spelling
respelled : {bytes written other rest : List ℕ} → written ≡ other → Taken bytes written rest → Taken bytes other rest
respelled {bytes} {written} {other} {rest} e t =
    record { joined = ap (λ (w : List ℕ). w ++ rest) (sym e) ∙ t.joined; fits = t.fits }

-- a part, and then another one
then_taken : {bytes a b mid rest : List ℕ} → Taken bytes a mid → Taken mid b rest → Taken bytes (a ++ b) rest
then_taken {bytes} {a} {b} {mid} {rest} s t = record {
  joined = append_assoc a b rest ∙ ap (λ (w : List ℕ). a ++ w) t.joined ∙ s.joined;
  fits = t.fits;
}

one_byte : (front : List ℕ) → length front ≡ 1 → front ≡ from_be_bytes w8 front ∷ []
one_byte [] e = absurd (omega (arith, e))
one_byte (b ∷ []) e = refl
one_byte (b ∷ c ∷ bs) e = absurd (omega (arith, e))

u8_taken : (f : TpmField) (bytes : List ℕ) (n : ℕ) (rest : List ℕ) → IsBytes bytes → u8_at f bytes ≡ Ok (n, rest)
    → Taken bytes (n ∷ []) rest
unfolding u8_at
u8_taken f bytes n rest fits e =
    let w = moves (bytes_at (cut_off f bytes) 1 bytes) _ (n, rest) e in
    let t = bytes_taken (cut_off f bytes) 1 bytes w.x.0 w.x.1 fits w.was in
    let number : from_be_bytes w8 w.x.0 ≡ n = (pair_is w.gives).0 in
    let following : w.x.1 ≡ rest = (pair_is w.gives).1 in
    subst (λ (r : List ℕ). Taken bytes (n ∷ []) r) following
    (respelled (one_byte w.x.0 t.sized ∙ ap (λ (m : ℕ). m ∷ []) number) t.taken)

-- an unsigned integer of a width that has n bytes, whose bytes are those that it was decoded from
number_taken : (f : TpmField) (w : Width) (n : ℕ)
    → ((front : List ℕ) (m : ℕ) → length front ≡ n → IsBytes front → m ≡ from_be_bytes w front → to_be_bytes w m ≡ front)
    → (bytes : List ℕ) (m : ℕ) (rest : List ℕ) → IsBytes bytes
    → number_at f w n bytes ≡ Ok (m, rest)
    → Taken bytes (to_be_bytes w m) rest
number_taken f w n again bytes m rest fits e =
    let r = moves (bytes_at (cut_off f bytes) n bytes) _ (m, rest) e in
    let t = bytes_taken (cut_off f bytes) n bytes r.x.0 r.x.1 fits r.was in
    let number : m ≡ from_be_bytes w r.x.0 = sym (pair_is r.gives).0 in
    let following : r.x.1 ≡ rest = (pair_is r.gives).1 in
    subst (λ (l : List ℕ). Taken bytes (to_be_bytes w m) l) following
    (respelled (sym (again r.x.0 m t.sized t.fits number)) t.taken)

u16_taken : (f : TpmField) (bytes : List ℕ) (n : ℕ) (rest : List ℕ) → IsBytes bytes → u16_at f bytes ≡ Ok (n, rest)
    → Taken bytes (to_be_bytes w16 n) rest
unfolding u16_at
u16_taken f = number_taken f w16 2 be_bytes_2

u32_taken : (f : TpmField) (bytes : List ℕ) (n : ℕ) (rest : List ℕ) → IsBytes bytes → u32_at f bytes ≡ Ok (n, rest)
    → Taken bytes (to_be_bytes w32 n) rest
unfolding u32_at
u32_taken f = number_taken f w32 4 be_bytes_4

u64_taken : (f : TpmField) (bytes : List ℕ) (n : ℕ) (rest : List ℕ) → IsBytes bytes → u64_at f bytes ≡ Ok (n, rest)
    → Taken bytes (to_be_bytes w64 n) rest
unfolding u64_at
u64_taken f = number_taken f w64 8 be_bytes_8

sized_taken : (f : TpmField) (bytes s rest : List ℕ) → IsBytes bytes → sized_at f bytes ≡ Ok (s, rest)
    → Taken bytes (sized_written s) rest
unfolding sized_at
sized_taken f bytes s rest fits e =
    let w = moves (u16_at f bytes) _ (s, rest) e in
    let len = u16_taken f bytes w.x.0 w.x.1 fits w.was in
    let t = bytes_taken (cut_off f bytes) w.x.0 w.x.1 s rest len.fits w.gives in
    then_taken (respelled (ap (to_be_bytes w16) (sym t.sized)) len) t.taken

-- ---- certInfo

-- the value of a test that let something through
passed : {X : Type 0} (b : Bool) (s : Stop) (x y : X) → (if b then Ok x else Err s) ≡ Ok y → (b ≡ true) × (x ≡ y)
passed true s x y e = (refl, cc)
passed false s x y e = absurd cc

constant_taken : (f : TpmField) (k : ℕ) (bytes rest : List ℕ) → IsBytes bytes → constant_at f k bytes ≡ Ok rest
    → Taken bytes (to_be_bytes w16 k) rest
unfolding constant_at
constant_taken f k bytes rest fits e =
    let w = moves (u16_at f bytes) _ rest e in
    let t = u16_taken f bytes w.x.0 w.x.1 fits w.was in
    let p = passed (w.x.0 == k) _ w.x.1 rest w.gives in
    subst (λ (r : List ℕ). Taken bytes (to_be_bytes w16 k) r) p.1
    (respelled (ap (to_be_bytes w16) (eqb-true w.x.0 k p.0)) t)

wide_constant_taken : (f : TpmField) (k : ℕ) (bytes rest : List ℕ) → IsBytes bytes → wide_constant_at f k bytes ≡ Ok rest
    → Taken bytes (to_be_bytes w32 k) rest
unfolding wide_constant_at
wide_constant_taken f k bytes rest fits e =
    let w = moves (u32_at f bytes) _ rest e in
    let t = u32_taken f bytes w.x.0 w.x.1 fits w.was in
    let p = passed (w.x.0 == k) _ w.x.1 rest w.gives in
    subst (λ (r : List ℕ). Taken bytes (to_be_bytes w32 k) r) p.1
    (respelled (ap (to_be_bytes w32) (eqb-true w.x.0 k p.0)) t)

header_taken : (bytes rest : List ℕ) → IsBytes bytes → header_at bytes ≡ Ok rest
    → Taken bytes (to_be_bytes w32 magic ++ to_be_bytes w16 certify) rest
unfolding header_at
header_taken bytes rest fits e =
    let w = moves (wide_constant_at field.Magic magic bytes) _ rest e in
    let t = wide_constant_taken field.Magic magic bytes w.x fits w.was in
    then_taken t (constant_taken field.AttestType certify w.x rest t.fits w.gives)

clock_info_taken : (bytes : List ℕ) (c : ClockInfo) (rest : List ℕ) → IsBytes bytes
    → clock_info_at bytes ≡ Ok (c, rest) → Taken bytes (clock_info_written c) rest
unfolding clock_info_at
clock_info_taken bytes c rest fits e =
    let w1 = moves (u64_at field.Clock bytes) _ (c, rest) e in
    let t1 = u64_taken field.Clock bytes w1.x.0 w1.x.1 fits w1.was in
    let w2 = moves (u32_at field.ResetCount w1.x.1) _ (c, rest) w1.gives in
    let t2 = u32_taken field.ResetCount w1.x.1 w2.x.0 w2.x.1 t1.fits w2.was in
    let w3 = moves (u32_at field.RestartCount w2.x.1) _ (c, rest) w2.gives in
    let t3 = u32_taken field.RestartCount w2.x.1 w3.x.0 w3.x.1 t2.fits w3.was in
    let w4 = moves (u8_at field.Safe w3.x.1) _ (c, rest) w3.gives in
    let t4 = u8_taken field.Safe w3.x.1 w4.x.0 w4.x.1 t3.fits w4.was in
    let made : ClockInfo = record { clock = w1.x.0; reset_count = w2.x.0; restart_count = w3.x.0; safe = w4.x.0 } in
    let ends = pair_is {x = made} {y = c} {r = w4.x.1} {s = rest} w4.gives in
    let same : made ≡ c = ends.0 in
    let following : w4.x.1 ≡ rest = ends.1 in
    subst (λ (r : List ℕ). Taken bytes (clock_info_written c) r) following
    (subst (λ (m : ClockInfo). Taken bytes (clock_info_written m) w4.x.1) {x = made} same
    (then_taken (then_taken (then_taken t1 t2) t3) t4))

cert_info_taken : (bytes : List ℕ) (c : CertInfoParts) (rest : List ℕ) → IsBytes bytes
    → cert_info_at bytes ≡ Ok (c, rest) → Taken bytes (cert_info_written c) rest
unfolding cert_info_at
cert_info_taken bytes c rest fits e =
    let w0 = moves (header_at bytes) _ (c, rest) e in
    let t0 = header_taken bytes w0.x fits w0.was in
    let w1 = moves (sized_at field.QualifiedSigner w0.x) _ (c, rest) w0.gives in
    let t1 = sized_taken field.QualifiedSigner w0.x w1.x.0 w1.x.1 t0.fits w1.was in
    let w2 = moves (sized_at field.ExtraData w1.x.1) _ (c, rest) w1.gives in
    let t2 = sized_taken field.ExtraData w1.x.1 w2.x.0 w2.x.1 t1.fits w2.was in
    let w3 = moves (clock_info_at w2.x.1) _ (c, rest) w2.gives in
    let t3 = clock_info_taken w2.x.1 w3.x.0 w3.x.1 t2.fits w3.was in
    let w4 = moves (u64_at field.FirmwareVersion w3.x.1) _ (c, rest) w3.gives in
    let t4 = u64_taken field.FirmwareVersion w3.x.1 w4.x.0 w4.x.1 t3.fits w4.was in
    let w5 = moves (sized_at field.Name w4.x.1) _ (c, rest) w4.gives in
    let t5 = sized_taken field.Name w4.x.1 w5.x.0 w5.x.1 t4.fits w5.was in
    let w6 = moves (sized_at field.QualifiedName w5.x.1) _ (c, rest) w5.gives in
    let t6 = sized_taken field.QualifiedName w5.x.1 w6.x.0 w6.x.1 t5.fits w6.was in
    let made : CertInfoParts = record {
      qualified_signer = w1.x.0;
      extra_data = w2.x.0;
      clock_info = w3.x.0;
      firmware_version = w4.x.0;
      name = w5.x.0;
      qualified_name = w6.x.0;
    } in
    let ends = pair_is {x = made} {y = c} {r = w6.x.1} {s = rest} w6.gives in
    let same : made ≡ c = ends.0 in
    let following : w6.x.1 ≡ rest = ends.1 in
    subst (λ (r : List ℕ). Taken bytes (cert_info_written c) r) following
    (subst (λ (m : CertInfoParts). Taken bytes (cert_info_written m) w6.x.1) {x = made} same
    (then_taken (then_taken (then_taken (then_taken (then_taken (then_taken t0 t1) t2) t3) t4) t5) t6))

-- nothing follows
empty_is : (l : List ℕ) → nat_lt 0 (length l) ≡ false → l ≡ []
empty_is [] e = refl
empty_is (b ∷ bs) e = absurd (grind (arith, nat_tests, cases_lt))

whole_taken : {X : Type 0} (bytes written : List ℕ) (r : X × List ℕ) (x : X) → whole_only r ≡ Ok x
    → Taken bytes written r.1 → (written ≡ bytes) × (r.0 ≡ x)
whole_taken bytes written r x e t =
    let p = stopped_not (nat_lt 0 (length r.1)) _ r.0 x e in
    let none = empty_is r.1 p.0 in
    (sym (append-nil written) ∙ ap (λ (l : List ℕ). written ++ l) (sym none) ∙ t.joined, p.1)

pub cert_info_same : CertInfoIsWrittenBack
cert_info_same bytes c fits e =
    let w = moves (cert_info_at bytes) _ c (was_ok (cert_info_read bytes) c e) in
    let t = cert_info_taken bytes w.x.0 w.x.1 fits w.was in
    let all = whole_taken bytes (cert_info_written w.x.0) w.x c w.gives t in
    ap cert_info_written (sym all.1) ∙ all.0

-- ---- pubArea

-- a test of a number, and what it chose
chosen : {X : Type 0} (n k : ℕ) (o other : Result X Stop) (x : X) → (if n == k then o else other) ≡ Ok x
    → ((n ≡ k) × (o ≡ Ok x)) ⊎ (other ≡ Ok x)
chosen n k o other x e = by_case (n == k) refl where
  by_case : (b : Bool) → (n == k) ≡ b → ((n ≡ k) × (o ≡ Ok x)) ⊎ (other ≡ Ok x)
  by_case true is = inl (eqb-true n k is, rw is at e)
  by_case false is = inr (rw is at e)

none_chosen : {X : Type 0} {P : Type 0} (s : Stop) (x : X) → ◌≡◌ {A = Result X Stop} (Err s) (Ok x) → P
none_chosen s x e = absurd cc

-- a number that is kept as it is
kept_taken : {X : Type 0} (f : TpmField) (make : ℕ → X) (number : X → ℕ) → ((n : ℕ) → number (make n) ≡ n)
    → (bytes : List ℕ) (x : X) (rest : List ℕ) → IsBytes bytes
    → ◌>>=◌ {Y = X × List ℕ} (u16_at f bytes) (λ id. Ok (make id.0, id.1)) ≡ Ok (x, rest)
    → Taken bytes (to_be_bytes w16 (number x)) rest
kept_taken f make number same bytes x rest fits e =
    let w = moves (u16_at f bytes) _ (x, rest) e in
    let t = u16_taken f bytes w.x.0 w.x.1 fits w.was in
    let made : make w.x.0 ≡ x = (pair_is w.gives).0 in
    let following : w.x.1 ≡ rest = (pair_is w.gives).1 in
    subst (λ (r : List ℕ). Taken bytes (to_be_bytes w16 (number x)) r) following
    (respelled (ap (to_be_bytes w16) (sym (same w.x.0) ∙ ap number made)) t)

hash_taken : (f : TpmField) (bytes : List ℕ) (h : HashAlgorithm) (rest : List ℕ) → IsBytes bytes
    → hash_at f bytes ≡ Ok (h, rest)
    → Taken bytes (hash_written h) rest
unfolding hash_at
hash_taken f = kept_taken f hash_of (λ h. h.0) (λ n. refl)

curve_taken : (bytes : List ℕ) (c : Curve) (rest : List ℕ) → IsBytes bytes → curve_at bytes ≡ Ok (c, rest)
    → Taken bytes (to_be_bytes w16 c.0) rest
unfolding curve_at
curve_taken = kept_taken field.CurveId curve_of (λ c. c.0) (λ n. refl)

-- the number of a key's type
abbrev type_id : KeyType → ℕ
type_id kind.Rsa = 0x0001
type_id kind.Ecc = 0x0023

type_taken : (bytes : List ℕ) (k : KeyType) (rest : List ℕ) → IsBytes bytes → type_at bytes ≡ Ok (k, rest)
    → Taken bytes (to_be_bytes w16 (type_id k)) rest
unfolding type_at
type_taken bytes k rest fits e =
    let w = moves (u16_at field.KeyType bytes) _ (k, rest) e in
    let t = u16_taken field.KeyType bytes w.x.0 w.x.1 fits w.was in
    elim (chosen w.x.0 0x0001 _ _ (k, rest) w.gives) [
      | inl p ↦ typed 0x0001 kind.Rsa refl t p.0 p.1
      | inr f ↦ elim (chosen w.x.0 0x0023 _ _ (k, rest) f) [
        | inl p ↦ typed 0x0023 kind.Ecc refl t p.0 p.1
        | inr f ↦ none_chosen _ (k, rest) f
      ]
    ]
  where
    typed : (n : ℕ) (this : KeyType) → type_id this ≡ n → {id : ℕ} {mid : List ℕ} → Taken bytes (to_be_bytes w16 id) mid
        → id ≡ n → ◌≡◌ {A = Result (KeyType × List ℕ) Stop} (Ok (this, mid)) (Ok (k, rest))
        → Taken bytes (to_be_bytes w16 (type_id k)) rest
    typed n this is t same e =
        let made : this ≡ k = (pair_is e).0 in
        let following = (pair_is e).1 in
        subst (λ (r : List ℕ). Taken bytes (to_be_bytes w16 (type_id k)) r) following
        (respelled (ap (to_be_bytes w16) (same ∙ sym is ∙ ap type_id made)) t)

-- the scheme's identifier, and its hash algorithm
hashed_taken : {S : Type 0} {bytes mid : List ℕ} {id n : ℕ} (f : TpmField) (make : HashAlgorithm → S)
    (written : S → List ℕ) → ((h : HashAlgorithm) → written (make h) ≡ to_be_bytes w16 n ++ hash_written h)
    → Taken bytes (to_be_bytes w16 id) mid → id ≡ n → (s : S) (rest : List ℕ) → hashed f make mid ≡ Ok (s, rest)
    → Taken bytes (written s) rest
hashed_taken {bytes = bytes} {mid = mid} f make written spelled t same s rest e =
    let w = moves (hash_at f mid) _ (s, rest) e in
    let u = hash_taken f mid w.x.0 w.x.1 t.fits w.was in
    let made : make w.x.0 ≡ s = (pair_is w.gives).0 in
    let following : w.x.1 ≡ rest = (pair_is w.gives).1 in
    subst (λ (r : List ℕ). Taken bytes (written s) r) following
    (respelled (sym (spelled w.x.0) ∙ ap written made) (then_taken (respelled (ap (to_be_bytes w16) same) t) u))

-- the scheme's identifier alone
alone_taken : {S : Type 0} {bytes mid : List ℕ} {id n : ℕ} (this : S) (written : S → List ℕ)
    → written this ≡ to_be_bytes w16 n → Taken bytes (to_be_bytes w16 id) mid → id ≡ n → (s : S) (rest : List ℕ)
    → ◌≡◌ {A = Result (S × List ℕ) Stop} (Ok (this, mid)) (Ok (s, rest)) → Taken bytes (written s) rest
alone_taken {S = S} {bytes = bytes} {mid = mid} this written spelled t same s rest e =
    let made : this ≡ s = (pair_is e).0 in
    let following : mid ≡ rest = (pair_is e).1 in
    subst (λ (r : List ℕ). Taken bytes (written s) r) following
    (respelled (ap (to_be_bytes w16) same ∙ sym spelled ∙ ap written made) t)

rsa_scheme_taken : (bytes : List ℕ) (s : RsaScheme) (rest : List ℕ) → IsBytes bytes
    → rsa_scheme_at bytes ≡ Ok (s, rest) → Taken bytes (rsa_scheme_written s) rest
unfolding rsa_scheme_at
rsa_scheme_taken bytes s rest fits e =
    let w = moves (u16_at field.Scheme bytes) _ (s, rest) e in
    let t = u16_taken field.Scheme bytes w.x.0 w.x.1 fits w.was in
    let id = w.x.0 in
    let mid = w.x.1 in
    elim (chosen id 0x0010 _ _ (s, rest) w.gives) [
      | inl p ↦ alone_taken rsa_scheme.Null rsa_scheme_written refl t p.0 s rest p.1
      | inr f ↦ elim (chosen id 0x0014 _ _ (s, rest) f) [
        | inl p ↦ hashed_taken field.SchemeHash rsa_scheme.RsaSsa rsa_scheme_written (λ h. refl) t p.0 s rest p.1
        | inr f ↦ elim (chosen id 0x0015 _ _ (s, rest) f) [
          | inl p ↦ alone_taken rsa_scheme.RsaEs rsa_scheme_written refl t p.0 s rest p.1
          | inr f ↦ elim (chosen id 0x0016 _ _ (s, rest) f) [
            | inl p ↦ hashed_taken field.SchemeHash rsa_scheme.RsaPss rsa_scheme_written (λ h. refl) t p.0 s rest p.1
            | inr f ↦ elim (chosen id 0x0017 _ _ (s, rest) f) [
              | inl p ↦ hashed_taken field.SchemeHash rsa_scheme.Oaep rsa_scheme_written (λ h. refl) t p.0 s rest p.1
              | inr f ↦ none_chosen _ (s, rest) f
            ]
          ]
        ]
      ]
    ]

ecdaa_taken : (bytes : List ℕ) (id : ℕ) (mid : List ℕ) → Taken bytes (to_be_bytes w16 id) mid → id ≡ 0x001A
    → (s : EccScheme) (rest : List ℕ) → ecdaa_at mid ≡ Ok (s, rest) → Taken bytes (ecc_scheme_written s) rest
unfolding ecdaa_at
ecdaa_taken bytes id mid t same s rest e =
    let w = moves (hash_at field.SchemeHash mid) _ (s, rest) e in
    let u = hash_taken field.SchemeHash mid w.x.0 w.x.1 t.fits w.was in
    let v = moves (u16_at field.SchemeCount w.x.1) _ (s, rest) w.gives in
    let c = u16_taken field.SchemeCount w.x.1 v.x.0 v.x.1 u.fits v.was in
    let made : ecc_scheme.Ecdaa w.x.0 v.x.0 ≡ s = (pair_is v.gives).0 in
    let following : v.x.1 ≡ rest = (pair_is v.gives).1 in
    subst (λ (r : List ℕ). Taken bytes (ecc_scheme_written s) r) following
    (respelled (ap ecc_scheme_written made)
    (then_taken (then_taken (respelled (ap (to_be_bytes w16) same) t) u) c))

ecc_scheme_taken : (bytes : List ℕ) (s : EccScheme) (rest : List ℕ) → IsBytes bytes
    → ecc_scheme_at bytes ≡ Ok (s, rest) → Taken bytes (ecc_scheme_written s) rest
unfolding ecc_scheme_at
ecc_scheme_taken bytes s rest fits e =
    let w = moves (u16_at field.Scheme bytes) _ (s, rest) e in
    let t = u16_taken field.Scheme bytes w.x.0 w.x.1 fits w.was in
    let id = w.x.0 in
    let mid = w.x.1 in
    elim (chosen id 0x0010 _ _ (s, rest) w.gives) [
      | inl p ↦ alone_taken ecc_scheme.Null ecc_scheme_written refl t p.0 s rest p.1
      | inr f ↦ elim (chosen id 0x0018 _ _ (s, rest) f) [
        | inl p ↦ hashed_taken field.SchemeHash ecc_scheme.Ecdsa ecc_scheme_written (λ h. refl) t p.0 s rest p.1
        | inr f ↦ elim (chosen id 0x0019 _ _ (s, rest) f) [
          | inl p ↦ hashed_taken field.SchemeHash ecc_scheme.Ecdh ecc_scheme_written (λ h. refl) t p.0 s rest p.1
          | inr f ↦ elim (chosen id 0x001A _ _ (s, rest) f) [
            | inl p ↦ ecdaa_taken bytes id mid t p.0 s rest p.1
            | inr f ↦ elim (chosen id 0x001B _ _ (s, rest) f) [
              | inl p ↦ hashed_taken field.SchemeHash ecc_scheme.Sm2 ecc_scheme_written (λ h. refl) t p.0 s rest p.1
              | inr f ↦ elim (chosen id 0x001C _ _ (s, rest) f) [
                | inl p ↦ hashed_taken field.SchemeHash ecc_scheme.EcSchnorr ecc_scheme_written (λ h. refl) t p.0 s rest p.1
                | inr f ↦ elim (chosen id 0x001D _ _ (s, rest) f) [
                  | inl p ↦ hashed_taken field.SchemeHash ecc_scheme.EcMqv ecc_scheme_written (λ h. refl) t p.0 s rest p.1
                  | inr f ↦ none_chosen _ (s, rest) f
                ]
              ]
            ]
          ]
        ]
      ]
    ]

kdf_taken : (bytes : List ℕ) (s : KdfScheme) (rest : List ℕ) → IsBytes bytes → kdf_at bytes ≡ Ok (s, rest)
    → Taken bytes (kdf_written s) rest
unfolding kdf_at
kdf_taken bytes s rest fits e =
    let w = moves (u16_at field.Kdf bytes) _ (s, rest) e in
    let t = u16_taken field.Kdf bytes w.x.0 w.x.1 fits w.was in
    let id = w.x.0 in
    let mid = w.x.1 in
    elim (chosen id 0x0010 _ _ (s, rest) w.gives) [
      | inl p ↦ alone_taken kdf_scheme.Null kdf_written refl t p.0 s rest p.1
      | inr f ↦ elim (chosen id 0x0007 _ _ (s, rest) f) [
        | inl p ↦ hashed_taken field.KdfHash kdf_scheme.Mgf1 kdf_written (λ h. refl) t p.0 s rest p.1
        | inr f ↦ elim (chosen id 0x0020 _ _ (s, rest) f) [
          | inl p ↦ hashed_taken field.KdfHash kdf_scheme.Kdf1Sp80056a kdf_written (λ h. refl) t p.0 s rest p.1
          | inr f ↦ elim (chosen id 0x0021 _ _ (s, rest) f) [
            | inl p ↦ hashed_taken field.KdfHash kdf_scheme.Kdf2 kdf_written (λ h. refl) t p.0 s rest p.1
            | inr f ↦ elim (chosen id 0x0022 _ _ (s, rest) f) [
              | inl p ↦ hashed_taken field.KdfHash kdf_scheme.Kdf1Sp800108 kdf_written (λ h. refl) t p.0 s rest p.1
              | inr f ↦ none_chosen _ (s, rest) f
            ]
          ]
        ]
      ]
    ]

rsa_taken : (bytes : List ℕ) (k : RsaParts) (rest : List ℕ) → IsBytes bytes → rsa_at bytes ≡ Ok (k, rest)
    → Taken bytes (rsa_written k) rest
unfolding rsa_at
rsa_taken bytes k rest fits e =
    let w0 = moves (constant_at field.Symmetric 0x0010 bytes) _ (k, rest) e in
    let t0 = constant_taken field.Symmetric 0x0010 bytes w0.x fits w0.was in
    let w1 = moves (rsa_scheme_at w0.x) _ (k, rest) w0.gives in
    let t1 = rsa_scheme_taken w0.x w1.x.0 w1.x.1 t0.fits w1.was in
    let w2 = moves (u16_at field.KeyBits w1.x.1) _ (k, rest) w1.gives in
    let t2 = u16_taken field.KeyBits w1.x.1 w2.x.0 w2.x.1 t1.fits w2.was in
    let w3 = moves (u32_at field.Exponent w2.x.1) _ (k, rest) w2.gives in
    let t3 = u32_taken field.Exponent w2.x.1 w3.x.0 w3.x.1 t2.fits w3.was in
    let w4 = moves (sized_at field.Modulus w3.x.1) _ (k, rest) w3.gives in
    let t4 = sized_taken field.Modulus w3.x.1 w4.x.0 w4.x.1 t3.fits w4.was in
    let made : RsaParts = record { scheme = w1.x.0; key_bits = w2.x.0; exponent = w3.x.0; modulus = w4.x.0 } in
    let ends = pair_is {x = made} {y = k} {r = w4.x.1} {s = rest} w4.gives in
    let same : made ≡ k = ends.0 in
    let following : w4.x.1 ≡ rest = ends.1 in
    subst (λ (r : List ℕ). Taken bytes (rsa_written k) r) following
    (subst (λ (m : RsaParts). Taken bytes (rsa_written m) w4.x.1) {x = made} same
    (then_taken (then_taken (then_taken (then_taken t0 t1) t2) t3) t4))

ecc_taken : (bytes : List ℕ) (k : EccParts) (rest : List ℕ) → IsBytes bytes → ecc_at bytes ≡ Ok (k, rest)
    → Taken bytes (ecc_written k) rest
unfolding ecc_at
ecc_taken bytes k rest fits e =
    let w0 = moves (constant_at field.Symmetric 0x0010 bytes) _ (k, rest) e in
    let t0 = constant_taken field.Symmetric 0x0010 bytes w0.x fits w0.was in
    let w1 = moves (ecc_scheme_at w0.x) _ (k, rest) w0.gives in
    let t1 = ecc_scheme_taken w0.x w1.x.0 w1.x.1 t0.fits w1.was in
    let w2 = moves (curve_at w1.x.1) _ (k, rest) w1.gives in
    let t2 = curve_taken w1.x.1 w2.x.0 w2.x.1 t1.fits w2.was in
    let w3 = moves (kdf_at w2.x.1) _ (k, rest) w2.gives in
    let t3 = kdf_taken w2.x.1 w3.x.0 w3.x.1 t2.fits w3.was in
    let w4 = moves (sized_at field.X w3.x.1) _ (k, rest) w3.gives in
    let t4 = sized_taken field.X w3.x.1 w4.x.0 w4.x.1 t3.fits w4.was in
    let w5 = moves (sized_at field.Y w4.x.1) _ (k, rest) w4.gives in
    let t5 = sized_taken field.Y w4.x.1 w5.x.0 w5.x.1 t4.fits w5.was in
    let made : EccParts = record { scheme = w1.x.0; curve = w2.x.0; kdf = w3.x.0; x = w4.x.0; y = w5.x.0 } in
    let ends = pair_is {x = made} {y = k} {r = w5.x.1} {s = rest} w5.gives in
    let same : made ≡ k = ends.0 in
    let following : w5.x.1 ≡ rest = ends.1 in
    subst (λ (r : List ℕ). Taken bytes (ecc_written k) r) following
    (subst (λ (m : EccParts). Taken bytes (ecc_written m) w5.x.1) {x = made} same
    (then_taken (then_taken (then_taken (then_taken (then_taken t0 t1) t2) t3) t4) t5))

-- the key of a type, with the type
record KeyTaken (bytes : List ℕ) (type : KeyType) (k : KeyParts) (rest : List ℕ) : Type 0 where
  taken : Taken bytes (key_written k) rest
  type_is : type_id type ≡ key_type k

key_taken : (type : KeyType) (bytes : List ℕ) (k : KeyParts) (rest : List ℕ) → IsBytes bytes
    → key_at type bytes ≡ Ok (k, rest) → KeyTaken bytes type k rest
key_taken kind.Rsa bytes k rest fits e =
    let w = moves (rsa_at bytes) _ (k, rest) e in
    let t = rsa_taken bytes w.x.0 w.x.1 fits w.was in
    let made : rsa w.x.0 ≡ k = (pair_is w.gives).0 in
    let following : w.x.1 ≡ rest = (pair_is w.gives).1 in record {
      taken = subst (λ (r : List ℕ). Taken bytes (key_written k) r) following (respelled (ap key_written made) t);
      type_is = ap key_type made;
    }
key_taken kind.Ecc bytes k rest fits e =
    let w = moves (ecc_at bytes) _ (k, rest) e in
    let t = ecc_taken bytes w.x.0 w.x.1 fits w.was in
    let made : ecc w.x.0 ≡ k = (pair_is w.gives).0 in
    let following : w.x.1 ≡ rest = (pair_is w.gives).1 in record {
      taken = subst (λ (r : List ℕ). Taken bytes (key_written k) r) following (respelled (ap key_written made) t);
      type_is = ap key_type made;
    }

pub_area_taken : (bytes : List ℕ) (a : PubAreaParts) (rest : List ℕ) → IsBytes bytes
    → pub_area_at bytes ≡ Ok (a, rest) → Taken bytes (pub_area_written a) rest
unfolding pub_area_at
pub_area_taken bytes a rest fits e =
    let w0 = moves (type_at bytes) _ (a, rest) e in
    let t0 = type_taken bytes w0.x.0 w0.x.1 fits w0.was in
    let w1 = moves (hash_at field.NameAlg w0.x.1) _ (a, rest) w0.gives in
    let t1 = hash_taken field.NameAlg w0.x.1 w1.x.0 w1.x.1 t0.fits w1.was in
    let w2 = moves (u32_at field.ObjectAttributes w1.x.1) _ (a, rest) w1.gives in
    let t2 = u32_taken field.ObjectAttributes w1.x.1 w2.x.0 w2.x.1 t1.fits w2.was in
    let w3 = moves (sized_at field.AuthPolicy w2.x.1) _ (a, rest) w2.gives in
    let t3 = sized_taken field.AuthPolicy w2.x.1 w3.x.0 w3.x.1 t2.fits w3.was in
    let w4 = moves (key_at w0.x.0 w3.x.1) _ (a, rest) w3.gives in
    let t4 = key_taken w0.x.0 w3.x.1 w4.x.0 w4.x.1 t3.fits w4.was in
    let made : PubAreaParts =
    record { name_alg = w1.x.0; object_attributes = w2.x.0; auth_policy = w3.x.0; key = w4.x.0 } in
    let ends = pair_is {x = made} {y = a} {r = w4.x.1} {s = rest} w4.gives in
    let same : made ≡ a = ends.0 in
    let following : w4.x.1 ≡ rest = ends.1 in
    subst (λ (r : List ℕ). Taken bytes (pub_area_written a) r) following
    (subst (λ (m : PubAreaParts). Taken bytes (pub_area_written m) w4.x.1) {x = made} same
    (then_taken (then_taken (then_taken (then_taken (respelled (ap (to_be_bytes w16) t4.type_is) t0) t1) t2) t3)
    t4.taken))

pub pub_area_same : PubAreaIsWrittenBack
pub_area_same bytes a fits e =
    let w = moves (pub_area_at bytes) _ a (was_ok (pub_area_read bytes) a e) in
    let t = pub_area_taken bytes w.x.0 w.x.1 fits w.was in
    let all = whole_taken bytes (pub_area_written w.x.0) w.x a w.gives t in
    ap pub_area_written (sym all.1) ∙ all.0
