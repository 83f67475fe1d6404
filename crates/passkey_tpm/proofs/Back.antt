-- certInfo and pubArea, when written, are read back.
use Rattle.std.specs.Result.{result_ok}
use Rattle.std.specs.Int.{Width, w16, w32, w64, from_be_bytes, to_be_bytes}
use Rattle.std.proofs.Common.{◌≡◌, ◌∙◌, ◌==◌, Bool, true, if◌then◌else◌, Err, ℕ, ◌<◌, ◌^◌, nat_lt, List, [], ◌∷◌, ◌++◌, length, take, drop, false, Result, Ok, Some, refl, ap, subst, arith}
use Rattle.std.proofs.Common.{lit<}
use Rattle.std.proofs.lemmas.Bool.{cases_lt}
use Rattle.std.proofs.lemmas.Bool.Decides.{nat_tests}
use Rattle.std.proofs.lemmas.List.{append-nil, length-append}
use Rattle.std.proofs.lemmas.Nat.{from_be_bytes-to_be_bytes_2, from_be_bytes-to_be_bytes_4, from_be_bytes-to_be_bytes_8}
use Rattle.std.proofs.Math.Seq.{take-append_seam, drop-append_seam}
use Rattle.passkey_tpm.proofs.Appended.{cert_info_grouped, rsa_grouped, ecc_grouped, pub_area_grouped}
use Rattle.passkey_tpm.specs.CertInfo.{CertInfoParts, magic, certify, header_at, clock_info_at, cert_info_at, cert_info_in, cert_info_written, IsClockInfo, IsCertInfo}
use Rattle.passkey_tpm.specs.HashAlgorithm.{hash_at, IsHash}
use Rattle.passkey_tpm.specs.Parts.{◌>>=◌, bytes_at, number_at, constant_at, refused, wide_constant_at, u8_at, u16_at, u32_at, u64_at, sized_at}
use Rattle.passkey_tpm.specs.PubArea.{KeyParts, RsaParts, EccParts, PubAreaParts, curve_at, null_written, type_at, rsa_at, ecc_at, key_at, key_type, key_written, pub_area_at, pub_area_in, pub_area_written, IsRsa, IsEcc, IsKey, IsPubArea}
use Rattle.passkey_tpm.specs.PubArea.KeyParts.{rsa, ecc}
use Rattle.passkey_tpm.specs.Scheme.{hash_written, hashed, rsa_scheme_at, ecdaa_at, ecc_scheme_at, kdf_at, rsa_scheme_written, ecc_scheme_written, kdf_written, IsRsaScheme, IsEccScheme, IsKdf}
use Rattle.passkey_tpm.specs.declared.cert_info.ClockInfo.{ClockInfo}
use Rattle.passkey_tpm.specs.declared.hash_algorithm.HashAlgorithm.{HashAlgorithm}
use Rattle.passkey_tpm.specs.declared.public_key.Curve.{Curve}
use Rattle.passkey_tpm.specs.declared.public_key.KeyType.{KeyType}
use Rattle.passkey_tpm.specs.declared.public_key.KeyType.TheVariants as kind
use Rattle.passkey_tpm.specs.declared.refusal.Stop.{Stop}
use Rattle.passkey_tpm.specs.declared.refusal.TpmField.{TpmField}
use Rattle.passkey_tpm.specs.declared.refusal.TpmField.TheVariants as field
use Rattle.passkey_tpm.specs.declared.refusal.TpmReason.TheVariants.{OtherConstant}
use Rattle.passkey_tpm.specs.declared.scheme.EccScheme.{EccScheme}
use Rattle.passkey_tpm.specs.declared.scheme.EccScheme.TheVariants as ecc_scheme
use Rattle.passkey_tpm.specs.declared.scheme.KdfScheme.{KdfScheme}
use Rattle.passkey_tpm.specs.declared.scheme.KdfScheme.TheVariants as kdf_scheme
use Rattle.passkey_tpm.specs.declared.scheme.RsaScheme.{RsaScheme}
use Rattle.passkey_tpm.specs.declared.scheme.RsaScheme.TheVariants as rsa_scheme

-- ---- parts of a fixed length, and sized byte strings

-- what follows a part that was read
after : {X Y : Type 0} {o : Result X Stop} {x : X} (next : X → Result Y Stop) → o ≡ Ok x → (o >>= next) ≡ next x
after next e = ap (λ o. o >>= next) e

not_short : (n : ℕ) (front rest : List ℕ) → length front ≡ n → nat_lt (length (front ++ rest)) n ≡ false
not_short n front rest e =
    let whole = length-append front rest in grind (arith, nat_tests, cases_lt, whole, e)

bytes_front : (s : Stop) (n : ℕ) (front rest : List ℕ) → length front ≡ n
    → bytes_at s n (front ++ rest) ≡ Ok (front, rest)
bytes_front s n front rest e =
    let begins : take n (front ++ rest) ≡ front =
    subst (λ (m : ℕ). take m (front ++ rest) ≡ front) e (take-append_seam front rest) in
    let ends : drop n (front ++ rest) ≡ rest =
    subst (λ (m : ℕ). drop m (front ++ rest) ≡ rest) e (drop-append_seam front rest) in
    rw (not_short n front rest e, begins, ends) refl

u8_back : (f : TpmField) (n : ℕ) (rest : List ℕ) → u8_at f (n ∷ rest) ≡ Ok (n, rest)
unfolding u8_at
u8_back f n rest = after _ (bytes_front _ 1 (n ∷ []) rest refl) ∙ refl

-- an unsigned integer of a width that has n bytes
number_back : (f : TpmField) (w : Width) (n m : ℕ) (rest : List ℕ) → length (to_be_bytes w m) ≡ n
    → from_be_bytes w (to_be_bytes w m) ≡ m
    → number_at f w n (to_be_bytes w m ++ rest) ≡ Ok (m, rest)
number_back f w n m rest sized same =
    after _ (bytes_front _ n (to_be_bytes w m) rest sized) ∙ ap (λ (k : ℕ). Ok (k, rest)) same

u16_back : (f : TpmField) (n : ℕ) (rest : List ℕ) → n < 2 ^ 16 → u16_at f (to_be_bytes w16 n ++ rest) ≡ Ok (n, rest)
unfolding u16_at
u16_back f n rest fits = number_back f w16 2 n rest refl (from_be_bytes-to_be_bytes_2 n fits)

u32_back : (f : TpmField) (n : ℕ) (rest : List ℕ) → n < 2 ^ 32 → u32_at f (to_be_bytes w32 n ++ rest) ≡ Ok (n, rest)
unfolding u32_at
u32_back f n rest fits = number_back f w32 4 n rest refl (from_be_bytes-to_be_bytes_4 n fits)

u64_back : (f : TpmField) (n : ℕ) (rest : List ℕ) → n < 2 ^ 64 → u64_at f (to_be_bytes w64 n ++ rest) ≡ Ok (n, rest)
unfolding u64_at
u64_back f n rest fits = number_back f w64 8 n rest refl (from_be_bytes-to_be_bytes_8 n fits)

-- a byte string's length in 2 bytes
abbrev size_of : List ℕ → List ℕ
size_of bytes = to_be_bytes w16 (length bytes)

sized_back : (f : TpmField) (bytes rest : List ℕ) → length bytes < 2 ^ 16
    → sized_at f (to_be_bytes w16 (length bytes) ++ (bytes ++ rest)) ≡ Ok (bytes, rest)
unfolding sized_at
sized_back f bytes rest fits =
    after _ (u16_back f (length bytes) (bytes ++ rest) fits) ∙ bytes_front _ (length bytes) bytes rest refl

-- ---- certInfo

constant_back : (f : TpmField) (k : ℕ) (rest : List ℕ) → k < 2 ^ 16 → (k == k) ≡ true
    → constant_at f k (to_be_bytes w16 k ++ rest) ≡ Ok rest
unfolding constant_at
constant_back f k rest fits same =
    after _ (u16_back f k rest fits)
    ∙ ap (λ (b : Bool). if b then Ok rest else Err (refused f (to_be_bytes w16 k ++ rest) 2 OtherConstant)) same

wide_constant_back : (f : TpmField) (k : ℕ) (rest : List ℕ) → k < 2 ^ 32 → (k == k) ≡ true
    → wide_constant_at f k (to_be_bytes w32 k ++ rest) ≡ Ok rest
unfolding wide_constant_at
wide_constant_back f k rest fits same =
    after _ (u32_back f k rest fits)
    ∙ ap (λ (b : Bool). if b then Ok rest else Err (refused f (to_be_bytes w32 k ++ rest) 4 OtherConstant)) same

header_back : (rest : List ℕ) → header_at (to_be_bytes w32 magic ++ (to_be_bytes w16 certify ++ rest)) ≡ Ok rest
unfolding header_at
header_back rest =
    after _ (wide_constant_back field.Magic magic (to_be_bytes w16 certify ++ rest) (lit< tt) refl)
    ∙ constant_back field.AttestType certify rest (lit< tt) refl

clock_info_back : (c : ClockInfo) (rest : List ℕ) → IsClockInfo c
    → clock_info_at (to_be_bytes w64 c.clock ++ (to_be_bytes w32 c.reset_count ++ (to_be_bytes w32 c.restart_count
    ++ (c.safe ∷ rest)))) ≡ Ok (c, rest)
unfolding clock_info_at
clock_info_back c rest valid =
    after _ (u64_back field.Clock c.clock _ valid.clock) ∙ after _ (u32_back field.ResetCount c.reset_count _ valid.resets)
    ∙ after _ (u32_back field.RestartCount c.restart_count _ valid.restarts) ∙ after _ (u8_back field.Safe c.safe rest)

cert_info_front : (c : CertInfoParts) (rest : List ℕ) → IsCertInfo c → cert_info_at (cert_info_written c ++ rest)
    ≡ Ok (c, rest)
unfolding cert_info_at
cert_info_front c rest valid =
    let clock = c.clock_info in
    let grouped = cert_info_grouped (to_be_bytes w32 magic) (to_be_bytes w16 certify) (size_of c.qualified_signer)
    c.qualified_signer (size_of c.extra_data) c.extra_data (to_be_bytes w64 clock.clock) (to_be_bytes w32
    clock.reset_count) (to_be_bytes w32 clock.restart_count) (clock.safe ∷ []) (to_be_bytes w64
    c.firmware_version) (size_of c.name) c.name (size_of c.qualified_name) c.qualified_name rest in
    ap cert_info_at grouped ∙ after _ (header_back _)
    ∙ after _ (sized_back field.QualifiedSigner c.qualified_signer _ valid.signer)
    ∙ after _ (sized_back field.ExtraData c.extra_data _ valid.extra) ∙ after _ (clock_info_back clock _ valid.clock)
    ∙ after _ (u64_back field.FirmwareVersion c.firmware_version _ valid.firmware)
    ∙ after _ (sized_back field.Name c.name _ valid.name)
    ∙ after _ (sized_back field.QualifiedName c.qualified_name rest valid.qualified)

pub cert_info_back : (c : CertInfoParts) → IsCertInfo c → cert_info_in (cert_info_written c) ≡ Some c
cert_info_back c valid =
    ap result_ok (after _ (subst (λ (s : List ℕ). cert_info_at s ≡ Ok (c, [])) (append-nil (cert_info_written c))
    (cert_info_front c [] valid)))

-- ---- pubArea

hash_back : (f : TpmField) (h : HashAlgorithm) (rest : List ℕ) → IsHash h → hash_at f (hash_written h ++ rest)
    ≡ Ok (h, rest)
unfolding hash_at
hash_back f h rest fits = after _ (u16_back f h.0 rest fits)

-- the type of a key
abbrev kind_of : KeyParts → KeyType
kind_of (rsa k) = kind.Rsa
kind_of (ecc k) = kind.Ecc

type_back : (k : KeyParts) (rest : List ℕ) → type_at (to_be_bytes w16 (key_type k) ++ rest) ≡ Ok (kind_of k, rest)
unfolding type_at
type_back (rsa k) rest = after _ (u16_back field.KeyType 0x0001 rest (lit< tt))
type_back (ecc k) rest = after _ (u16_back field.KeyType 0x0023 rest (lit< tt))

curve_back : (curve : Curve) (rest : List ℕ) → curve.0 < 2 ^ 16
    → curve_at (to_be_bytes w16 curve.0 ++ rest) ≡ Ok (curve, rest)
unfolding curve_at
curve_back curve rest fits = after _ (u16_back field.CurveId curve.0 rest fits)

-- a scheme's identifier, and its hash algorithm
hashed_back : {S : Type 0} (f : TpmField) (make : HashAlgorithm → S) (h : HashAlgorithm) (rest : List ℕ) → IsHash h
    → hashed f make (hash_written h ++ rest) ≡ Ok (make h, rest)
hashed_back f make h rest fits = after _ (hash_back f h rest fits)

rsa_scheme_back : (s : RsaScheme) (rest : List ℕ) → IsRsaScheme s
    → rsa_scheme_at (rsa_scheme_written s ++ rest) ≡ Ok (s, rest)
unfolding rsa_scheme_at
rsa_scheme_back rsa_scheme.Null rest fits = after _ (u16_back field.Scheme 0x0010 rest (lit< tt))
rsa_scheme_back (rsa_scheme.RsaSsa h) rest fits =
    after _ (u16_back field.Scheme 0x0014 (hash_written h ++ rest) (lit< tt))
    ∙ hashed_back field.SchemeHash rsa_scheme.RsaSsa h rest fits
rsa_scheme_back rsa_scheme.RsaEs rest fits = after _ (u16_back field.Scheme 0x0015 rest (lit< tt))
rsa_scheme_back (rsa_scheme.RsaPss h) rest fits =
    after _ (u16_back field.Scheme 0x0016 (hash_written h ++ rest) (lit< tt))
    ∙ hashed_back field.SchemeHash rsa_scheme.RsaPss h rest fits
rsa_scheme_back (rsa_scheme.Oaep h) rest fits =
    after _ (u16_back field.Scheme 0x0017 (hash_written h ++ rest) (lit< tt))
    ∙ hashed_back field.SchemeHash rsa_scheme.Oaep h rest fits

ecdaa_back : (h : HashAlgorithm) (count : ℕ) (rest : List ℕ) → IsHash h → count < 2 ^ 16
    → ecdaa_at (hash_written h ++ (to_be_bytes w16 count ++ rest)) ≡ Ok (ecc_scheme.Ecdaa h count, rest)
unfolding ecdaa_at
ecdaa_back h count rest fits small =
    after _ (hash_back field.SchemeHash h _ fits) ∙ after _ (u16_back field.SchemeCount count rest small)

ecc_scheme_back : (s : EccScheme) (rest : List ℕ) → IsEccScheme s
    → ecc_scheme_at (ecc_scheme_written s ++ rest) ≡ Ok (s, rest)
unfolding ecc_scheme_at
ecc_scheme_back ecc_scheme.Null rest fits = after _ (u16_back field.Scheme 0x0010 rest (lit< tt))
ecc_scheme_back (ecc_scheme.Ecdsa h) rest fits =
    after _ (u16_back field.Scheme 0x0018 (hash_written h ++ rest) (lit< tt))
    ∙ hashed_back field.SchemeHash ecc_scheme.Ecdsa h rest fits
ecc_scheme_back (ecc_scheme.Ecdh h) rest fits =
    after _ (u16_back field.Scheme 0x0019 (hash_written h ++ rest) (lit< tt))
    ∙ hashed_back field.SchemeHash ecc_scheme.Ecdh h rest fits
ecc_scheme_back (ecc_scheme.Ecdaa h count) rest fits =
    after _ (u16_back field.Scheme 0x001A (hash_written h ++ (to_be_bytes w16 count ++ rest)) (lit< tt))
    ∙ ecdaa_back h count rest fits.0 fits.1
ecc_scheme_back (ecc_scheme.Sm2 h) rest fits =
    after _ (u16_back field.Scheme 0x001B (hash_written h ++ rest) (lit< tt))
    ∙ hashed_back field.SchemeHash ecc_scheme.Sm2 h rest fits
ecc_scheme_back (ecc_scheme.EcSchnorr h) rest fits =
    after _ (u16_back field.Scheme 0x001C (hash_written h ++ rest) (lit< tt))
    ∙ hashed_back field.SchemeHash ecc_scheme.EcSchnorr h rest fits
ecc_scheme_back (ecc_scheme.EcMqv h) rest fits =
    after _ (u16_back field.Scheme 0x001D (hash_written h ++ rest) (lit< tt))
    ∙ hashed_back field.SchemeHash ecc_scheme.EcMqv h rest fits

kdf_back : (s : KdfScheme) (rest : List ℕ) → IsKdf s → kdf_at (kdf_written s ++ rest) ≡ Ok (s, rest)
unfolding kdf_at
kdf_back kdf_scheme.Null rest fits = after _ (u16_back field.Kdf 0x0010 rest (lit< tt))
kdf_back (kdf_scheme.Mgf1 h) rest fits =
    after _ (u16_back field.Kdf 0x0007 (hash_written h ++ rest) (lit< tt)) ∙ hashed_back field.KdfHash kdf_scheme.Mgf1 h rest fits
kdf_back (kdf_scheme.Kdf1Sp80056a h) rest fits =
    after _ (u16_back field.Kdf 0x0020 (hash_written h ++ rest) (lit< tt))
    ∙ hashed_back field.KdfHash kdf_scheme.Kdf1Sp80056a h rest fits
kdf_back (kdf_scheme.Kdf2 h) rest fits =
    after _ (u16_back field.Kdf 0x0021 (hash_written h ++ rest) (lit< tt)) ∙ hashed_back field.KdfHash kdf_scheme.Kdf2 h rest fits
kdf_back (kdf_scheme.Kdf1Sp800108 h) rest fits =
    after _ (u16_back field.Kdf 0x0022 (hash_written h ++ rest) (lit< tt))
    ∙ hashed_back field.KdfHash kdf_scheme.Kdf1Sp800108 h rest fits

rsa_back : (k : RsaParts) (rest : List ℕ) → IsRsa k → rsa_at (null_written ++ (rsa_scheme_written k.scheme
    ++ (to_be_bytes w16 k.key_bits ++ (to_be_bytes w32 k.exponent ++ (to_be_bytes w16 (length k.modulus)
    ++ (k.modulus ++ rest)))))) ≡ Ok (k, rest)
unfolding rsa_at
rsa_back k rest valid =
    after _ (constant_back field.Symmetric 0x0010 _ (lit< tt) refl)
    ∙ after _ (rsa_scheme_back k.scheme _ valid.scheme)
    ∙ after _ (u16_back field.KeyBits k.key_bits _ valid.bits)
    ∙ after _ (u32_back field.Exponent k.exponent _ valid.exponent)
    ∙ after _ (sized_back field.Modulus k.modulus rest valid.modulus)

ecc_back : (k : EccParts) (rest : List ℕ) → IsEcc k → ecc_at (null_written ++ (ecc_scheme_written k.scheme
    ++ (to_be_bytes w16 k.curve.0 ++ (kdf_written k.kdf ++ (to_be_bytes w16 (length k.x) ++ (k.x
    ++ (to_be_bytes w16 (length k.y) ++ (k.y ++ rest)))))))) ≡ Ok (k, rest)
unfolding ecc_at
ecc_back k rest valid =
    after _ (constant_back field.Symmetric 0x0010 _ (lit< tt) refl)
    ∙ after _ (ecc_scheme_back k.scheme _ valid.scheme) ∙ after _ (curve_back k.curve _ valid.curve)
    ∙ after _ (kdf_back k.kdf _ valid.kdf) ∙ after _ (sized_back field.X k.x _ valid.x)
    ∙ after _ (sized_back field.Y k.y rest valid.y)

key_back : (k : KeyParts) (rest : List ℕ) → IsKey k → key_at (kind_of k) (key_written k ++ rest) ≡ Ok (k, rest)
key_back (rsa k) rest valid =
    ap (key_at kind.Rsa) (rsa_grouped null_written (rsa_scheme_written k.scheme) (to_be_bytes w16 k.key_bits)
    (to_be_bytes w32 k.exponent) (size_of k.modulus) k.modulus rest) ∙ after _ (rsa_back k rest valid)
key_back (ecc k) rest valid =
    ap (key_at kind.Ecc) (ecc_grouped null_written (ecc_scheme_written k.scheme) (to_be_bytes w16 k.curve.0)
    (kdf_written k.kdf) (size_of k.x) k.x (size_of k.y) k.y rest) ∙ after _ (ecc_back k rest valid)

pub_area_front : (a : PubAreaParts) (rest : List ℕ) → IsPubArea a → pub_area_at (pub_area_written a ++ rest)
    ≡ Ok (a, rest)
unfolding pub_area_at
pub_area_front a rest valid =
    let grouped = pub_area_grouped (to_be_bytes w16 (key_type a.key)) (hash_written a.name_alg) (to_be_bytes w32
    a.object_attributes) (size_of a.auth_policy) a.auth_policy (key_written a.key) rest in
    ap pub_area_at grouped ∙ after _ (type_back a.key _)
    ∙ after _ (hash_back field.NameAlg a.name_alg _ valid.name_alg)
    ∙ after _ (u32_back field.ObjectAttributes a.object_attributes _ valid.attributes)
    ∙ after _ (sized_back field.AuthPolicy a.auth_policy _ valid.policy)
    ∙ after _ (key_back a.key rest valid.key)

pub pub_area_back : (a : PubAreaParts) → IsPubArea a → pub_area_in (pub_area_written a) ≡ Some a
pub_area_back a valid =
    ap result_ok (after _ (subst (λ (s : List ℕ). pub_area_at s ≡ Ok (a, [])) (append-nil (pub_area_written a))
    (pub_area_front a [] valid)))
