-- Why no head begins bytes.
use Rattle.std.proofs.Common.{◌≡◌, ◌⊎◌, ℕ, zero, suc, ◌/◌, ◌%◌, ◌<◌, ◌≤◌, ◌==◌, Bool, true, false, List, [], ◌∷◌, length, take, drop, Option, Some, None, refl, sym, ap, subst, arith, inl, inr}
use Rattle.std.specs.Int.{byte_len, from_be_bytes}
use Rattle.std.proofs.lemmas.Bool.{cases_eq, cases_lt, lt-ltb, le-ltb, ne_eqb}
use Rattle.std.proofs.lemmas.Bool.Decides.{nat_tests}
use Rattle.passkey_cbor.specs.Bytes.{IsBytes}
use Rattle.passkey_cbor.specs.Heads.{Size, one, two, four, eight, information, width, indefinite}
use Rattle.passkey_cbor.specs.HeadEncoding.{IsEncodingOfHead}
use Rattle.passkey_cbor.specs.HeadReading.{number_at, argument_at, with_argument, simple_at, head_after, head_at}
use Rattle.passkey_cbor.specs.declared.head.Head.{Head}
use Rattle.passkey_cbor.specs.declared.head.Head.TheVariants as head
use Rattle.passkey_cbor.proofs.heads.HeadTakes.{head_takes}
use Rattle.passkey_malformed.specs.Stops.{HasNoHead, IsCutHead, IsReserved, IsBadSimple, NoHead}
use Rattle.passkey_malformed.specs.declared.why.Why.{Why}
use Rattle.passkey_malformed.specs.declared.why.Why.TheVariants as reason

not_decoded : (bytes : List ℕ) → IsBytes bytes → HasNoHead bytes → head_at bytes ≡ None
not_decoded bytes fits none = by_reading (head_at bytes) refl where
  by_reading : (o : Option (Head × List ℕ)) → head_at bytes ≡ o → o ≡ None
  by_reading None e = refl
  by_reading (Some r) e =
      let t = head_takes bytes r.0 r.1 fits e in
      absurd (none r.0 t.text r.1 t.encoded t.parts)

-- ---- heads whose argument is there

with_some : (major n : ℕ) → major < 7 → (h : Head) × (with_argument major n ≡ Some h)
with_some zero n lt = (_, refl)
with_some (suc zero) n lt = (_, refl)
with_some (suc (suc zero)) n lt = (_, refl)
with_some (suc (suc (suc zero))) n lt = (_, refl)
with_some (suc (suc (suc (suc zero)))) n lt = (_, refl)
with_some (suc (suc (suc (suc (suc zero))))) n lt = (_, refl)
with_some (suc (suc (suc (suc (suc (suc zero)))))) n lt = (_, refl)
with_some (suc (suc (suc (suc (suc (suc (suc m))))))) n lt = absurd (omega arith)

argued : (major info : ℕ) (bytes : List ℕ) (n : ℕ) (u : List ℕ) → major < 7 → info < 31
    → argument_at info bytes ≡ Some (n, u) → head_after major info bytes ≡ None → ⊥
unfolding head_after
argued major info bytes n u small lt e none =
    let h = with_some major n small in
    let f =
    rw (ne_eqb info 31 (λ (q : info ≡ 31). omega arith), ne_eqb major 7 (λ (q : major ≡ 7). omega arith), e, h.1) at none
    in absurd cc

argument_short : (info : ℕ) (bytes : List ℕ) → info < 24 → argument_at info bytes ≡ Some (info, bytes)
unfolding argument_at
argument_short info bytes lt = rw (lt-ltb info 24 lt) refl

simple_short : (info : ℕ) (bytes : List ℕ) → info < 24 → head_after 7 info bytes ≡ None → ⊥
unfolding head_after simple_at
simple_short info bytes lt e =
    let f = rw (ne_eqb info 31 (λ (q : info ≡ 31). omega arith), lt-ltb info 24 lt) at e in absurd cc

number_there : (s : Size) (bytes : List ℕ) → byte_len (width s) ≤ length bytes
    → (n : ℕ) × (number_at s bytes ≡ Some (n, drop (byte_len (width s)) bytes))
unfolding number_at
number_there s bytes le = (
  from_be_bytes (width s) (take (byte_len (width s)) bytes),
  rw (le-ltb (length bytes) (byte_len (width s)) le) refl,
)

argument_there : (s : Size) (bytes : List ℕ) → byte_len (width s) ≤ length bytes
    → (n : ℕ) × (argument_at (information s) bytes ≡ Some (n, drop (byte_len (width s)) bytes))
unfolding argument_at
argument_there one bytes le = number_there one bytes le
argument_there two bytes le = number_there two bytes le
argument_there four bytes le = number_there four bytes le
argument_there eight bytes le = number_there eight bytes le

float_there : (s : Size) (bytes : List ℕ) → byte_len (width s) ≤ length bytes
    → (information s ≡ 24 → length bytes ≡ 0) → head_after 7 (information s) bytes ≡ None → ⊥
unfolding head_after simple_at
float_there one bytes le none e = omega (arith, none refl)
float_there two bytes le none e =
    let n = number_there two bytes le in let f = rw n.1 at e in absurd cc
float_there four bytes le none e =
    let n = number_there four bytes le in let f = rw n.1 at e in absurd cc
float_there eight bytes le none e =
    let n = number_there eight bytes le in let f = rw n.1 at e in absurd cc

information-lt : (s : Size) → information s < 31
information-lt one = omega arith
information-lt two = omega arith
information-lt four = omega arith
information-lt eight = omega arith

sized : (info : ℕ) → 24 ≤ info → info < 28 → (s : Size) × (info ≡ information s)
sized info le lt =
    elim (cases_eq info 24) [
      | inl q ↦ (one, q)
      | inr a ↦ elim (cases_eq info 25) [
        | inl q ↦ (two, q)
        | inr b ↦ elim (cases_eq info 26) [ inl q ↦ (four, q) | inr c ↦ (eight, omega (arith, a, b, c)) ]
      ]
    ]

-- ---- the reasons

short_there : (major info : ℕ) (bytes : List ℕ) → major < 8 → info < 24 → head_after major info bytes ≡ None → ⊥
short_there major info bytes small lt e =
    elim (cases_lt major 7) [
      | inl less ↦ argued major info bytes info bytes less (omega arith) (argument_short info bytes lt) e
      | inr more ↦ simple_short info bytes lt
          (subst (λ (m : ℕ). head_after m info bytes ≡ None) (let q : major ≡ 7 = omega arith in q) e)
    ]

long_there : (major : ℕ) (s : Size) (bytes : List ℕ) → major < 8 → byte_len (width s) ≤ length bytes
    → (major ≡ 7 → information s ≡ 24 → length bytes ≡ 0) → head_after major (information s) bytes ≡ None → ⊥
long_there major s bytes small le none e =
    elim (cases_lt major 7) [
      | inl less ↦
          let n = argument_there s bytes le in
          argued major (information s) bytes n.0 (drop (byte_len (width s)) bytes) less (information-lt s) n.1 e
      | inr more ↦
          let q : major ≡ 7 = omega arith in
          float_there s bytes le (none q) (subst (λ (m : ℕ). head_after m (information s) bytes ≡ None) q e)
    ]

pub cut : (b : ℕ) (bytes : List ℕ) → IsBytes (b ∷ bytes) → HasNoHead (b ∷ bytes) → b % 32 < 28
    → (b ≡ 248 → length bytes ≡ 0) → IsCutHead (b ∷ bytes)
unfolding head_at
cut b bytes fits none low plain =
    let small : b < 256 = fits 0 in
    let unread : head_after (b / 32) (b % 32) bytes ≡ None = not_decoded (b ∷ bytes) fits none in
    elim (cases_lt (b % 32) 24) [
      | inl short ↦ absurd (short_there (b / 32) (b % 32) bytes (omega arith) short unread)
      | inr long ↦
          let s = sized (b % 32) long low in
          elim (cases_lt (length bytes) (byte_len (width s.0))) [
            | inl few ↦ (s.0, (s.1, few))
            | inr enough ↦ absurd (long_there (b / 32) s.0 bytes (omega arith) enough
                (λ (major : b / 32 ≡ 7) (info : information s.0 ≡ 24). plain (omega (arith, s.1)))
                (subst (λ (i : ℕ). head_after (b / 32) i bytes ≡ None) s.1 unread))
          ]
    ]

indefinite_head : (major : ℕ) → 2 ≤ major → major < 8 → (major ≡ 6 → ⊥)
    → (h : Head) × IsEncodingOfHead h (indefinite major ∷ [])
indefinite_head major low high other =
    let at : (m : ℕ) → major ≡ m → indefinite major ∷ [] ≡ indefinite m ∷ [] =
    λ (m : ℕ) (q : major ≡ m). ap (λ (k : ℕ). indefinite k ∷ []) q in
    elim (cases_eq major 2) [
      | inl q ↦ (head.Bytes None, at 2 q)
      | inr a ↦ elim (cases_eq major 3) [
        | inl q ↦ (head.Text None, at 3 q)
        | inr b ↦ elim (cases_eq major 4) [
          | inl q ↦ (head.Array None, at 4 q)
          | inr c ↦ elim (cases_eq major 5) [
            | inl q ↦ (head.Map None, at 5 q)
            | inr d ↦ (head.Break, at 7 (omega (arith, a, b, c, d, other)))
          ]
        ]
      ]
    ]

pub reserved : (b : ℕ) (bytes : List ℕ) → IsBytes (b ∷ bytes) → HasNoHead (b ∷ bytes) → 28 ≤ b % 32
    → IsReserved (b ∷ bytes)
reserved b bytes fits none high = (high, λ (full : b % 32 ≡ 31). by_major full) where
  by_major : b % 32 ≡ 31 → (b / 32 ≤ 1) ⊎ (b / 32 ≡ 6)
  by_major full =
      let small : b < 256 = fits 0 in
      let initial : b ≡ indefinite (b / 32) = omega arith in
      elim (cases_lt (b / 32) 2) [
        | inl low ↦ inl (omega arith)
        | inr le ↦ elim (cases_eq (b / 32) 6) [
          | inl six ↦ inr six
          | inr other ↦
              let h = indefinite_head (b / 32) le (omega arith) other in
              absurd (none h.0 (indefinite (b / 32) ∷ []) bytes h.1 (ap (λ (k : ℕ). k ∷ bytes) initial))
        ]
      ]

pub bad_simple : (b : ℕ) (bytes : List ℕ) → IsBytes (b ∷ bytes) → HasNoHead (b ∷ bytes) → b ≡ 248
    → (length bytes ≡ 0 → ⊥) → IsBadSimple (b ∷ bytes)
bad_simple b [] fits none is some = absurd (some refl)
bad_simple b (n ∷ bytes) fits none is some = (is, below) where
  below : n < 32
  below =
      let small : n < 256 = fits 1 in
      elim (cases_lt n 32) [
        | inl lt ↦ lt
        | inr le ↦ absurd (none (head.Simple n) (248 ∷ n ∷ []) bytes (inr ((le, small), refl))
            (ap (λ (k : ℕ). k ∷ n ∷ bytes) is))
      ]

-- ---- at bytes that have a first one

pub is_none : (n : ℕ) (b : Bool) → b ≡ (n == 0) → b ≡ true → n ≡ 0
is_none n b e t = grind (arith, nat_tests)

pub is_some : (n : ℕ) (b : Bool) → b ≡ (n == 0) → b ≡ false → n ≡ 0 → ⊥
is_some n b e f z = grind (arith, nat_tests)

module _ (bytes : List ℕ) (b : ℕ) (following : List ℕ) (fits : IsBytes bytes) (none : HasNoHead bytes)
    (is : bytes ≡ b ∷ following) where
  pub reserved_there : 28 ≤ b % 32 → IsReserved bytes
  reserved_there high =
      subst IsReserved (sym is) (reserved b following (subst IsBytes is fits) (subst HasNoHead is none) high)

  pub bad_simple_there : b ≡ 248 → (length following ≡ 0 → ⊥) → IsBadSimple bytes
  bad_simple_there full some =
      subst IsBadSimple (sym is) (bad_simple b following (subst IsBytes is fits) (subst HasNoHead is none) full some)

  pub cut_there : b % 32 < 28 → (b ≡ 248 → length following ≡ 0) → (why : Why) (rest : List ℕ) → why ≡ reason.CutOff
      → rest ≡ [] → NoHead bytes why rest
  cut_there low plain why rest why_is rest_is =
      subst (λ (w : Why). NoHead bytes w rest) (sym why_is) (
        subst IsCutHead (sym is) (cut b following (subst IsBytes is fits) (subst HasNoHead is none) low plain),
        rest_is,
      )
