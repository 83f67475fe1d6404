-- The encoding of a head decodes to that head, whatever follows.
use Rattle.std.proofs.Common.{◌≡◌, ℕ, ◌+◌, ◌*◌, ◌/◌, ◌%◌, ◌<◌, List, [], ◌∷◌, ◌++◌, Option, Some, None, refl, sym, ap, ◌∙◌, arith, inl, inr}
use Rattle.std.specs.Int.{w8, to_be_bytes}
use Rattle.std.proofs.lemmas.Bool.{lt-ltb, le-ltb, ne_eqb}
use Rattle.passkey_cbor.specs.FloatParts.{FloatParts}
use Rattle.passkey_cbor.specs.Heads.{Size, one, two, four, eight, width, limit, information, Heads, within, following, indefinite, FloatOfSize}
use Rattle.passkey_cbor.specs.HeadEncoding.{IsEncodingOfHead}
use Rattle.passkey_cbor.specs.HeadReading.{◌>>=◌, argument_at, with_argument, without_argument, simple_or_float, simple_at, head_after, head_at}
use Rattle.passkey_cbor.specs.declared.head.Head.{Head}
use Rattle.passkey_cbor.specs.declared.head.Head.TheVariants as head
use Rattle.passkey_cbor.proofs.heads.Numbers.{number_again}

pub major_of : (major info : ℕ) → info < 32 → (32 * major + info) / 32 ≡ major
major_of major info lt = omega arith

pub information_of : (major info : ℕ) → info < 32 → (32 * major + info) % 32 ≡ info
information_of major info lt = omega arith

initial_again : (major info : ℕ) (u : List ℕ) → info < 32
    → head_at ((32 * major + info) ∷ u) ≡ head_after major info u
unfolding head_at
initial_again major info u lt = rw (major_of major info lt, information_of major info lt) refl

argument_within : (n : ℕ) (u : List ℕ) → n < 24 → argument_at n u ≡ Some (n, u)
unfolding argument_at
argument_within n u lt = rw (lt-ltb n 24 lt) refl

argument_after : (s : Size) (n : ℕ) (u : List ℕ) → n < limit s
    → argument_at (information s) (to_be_bytes (width s) n ++ u) ≡ Some (n, u)
unfolding argument_at
argument_after one n u lt = number_again one n u lt
argument_after two n u lt = number_again two n u lt
argument_after four n u lt = number_again four n u lt
argument_after eight n u lt = number_again eight n u lt

-- a head with an argument, of a major type other than 7
with_argument_again : (major info : ℕ) (rest : List ℕ) (n : ℕ) (u : List ℕ) → major < 7 → info < 31 → argument_at
    info rest ≡ Some (n, u) → head_after major info rest ≡ (with_argument major n >>= λ h. Some (h, u))
unfolding head_after
with_argument_again major info rest n u small lt e =
    rw (ne_eqb info 31 (λ (q : info ≡ 31). omega arith), ne_eqb major 7 (λ (q : major ≡ 7). omega arith), e) refl

information-lt : (s : Size) → information s < 31
information-lt one = omega arith
information-lt two = omega arith
information-lt four = omega arith
information-lt eight = omega arith

pub heads_again : (major n : ℕ) (t u : List ℕ) → major < 7 → Heads major n t
    → head_at (t ++ u) ≡ (with_argument major n >>= λ h. Some (h, u))
heads_again major n t u small (within lt e) =
    rw e (initial_again major n u (omega arith)
    ∙ with_argument_again major n u n u small (omega arith) (argument_within n u lt))
heads_again major n t u small (following s lt e) =
    let rest = to_be_bytes (width s) n ++ u in
    rw e (initial_again major (information s) rest (omega (arith, information-lt s))
    ∙ with_argument_again major (information s) rest n u small (information-lt s) (argument_after s n u lt))

pub indefinite_again : (major : ℕ) (u : List ℕ)
    → head_at (indefinite major ∷ u) ≡ (without_argument major >>= λ h. Some (h, u))
unfolding head_after
indefinite_again major u = initial_again major 31 u (omega arith) ∙ refl

-- major type 7, with bytes after the initial byte
simple_again : (s : Size) (n : ℕ) (u : List ℕ) → n < limit s → head_at
    ((32 * 7 + information s) ∷ (to_be_bytes (width s) n ++ u)) ≡ (simple_or_float s n >>= λ h. Some (h, u))
unfolding head_at head_after simple_at
simple_again one n u lt = rw (number_again one n u lt) refl
simple_again two n u lt = rw (number_again two n u lt) refl
simple_again four n u lt = rw (number_again four n u lt) refl
simple_again eight n u lt = rw (number_again eight n u lt) refl

simple_within : (n : ℕ) (u : List ℕ) → n < 24 → head_at ((32 * 7 + n) ∷ u) ≡ Some (head.Simple n, u)
unfolding head_after simple_at
simple_within n u lt =
    initial_again 7 n u (omega arith) ∙ rw (ne_eqb n 31 (λ (q : n ≡ 31). omega arith), lt-ltb n 24 lt) refl

float_again : (s : Size) (f : FloatParts) (t u : List ℕ) → (simple_or_float s f.bits ≡ Some (head.Float f))
    → FloatOfSize s f t → head_at (t ++ u) ≡ Some (head.Float f, u)
float_again s f t u e encoded =
    rw encoded.1 (simple_again s f.bits u encoded.0.1 ∙ ap (λ (o : Option Head). o >>= λ h. Some (h, u)) e)

float_width : (f : FloatParts) (w : ℕ) → f.width ≡ w
    → Some (head.Float (record { width = w; bits = f.bits })) ≡ Some (head.Float f)
float_width f w e = ap (λ (v : ℕ). Some (head.Float (record { width = v; bits = f.bits }))) (sym e)

pub head_again : (h : Head) (t u : List ℕ) → IsEncodingOfHead h t → head_at (t ++ u) ≡ Some (h, u)
head_again (head.Unsigned n) t u s = heads_again 0 n t u (omega arith) s
head_again (head.Negative n) t u s = heads_again 1 n t u (omega arith) s
head_again (head.Bytes (Some n)) t u s = heads_again 2 n t u (omega arith) s
head_again (head.Bytes None) t u s = rw s (indefinite_again 2 u)
head_again (head.Text (Some n)) t u s = heads_again 3 n t u (omega arith) s
head_again (head.Text None) t u s = rw s (indefinite_again 3 u)
head_again (head.Array (Some n)) t u s = heads_again 4 n t u (omega arith) s
head_again (head.Array None) t u s = rw s (indefinite_again 4 u)
head_again (head.Map (Some n)) t u s = heads_again 5 n t u (omega arith) s
head_again (head.Map None) t u s = rw s (indefinite_again 5 u)
head_again (head.Tag n) t u s = heads_again 6 n t u (omega arith) s
head_again (head.Simple n) t u (inl s) = rw s.1 (simple_within n u s.0)
head_again (head.Simple n) t u (inr s) =
    let byte : n % 256 ≡ n = omega (arith, s.0.1) in
    let same : t ++ u ≡ (32 * 7 + 24) ∷ (to_be_bytes w8 n ++ u) =
    ap (λ (r : List ℕ). r ++ u) (s.1 ∙ ap (λ (b : ℕ). 248 ∷ b ∷ []) (sym byte)) in
    ap head_at same ∙ simple_again one n u s.0.1 ∙ rw (le-ltb n 32 s.0.0) refl
head_again (head.Float f) t u (inl s) = float_again two f t u (float_width f 2 s.0.0) s
head_again (head.Float f) t u (inr (inl s)) = float_again four f t u (float_width f 4 s.0.0) s
head_again (head.Float f) t u (inr (inr s)) = float_again eight f t u (float_width f 8 s.0.0) s
head_again head.Break t u s = rw s (indefinite_again 7 u)
