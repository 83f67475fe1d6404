-- Heads in their shortest encoding.
use Rattle.std.proofs.Common.{◌≡◌, ℕ, ◌+◌, ◌-◌, ◌*◌, ◌^◌, ◌<◌, ◌≤◌, ◌==◌, if◌then◌else◌, List, ◌∷◌, ◌++◌, length, Option, Some, None, refl, sym, ap, subst, ◌∙◌, arith, inl, inr}
use Rattle.std.proofs.lemmas.Bool.{lt-ltb, le-ltb}
use Rattle.std.proofs.lemmas.List.{length-append}
use Rattle.std.specs.Int.{to_be_bytes, byte_len}
use Rattle.passkey_cbor.specs.Bytes.{IsBytes}
use Rattle.passkey_cbor.specs.CanonicalReading.{length_head, head_written, BeginsShortest}
use Rattle.passkey_cbor.specs.FloatParts.{FloatParts}
use Rattle.passkey_cbor.specs.HeadReading.{head_at}
use Rattle.passkey_cbor.specs.Heads.{Size, one, two, four, eight, width, information, Heads, within, following, FloatHeads}
use Rattle.passkey_cbor.specs.HeadEncoding.{IsEncodingOfHead, LengthHeads}
use Rattle.passkey_cbor.specs.Written.{shortest_head, float_head}
use Rattle.passkey_cbor.specs.declared.head.Head.{Head}
use Rattle.passkey_cbor.specs.declared.head.Head.TheVariants as head
use Rattle.passkey_cbor.proofs.items.Binds.{some_is}
use Rattle.passkey_cbor.proofs.heads.HeadAgain.{head_again}
use Rattle.passkey_cbor.proofs.heads.HeadTakes.{head_takes}
use Rattle.passkey_cbor.proofs.heads.Numbers.{length-to_be_bytes}
use Rattle.passkey_cbor.proofs.items.WrittenIsEncoding.{shortest_head-encoded}

-- ---- an encoding with the shortest length is the shortest encoding

-- the size with this many bytes
size_by : ℕ → Size
size_by n = if n == 1 then one else if n == 2 then two else if n == 4 then four else eight

size_by-byte_len : (s : Size) → size_by (byte_len (width s)) ≡ s
unfolding size_by
size_by-byte_len one = refl
size_by-byte_len two = refl
size_by-byte_len four = refl
size_by-byte_len eight = refl

some_bytes : (s : Size) → 0 < byte_len (width s)
some_bytes one = omega arith
some_bytes two = omega arith
some_bytes four = omega arith
some_bytes eight = omega arith

-- two encodings of an argument with the same length are equal
heads_same : (major n : ℕ) (t u : List ℕ) → Heads major n t → Heads major n u → length t ≡ length u → t ≡ u
heads_same major n t u (within a p) (within b q) e = p ∙ sym q
heads_same major n t u (within a p) (following s b q) e =
    absurd (omega (arith, e, ap length p, ap length q, length-to_be_bytes s n, some_bytes s))
heads_same major n t u (following r a p) (within b q) e =
    absurd (omega (arith, e, ap length p, ap length q, length-to_be_bytes r n, some_bytes r))
heads_same major n t u (following r a p) (following s b q) e =
    let long : byte_len (width r) ≡ byte_len (width s) =
    omega (arith, e, ap length p, ap length q, length-to_be_bytes r n, length-to_be_bytes s n) in
    let same : r ≡ s = sym (size_by-byte_len r) ∙ ap size_by long ∙ size_by-byte_len s in
    subst (λ (z : Size). Heads_is z) same p ∙ sym q
  where
    Heads_is : Size → Type 0
    Heads_is z = t ≡ (32 * major + information z) ∷ to_be_bytes (width z) n

pub heads_fit : (major n : ℕ) (t : List ℕ) → Heads major n t → n < 2 ^ 64
heads_fit major n t (within a p) = omega arith
heads_fit major n t (following one a p) = omega arith
heads_fit major n t (following two a p) = omega arith
heads_fit major n t (following four a p) = omega arith
heads_fit major n t (following eight a p) = a

heads_shortest : (major n : ℕ) (t : List ℕ) → Heads major n t → length t ≡ length (shortest_head major n)
    → t ≡ shortest_head major n
heads_shortest major n t s e =
    heads_same major n t (shortest_head major n) s (shortest_head-encoded major n (heads_fit major n t s)) e

length_shortest : (major : ℕ) (len : Option ℕ) (t : List ℕ) → LengthHeads major len t
    → length t ≡ length (length_head major len) → t ≡ length_head major len
length_shortest major (Some n) t s e = heads_shortest major n t s e
length_shortest major None t s e = s

float_is : (f : FloatParts) (t : List ℕ) → FloatHeads f t → t ≡ float_head f
unfolding float_head
float_is f t (inl s) = rw s.0.0 s.1
float_is f t (inr (inl s)) = rw s.0.0 s.1
float_is f t (inr (inr s)) = rw s.0.0 s.1

pub shortest_is : (h : Head) (t : List ℕ) → IsEncodingOfHead h t → length t ≡ length (head_written h)
    → t ≡ head_written h
shortest_is (head.Unsigned n) t s e = heads_shortest 0 n t s e
shortest_is (head.Negative n) t s e = heads_shortest 1 n t s e
shortest_is (head.Bytes len) t s e = length_shortest 2 len t s e
shortest_is (head.Text len) t s e = length_shortest 3 len t s e
shortest_is (head.Array len) t s e = length_shortest 4 len t s e
shortest_is (head.Map len) t s e = length_shortest 5 len t s e
shortest_is (head.Tag n) t s e = heads_shortest 6 n t s e
shortest_is (head.Simple n) t (inl s) e = rw (lt-ltb n 24 s.0) s.1
shortest_is (head.Simple n) t (inr s) e = rw (le-ltb n 24 (omega (arith, s.0.0))) s.1
shortest_is (head.Float f) t s e = float_is f t s
shortest_is head.Break t s e = s

-- ---- the result of decoding a head

pub record HeadLeft (bytes : List ℕ) (h : Head) (rest : List ℕ) : Type 0 where
  pub shorter : length rest ≤ length bytes
  pub begins : length bytes - length rest ≡ length (head_written h) → BeginsShortest h bytes rest

pub head_left : (bytes : List ℕ) (h : Head) (rest : List ℕ) → IsBytes bytes → head_at bytes ≡ Some (h, rest)
    → HeadLeft bytes h rest
head_left bytes h rest fits e =
    let t = head_takes bytes h rest fits e in
    let long : length bytes ≡ length t.text + length rest = ap length t.parts ∙ length-append t.text rest in
    record {
      shorter = omega (arith, long);
      begins = λ q.
          let is : t.text ≡ head_written h = shortest_is h t.text t.encoded (omega (arith, long, q)) in
          record {
            encoded = subst (IsEncodingOfHead h) is t.encoded;
            parts = t.parts ∙ ap (λ (s : List ℕ). s ++ rest) is;
          };
    }

pub begins_once : (bytes : List ℕ) (h : Head) (rest : List ℕ) → BeginsShortest h bytes rest
    → head_at bytes ≡ Some (h, rest)
begins_once bytes h rest b = ap head_at b.parts ∙ head_again h (head_written h) rest b.encoded

-- a head that is longer than its shortest encoding
pub not_shortest : (bytes : List ℕ) (h : Head) (rest : List ℕ) → head_at bytes ≡ Some (h, rest) → (length bytes
    - length rest ≡ length (head_written h) → ⊥) → (g : Head) (u : List ℕ) → BeginsShortest g bytes u → ⊥
not_shortest bytes h rest e longer g u b =
    let same = some_is (g, u) (h, rest) (sym (begins_once bytes g u b) ∙ e) in
    let long : length bytes ≡ length (head_written g) + length u =
    ap length b.parts ∙ length-append (head_written g) u in
    let heads : g ≡ h = ap (λ (p : Head × List ℕ). p.0) same in
    let rests : u ≡ rest = ap (λ (p : Head × List ℕ). p.1) same in
    longer (omega (arith, long, ap length rests) ∙ ap (λ (k : Head). length (head_written k)) heads)
