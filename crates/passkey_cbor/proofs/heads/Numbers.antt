-- Big-endian numbers, encoded and decoded.
use Rattle.std.proofs.Common.{◌≡◌, ◌⊎◌, ℕ, suc, ◌+◌, ◌<◌, ◌≤◌, List, [], ◌∷◌, ◌++◌, length, take, drop, Some, refl, sym, ap, subst, ◌∙◌, arith, inl, inr}
use Rattle.std.specs.Int.{byte_len, to_be_bytes, from_be_bytes}
use Rattle.std.proofs.lemmas.Bool.{cases_lt, lt-ltb, le-ltb}
use Rattle.std.proofs.lemmas.List.{length-append, length-take, length-take-le, take_at, drop_at, take-append-drop, get_or-drop, get_or-take, get_or_past}
use Rattle.std.proofs.lemmas.Nat.{be_bytes_2, be_bytes_4, be_bytes_8, from_be_bytes-to_be_bytes_2, from_be_bytes-to_be_bytes_4, from_be_bytes-to_be_bytes_8}
use Rattle.passkey_cbor.specs.Bytes.{IsBytes}
use Rattle.passkey_cbor.specs.Heads.{Size, one, two, four, eight, width, limit}
use Rattle.passkey_cbor.specs.HeadReading.{◌>>=◌, Read, take_at as taken_at, number_at}
use Rattle.passkey_cbor.proofs.items.Binds.{bind_some, some_is, none_is_some}

pub IsBytes-drop : (n : ℕ) (bytes : List ℕ) → IsBytes bytes → IsBytes (drop n bytes)
IsBytes-drop n bytes fits i = rw (get_or-drop n bytes i 0) (fits (n + i))

pub IsBytes-take : (n : ℕ) (bytes : List ℕ) → IsBytes bytes → IsBytes (take n bytes)
IsBytes-take n bytes fits i =
    elim (cases_lt i n) [
      | inl lt ↦ rw (get_or-take n bytes i 0 lt) (fits i)
      | inr le ↦ rw (get_or_past (take n bytes) i 0 (omega (arith, length-take n bytes))) (omega arith)
    ]

pub IsBytes-tail : (b : ℕ) (bytes : List ℕ) → IsBytes (b ∷ bytes) → IsBytes bytes
IsBytes-tail b bytes fits i = fits (suc i)

pub length-to_be_bytes : (s : Size) (n : ℕ) → length (to_be_bytes (width s) n) ≡ byte_len (width s)
length-to_be_bytes one n = refl
length-to_be_bytes two n = refl
length-to_be_bytes four n = refl
length-to_be_bytes eight n = refl

-- ---- the first bytes

pub taken_again : (t u : List ℕ) → taken_at (length t) (t ++ u) ≡ Some (t, u)
taken_again t u =
    rw (
      le-ltb (length (t ++ u)) (length t) (omega (arith, length-append t u)),
      take_at t u (length t) refl,
      drop_at t u (length t) refl,
    ) refl

-- what was taken, and what is left of the bytes
pub record Taken (n : ℕ) (bytes t u : List ℕ) : Type 0 where
  pub long : length t ≡ n
  pub parts : bytes ≡ t ++ u
  pub fits : IsBytes t
  pub rest_fits : IsBytes u

pub taken_is : (n : ℕ) (bytes t u : List ℕ) → IsBytes bytes → taken_at n bytes ≡ Some (t, u) → Taken n bytes t u
taken_is n bytes t u fits e = by_test (cases_lt (length bytes) n) where
  by_test : (length bytes < n) ⊎ (n ≤ length bytes) → Taken n bytes t u
  by_test (inl lt) = absurd (none_is_some (t, u) (rw (lt-ltb (length bytes) n lt) at e))
  by_test (inr le) =
      let parts = some_is (take n bytes, drop n bytes) (t, u) (rw (le-ltb (length bytes) n le) at e) in
      let t_is : take n bytes ≡ t = ap (λ (p : List ℕ × List ℕ). p.0) parts in
      let u_is : drop n bytes ≡ u = ap (λ (p : List ℕ × List ℕ). p.1) parts in
      record {
        long = ap length (sym t_is) ∙ length-take-le n bytes le;
        parts = sym (take-append-drop n bytes) ∙ ap (λ (p : List ℕ). p ++ drop n bytes) t_is
            ∙ ap (λ (p : List ℕ). t ++ p) u_is;
        fits = subst IsBytes t_is (IsBytes-take n bytes fits);
        rest_fits = subst IsBytes u_is (IsBytes-drop n bytes fits);
      }

-- ---- numbers

from_be_bytes-to_be_bytes : (s : Size) (n : ℕ) → n < limit s → from_be_bytes (width s) (to_be_bytes (width s) n) ≡ n
from_be_bytes-to_be_bytes one n lt = omega arith
from_be_bytes-to_be_bytes two n lt = from_be_bytes-to_be_bytes_2 n lt
from_be_bytes-to_be_bytes four n lt = from_be_bytes-to_be_bytes_4 n lt
from_be_bytes-to_be_bytes eight n lt = from_be_bytes-to_be_bytes_8 n lt

pub number_again : (s : Size) (n : ℕ) (u : List ℕ) → n < limit s
    → number_at s (to_be_bytes (width s) n ++ u) ≡ Some (n, u)
unfolding number_at
number_again s n u lt =
    let bytes = to_be_bytes (width s) n in
    let taken : taken_at (byte_len (width s)) (bytes ++ u) ≡ Some (bytes, u) =
    ap (λ (k : ℕ). taken_at k (bytes ++ u)) (sym (length-to_be_bytes s n)) ∙ taken_again bytes u in
    ap (λ (o : Read (List ℕ)). o >>= λ t. Some (from_be_bytes (width s) t.0, t.1)) taken
    ∙ ap (λ (m : ℕ). Some (m, u)) (from_be_bytes-to_be_bytes s n lt)

to_be_bytes-from_be_bytes : (s : Size) (t : List ℕ) → length t ≡ byte_len (width s) → IsBytes t
    → to_be_bytes (width s) (from_be_bytes (width s) t) ≡ t
to_be_bytes-from_be_bytes one [] long fits = absurd (omega arith)
to_be_bytes-from_be_bytes one (b ∷ []) long fits = ap (λ (c : ℕ). c ∷ []) (omega (arith, fits 0))
to_be_bytes-from_be_bytes one (b ∷ c ∷ t) long fits = absurd (omega arith)
to_be_bytes-from_be_bytes two t long fits = be_bytes_2 t _ long fits refl
to_be_bytes-from_be_bytes four t long fits = be_bytes_4 t _ long fits refl
to_be_bytes-from_be_bytes eight t long fits = be_bytes_8 t _ long fits refl

from_be_bytes-lt : (s : Size) (t : List ℕ) → IsBytes t → from_be_bytes (width s) t < limit s
from_be_bytes-lt one t fits = omega (arith, fits 0)
from_be_bytes-lt two t fits = omega (arith, fits 0, fits 1)
from_be_bytes-lt four t fits = omega (arith, fits 0, fits 1, fits 2, fits 3)
from_be_bytes-lt eight t fits = omega (arith, fits 0, fits 1, fits 2, fits 3, fits 4, fits 5, fits 6, fits 7)

pub record NumberTaken (s : Size) (bytes : List ℕ) (n : ℕ) (u : List ℕ) : Type 0 where
  pub below : n < limit s
  pub parts : bytes ≡ to_be_bytes (width s) n ++ u
  pub rest_fits : IsBytes u

pub number_is : (s : Size) (bytes : List ℕ) (n : ℕ) (u : List ℕ) → IsBytes bytes → number_at s bytes ≡ Some (n, u)
    → NumberTaken s bytes n u
unfolding number_at
number_is s bytes n u fits e =
    let b =
    bind_some (taken_at (byte_len (width s)) bytes) (λ t. Some (from_be_bytes (width s) t.0, t.1)) (n, u) e in
    let t = taken_is (byte_len (width s)) bytes b.0.0 b.0.1 fits b.1 in
    let made = some_is (from_be_bytes (width s) b.0.0, b.0.1) (n, u) b.2 in
    let n_is : from_be_bytes (width s) b.0.0 ≡ n = ap (λ (p : ℕ × List ℕ). p.0) made in
    let u_is : b.0.1 ≡ u = ap (λ (p : ℕ × List ℕ). p.1) made in
    record {
      below = subst (λ (m : ℕ). m < limit s) n_is (from_be_bytes-lt s b.0.0 t.fits);
      parts = t.parts ∙ ap (λ (p : List ℕ). p ++ b.0.1) (sym (to_be_bytes-from_be_bytes s b.0.0 t.long t.fits)
          ∙ ap (to_be_bytes (width s)) n_is) ∙ ap (λ (p : List ℕ). to_be_bytes (width s) n ++ p) u_is;
      rest_fits = subst IsBytes u_is t.rest_fits;
    }
