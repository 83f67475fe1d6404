-- Names: which of them begin with some bytes, and which equal them.
use Rattle.std.proofs.Common.{◌≡◌, ℕ, suc, ◌+◌, ◌<◌, ◌≤◌, Bool, true, false, cond, nat_lt, not, ◌||◌, List, [], ◌∷◌, ◌++◌, length, map, drop, get_or, take, Some, None, Bor, refl, sym, ap, ◌∙◌, arith}
use Rattle.std.specs.List.{position, position_or_len}
use Rattle.std.specs.Str.{bytes_eq}
use Rattle.std.proofs.lemmas.Bool.Decides.{nat_tests}
use Rattle.std.proofs.lemmas.List.{length-map, drop_all, take_at, take-append-drop}
use Rattle.std.proofs.Math.Seq.{drop-cons}
use Rattle.std.proofs.lemmas.Slice.Eq.{bytes_eq-Decides}
use Rattle.passkey_cbor.specs.Names.{place_of, begins, begins_one}

pub same_after : (s t u : List ℕ) → s ++ t ≡ s ++ u → t ≡ u
same_after [] t u e = e
same_after (x ∷ s) t u e = same_after s t u (let tails : s ++ t ≡ s ++ u = cc in tails)

-- ---- names after references

position_or_len-map : {X Y : Type 0} (f : X → Y) (p : Y → Bool) (xs : List X)
    → position_or_len (λ x. p (f x)) xs ≡ position_or_len p (map f xs)
position_or_len-map f p [] = refl
position_or_len-map f p (x ∷ xs) = ap (λ (n : ℕ). cond (not (p (f x))) (1 + n) 0) (position_or_len-map f p xs)

pub place_of-told : (s : List ℕ) (names : List (Bor (List ℕ)))
    → position (λ n. bytes_eq n.now s) names ≡ place_of s (map (λ n. n.now) names)
place_of-told s names =
    rw (position_or_len-map (λ n. n.now) (λ n. bytes_eq n s) names, length-map names (λ n. n.now)) refl

-- ---- whether a name begins with these bytes

pub begins_so : (s n rest : List ℕ) → n ≡ s ++ rest → begins s n ≡ true
begins_so s n rest e =
    (bytes_eq-Decides (take (length s) n) s).1 (ap (take (length s)) e ∙ take_at s rest (length s) refl)

begins_with : (s n : List ℕ) → begins s n ≡ true → n ≡ s ++ drop (length s) n
begins_with s n e =
    sym (take-append-drop (length s) n)
    ∙ ap (λ (t : List ℕ). t ++ drop (length s) n) ((bytes_eq-Decides (take (length s) n) s).0 e)

pub begins_not : (s n : List ℕ) → ((rest : List ℕ) → n ≡ s ++ rest → ⊥) → begins s n ≡ false
begins_not s n other = by (begins s n) refl where
  by : (b : Bool) → begins s n ≡ b → begins s n ≡ false
  by false e = e
  by true e = absurd (other (drop (length s) n) (begins_with s n e))

-- ---- a name that begins otherwise

suc_lt : (at len : ℕ) → nat_lt (1 + at) (suc len) ≡ nat_lt at len
suc_lt at len = grind (arith, nat_tests)

none-more : (p : Bool) (at len : ℕ) → p ≡ false → cond (nat_lt at len) (Some at) None ≡ None
    → cond (nat_lt (cond (not p) (1 + at) 0) (suc len)) (Some (cond (not p) (1 + at) 0)) None ≡ None
none-more p at len e none = by p (nat_lt at len) e refl none where
  by : (p b : Bool) → p ≡ false → nat_lt at len ≡ b → cond b (Some at) None ≡ None
      → cond (nat_lt (cond (not p) (1 + at) 0) (suc len)) (Some (cond (not p) (1 + at) 0)) None ≡ None
  by true b e is none = absurd cc
  by false true e is none = absurd cc
  by false false e is none = rw (suc_lt at len ∙ is) refl

is_not : (s n rest : List ℕ) → begins s n ≡ false → bytes_eq n (s ++ rest) ≡ false
is_not s n rest e = by (bytes_eq n (s ++ rest)) refl where
  by : (b : Bool) → bytes_eq n (s ++ rest) ≡ b → bytes_eq n (s ++ rest) ≡ false
  by false is = is
  by true is = absurd (not_both (begins s n) (begins_so s n rest ((bytes_eq-Decides n (s ++ rest)).0 is)) e) where
    not_both : (b : Bool) → b ≡ true → b ≡ false → ⊥
    not_both b p q = absurd cc

first_not : (p q : Bool) → (p || q) ≡ false → p ≡ false
first_not false q e = refl
first_not true q e = absurd cc

second_not : (p q : Bool) → (p || q) ≡ false → q ≡ false
second_not false q e = e
second_not true q e = absurd cc

-- if no name begins with these bytes, no longer string is one of the names
pub none_begins : (s : List ℕ) (names : List (List ℕ)) → begins_one s names ≡ false → (rest : List ℕ)
    → place_of (s ++ rest) names ≡ None
none_begins s [] e rest = refl
none_begins s (n ∷ names) e rest =
    none-more (bytes_eq n (s ++ rest)) (position_or_len (λ n. bytes_eq n (s ++ rest)) names) (length names)
    (is_not s n rest (first_not (begins s n) (begins_one s names) e))
    (none_begins s names (second_not (begins s n) (begins_one s names) e) rest)

-- ---- the names, one after the other

pub none_left : (s : List ℕ) (names : List (Bor (List ℕ))) (i : ℕ) → length names ≤ i
    → begins_one s (map (λ n. n.now) (drop i names)) ≡ false
none_left s names i end = rw (drop_all i names end) refl

-- this name begins with the bytes, or the test goes on with the next ones
pub one_there : (s : List ℕ) (names : List (Bor (List ℕ))) (i : ℕ) (name : List ℕ) (none : Bor (List ℕ))
    → i < length names → name ≡ (get_or names i none).now → begins_one s (map (λ n. n.now) (drop i names))
    ≡ (begins s name || begins_one s (map (λ n. n.now) (drop (i + 1) names)))
one_there s names i name none within at =
    let goes_on : drop i names ≡ get_or names i none ∷ drop (suc i) names = drop-cons names i none within in
    let one : suc i ≡ i + 1 = omega arith in
    ap (λ (ns : List (Bor (List ℕ))). begins_one s (map (λ n. n.now) ns)) goes_on
    ∙ ap (λ (n : List ℕ). begins s n || begins_one s (map (λ n. n.now) (drop (suc i) names))) (sym at)
    ∙ ap (λ (j : ℕ). begins s name || begins_one s (map (λ n. n.now) (drop j names))) one
