-- Which of several names a string is.
use Rattle.std.specs.Prelude.{◌≡◌, ℕ, suc, List, [], ◌∷◌, ◌++◌, length, take, Bool, Option, Some, None, if◌then◌else◌}
use Rattle.std.specs.List.{position, list_any}
use Rattle.std.specs.Str.{bytes_eq}
use Rattle.passkey_cbor.specs.Inside.{Content}
use Rattle.passkey_cbor.specs.Lent.{Region, HoldsString}
use Rattle.passkey_cbor.specs.CursorState.{CursorState, raised}

-- The index of the first of the names that equals the string.
abbrev pub place_of : List ℕ → List (List ℕ) → Option ℕ
place_of s names = position (λ n. bytes_eq n s) names

-- whether the name begins with s
abbrev pub begins : List ℕ → List ℕ → Bool
begins s name = bytes_eq (take (length s) name) s

-- whether one of the names begins with s
abbrev pub begins_one : List ℕ → List (List ℕ) → Bool
begins_one s names = list_any (begins s) names

-- The index of the first of the names that equals the string; `None` if none does.
abbrev pub IsNameOf : Bool → Region → List (List ℕ) → Option ℕ → Type 0
IsNameOf is_text r names place = (s : List ℕ) → HoldsString is_text r s → place ≡ place_of s names

-- How many heads are decoded to look up the names in these chunks, after chunks that join to `joined`: one for
-- each chunk until no name begins with what was joined so far; if one still does after the last chunk, one more
-- for the break.
abbrev pub heads_until : List (List ℕ) → List ℕ → List (List ℕ) → ℕ
heads_until names joined [] = 1
heads_until names joined (c ∷ cs) =
    suc (if begins_one (joined ++ c) names then heads_until names (joined ++ c) cs else 0)

-- the same in a region; a string of definite length has no heads in it
abbrev pub heads_sought : (is_text : Bool) → List (List ℕ) → (len : Option ℕ) (s bytes : List ℕ)
    → Content is_text len s bytes → ℕ
heads_sought is_text names (Some n) s bytes c = 0
heads_sought is_text names None s bytes c = heads_until names [] c.first.0

-- The cursor doesn't move, and counts the heads that were decoded to look up the names.
pub record LooksFor (is_text : Bool) (names : List (List ℕ)) (r : Region) (old new : CursorState) : Type 0 where
  pub heads : (s : List ℕ) (t : HoldsString is_text r s)
      → new.heads ≡ raised old.heads (heads_sought is_text names r.len s r.bytes t)
  pub place : new.place ≡ old.place
  pub nodes : new.nodes ≡ old.nodes
  pub bytes : new.bytes ≡ old.bytes
