-- Texts without the white space at their ends.
use Rattle.std.specs.Prelude.{◌≡◌, ℕ, List, [], ◌∷◌, ◌++◌, reverse, Bool, false, ◌==◌, ◌||◌, if◌then◌else◌}
use Rattle.std.specs.List.{AllPass}

-- a tab, a line feed, a carriage return or a space
abbrev pub is_space : ℕ → Bool
is_space byte = byte == 9 || byte == 10 || byte == 13 || byte == 32

-- the text without the white space at its beginning
abbrev pub trimmed_start : List ℕ → List ℕ
trimmed_start [] = []
trimmed_start (byte ∷ rest) = if is_space byte then trimmed_start rest else byte ∷ rest

-- the text without the white space at its end
abbrev pub trimmed_end : List ℕ → List ℕ
trimmed_end text = reverse (trimmed_start (reverse text))

-- the text without the white space at both ends
abbrev pub trimmed : List ℕ → List ℕ
trimmed text = trimmed_end (trimmed_start text)

-- The text is the core, with only white space before and after it. The core itself neither begins
-- nor ends with white space.
pub record IsCore (text core : List ℕ) : Type 0 where
  pub before : List ℕ
  pub after : List ℕ
  pub whole : text ≡ before ++ core ++ after
  pub space_before : AllPass is_space before
  pub space_after : AllPass is_space after
  pub begins : (byte : ℕ) (rest : List ℕ) → core ≡ byte ∷ rest → is_space byte ≡ false
  pub ends : (byte : ℕ) (rest : List ℕ) → core ≡ rest ++ byte ∷ [] → is_space byte ≡ false
