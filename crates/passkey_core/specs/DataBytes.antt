-- Bytes that are returned one by one.
use Rattle.std.specs.Prelude.{◌≡◌, ℕ, List, [], ◌∷◌, Option, Some, None}

-- the first of the bytes that are left, and then the others are left; `None` if none are left
abbrev pub GivesByte : List ℕ → Option ℕ → List ℕ → Type 0
GivesByte [] result left = (result ≡ None) × (left ≡ [])
GivesByte (b ∷ bs) result left = (result ≡ Some b) × (left ≡ bs)
