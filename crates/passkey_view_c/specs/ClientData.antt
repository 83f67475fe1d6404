-- The top origin that C gives.
use Rattle.std.specs.Prelude.{ℕ, List, [], ◌∷◌, Option, Some, None}

-- an empty string is none
abbrev pub top_origin_of : List ℕ → Option (List ℕ)
top_origin_of [] = None
top_origin_of (x ∷ xs) = Some (x ∷ xs)
