-- The first byte of a request or a response, and the body after it (CTAP 2.1, section 8).
use Rattle.std.specs.Prelude.{ℕ, List, [], ◌∷◌, Option, Some, None}
use Rattle.passkey_core.specs.Statuses.{IsStatus}
use Rattle.passkey_core.specs.declared.status.StatusCode.{StatusCode}

abbrev pub first_byte : List ℕ → Option ℕ
first_byte [] = None
first_byte (b ∷ bs) = Some b

abbrev pub after_first : List ℕ → Option (List ℕ)
after_first [] = None
after_first (b ∷ bs) = Some bs

-- the first byte is that of the status code
abbrev pub HasStatus : List ℕ → StatusCode → Type 0
HasStatus [] code = ⊥
HasStatus (b ∷ bs) code = IsStatus b code

-- a body without bytes is an empty map
abbrev pub map_of_body : List ℕ → List ℕ
map_of_body [] = 0xA0 ∷ []
map_of_body (b ∷ bs) = b ∷ bs
