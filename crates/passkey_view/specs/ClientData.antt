-- Client data as a client writes them (WebAuthn Level 3, sections 5.8.1.1 and 5.8.1.2).
use Rattle.std.specs.Prelude.{ℕ, ◌==◌, ◌+◌, ◌*◌, ◌-◌, ◌/◌, ◌%◌, nat_lt, Bool, true, false, ◌||◌, if◌then◌else◌, List, [], ◌∷◌, ◌++◌, map, codes, Option, Some, None}

infixl 10 ◌>>=◌
abbrev pub ◌>>=◌ : {X Y : Type 0} → Option X → (X → Option Y) → Option Y
None >>= f = None
(Some x) >>= f = f x

-- what follows these bytes, if others begin with them
unfoldable pub after : List ℕ → List ℕ → Option (List ℕ)
after [] bs = Some bs
after (p ∷ ps) [] = None
after (p ∷ ps) (b ∷ bs) = if b == p then after ps bs else None

-- what follows these pieces, one after the other
abbrev pub after_each : List (List ℕ) → List ℕ → Option (List ℕ)
after_each [] bs = Some bs
after_each (p ∷ ps) bs = after p bs >>= after_each ps

-- ---- strings (CCDToString)

abbrev pub hex_digit : ℕ → ℕ
hex_digit n = if nat_lt n 10 then 48 + n else 87 + n

-- a byte of a string: a quote, a backslash and a control character have an escape
abbrev pub escaped : ℕ → List ℕ
escaped b =
    if b == 34 then codes "\\\"" else (
    if b == 92 then codes "\\\\" else (
    if nat_lt b 32 then codes "\\u00" ++ hex_digit (b / 16) ∷ hex_digit (b % 16) ∷ [] else b ∷ []))

-- what follows a string in quotes
unfoldable pub after_string : List ℕ → List ℕ → Option (List ℕ)
after_string s = after_each (codes "\"" ∷ (map escaped s ++ codes "\"" ∷ []))

-- ---- base64url without padding (RFC 4648, section 5)

-- the symbol of six bits
abbrev pub symbol : ℕ → ℕ
symbol n =
    if nat_lt n 26 then 65 + n else (
    if nat_lt n 52 then 71 + n else (
    if nat_lt n 62 then n - 4 else (
    if n == 62 then 45 else 95)))

-- the symbols of three bytes, and so on
abbrev pub groups : List ℕ → List (List ℕ)
groups [] = []
groups (a ∷ []) = (symbol (a / 4) ∷ symbol (a % 4 * 16) ∷ []) ∷ []
groups (a ∷ b ∷ []) = (symbol (a / 4) ∷ symbol (a % 4 * 16 + b / 16) ∷ symbol (b % 16 * 4) ∷ []) ∷ []
groups (a ∷ b ∷ c ∷ bs) =
    (symbol (a / 4) ∷ symbol (a % 4 * 16 + b / 16) ∷ symbol (b % 16 * 4 + c / 64) ∷ symbol (c % 64) ∷ []) ∷ groups bs

unfoldable pub after_base64url : List ℕ → List ℕ → Option (List ℕ)
after_base64url bytes = after_each (groups bytes)

-- ---- client data

-- what follows the type and the challenge, which in base64url has nothing to escape
unfoldable pub after_challenge : List ℕ → List ℕ → List ℕ → Option (List ℕ)
after_challenge ty challenge bytes = do
  bs ← after (codes "{\"type\":") bytes
  bs ← after_string ty bs
  bs ← after (codes ",\"challenge\":\"") bs
  bs ← after_base64url challenge bs
  after (codes "\"") bs

-- what follows the members before the value of crossOrigin
abbrev pub after_fixed_members : List ℕ → List ℕ → List ℕ → List ℕ → Option (List ℕ)
after_fixed_members ty challenge origin bytes = do
  bs ← after_challenge ty challenge bytes
  bs ← after (codes ",\"origin\":") bs
  bs ← after_string origin bs
  after (codes ",\"crossOrigin\":") bs

-- what follows a top origin, if its name is there; if it isn't, clients of Level 2 don't write it
abbrev pub after_name : Bool → List ℕ → List ℕ → Option (List ℕ) → Option (List ℕ)
after_name is_required top bs (Some rest) = after_string top rest
after_name true top bs None = None
after_name false top bs None = Some bs

-- what follows the member topOrigin
abbrev pub after_top_origin : Bool → List ℕ → List ℕ → Option (List ℕ)
after_top_origin is_required top bs = after_name is_required top bs (after (codes ",\"topOrigin\":") bs)

-- what follows the value of crossOrigin, and the top origin where one is expected
abbrev pub after_cross_origin : Bool → Option (List ℕ) → List ℕ → Option (List ℕ)
after_cross_origin is_required (Some top) bs =
    after (codes "true") bs >>= after_top_origin is_required top
after_cross_origin is_required None bs = after (codes "false") bs

-- the object ends here, or another member follows
abbrev pub ends_member : Option (List ℕ) → Bool
ends_member (Some (b ∷ bs)) = (b == 125) || (b == 44)
ends_member _ = false

abbrev pub is_client_data : List ℕ → List ℕ → List ℕ → Option (List ℕ) → Bool → List ℕ → Bool
is_client_data ty challenge origin top is_required bs =
    ends_member (after_fixed_members ty challenge origin bs >>= after_cross_origin is_required top)
