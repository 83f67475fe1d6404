-- The names of an enumeration's values.
use denote.Bor.{Bor}
use denote.Enum.Bare.{sameb}
use denote.Enum.Declared.{Declared}
use Rattle.std.specs.Prelude.{ℕ, Bool, List, [], ◌∷◌, map, slice_get, Option, Some, None, option_map, option_and_then, if◌then◌else◌}
use Rattle.std.specs.Str.{bytes_eq}
use Rattle.passkey_iana.specs.Table.{numbered}

-- the first value in the list that has this name
abbrev pub named_in : {T : Type 0} → (T → List ℕ) → List T → List ℕ → Option T
named_in name_of values name = numbered bytes_eq name_of values name

-- names, each with its value
abbrev pub Names : Type 0 → Type 0
Names T = List (List ℕ × T)

abbrev pub row_of : {T : Type 0} → Bor (List ℕ) × T → List ℕ × T
row_of row = (row.0.now, row.1)

-- the value with this name
abbrev pub value_in : {T : Type 0} → Names T → List ℕ → Option T
value_in [] name = None
value_in (n ∷ ns) name = if bytes_eq n.0 name then Some n.1 else value_in ns name

-- the first name of the value
abbrev pub name_in : {T : Type 0} → (T → T → Bool) → Names T → T → List ℕ
name_in same [] x = []
name_in same (n ∷ ns) x = if same n.1 x then n.0 else name_in same ns x

-- the same for an enumeration, whose derived `==` compares the variants
abbrev pub own_name : (D : Declared) → Names D.D → D.D → List ℕ
own_name D = name_in (sameb D)

-- ---- for private clauses

-- the names alone
abbrev pub texts : {T : Type 0} → Names T → List (List ℕ)
texts {T} ns = map (λ (n : List ℕ × T). n.0) ns

-- the value at this index
abbrev pub value_at : {T : Type 0} → Names T → Option ℕ → Option T
value_at {T} ns index = option_and_then (λ k. option_map (λ (n : List ℕ × T). n.1) (slice_get ns k)) index
