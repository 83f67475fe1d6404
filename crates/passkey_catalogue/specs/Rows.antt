-- The rows of a table of kinds: each has a name, a kind, and the standard that defines what its inputs are, with the section.
use denote.Enum.Bare.{sameb}
use denote.Enum.Declared.{Declared}
use Rattle.std.specs.Prelude.{ℕ, Bool, List, [], ◌∷◌, map, if◌then◌else◌}
use Rattle.passkey_webauthn.specs.Names.{Names}

abbrev pub Rows : Type 0 → Type 0
Rows T = List (List ℕ × T × List ℕ)

abbrev pub names_of : {T : Type 0} → Rows T → Names T
names_of {T} rows = map (λ (row : List ℕ × T × List ℕ). (row.0, row.1)) rows

-- the standard in the first row of the kind
abbrev pub source_in : {T : Type 0} → (T → T → Bool) → Rows T → T → List ℕ
source_in same [] x = []
source_in same (row ∷ rows) x = if same row.1 x then row.2 else source_in same rows x

-- the same for an enumeration, whose derived `==` compares the variants
abbrev pub own_source : (D : Declared) → Rows D.D → D.D → List ℕ
own_source D = source_in (sameb D)
