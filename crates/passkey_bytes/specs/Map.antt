-- Finite maps from byte strings, and lists of their entries.
use Rattle.std.specs.Prelude.{◌≡◌, ◌<◌, ◌^◌, ◌&&◌, ℕ, Bool, List, map, length, None, MatchOption}
use Rattle.std.specs.FinMap as fin
use Rattle.std.specs.List.{fold, list_all}
use Rattle.std.specs.Map.Iter.{GivesInOrder, ShowsInOrder, deref_pair}
use Rattle.std.specs.Option.{IsSomeAnd, option_eq}
use Rattle.std.specs.Cmp.Lexicographic.{slice_cmp}
use Rattle.std.specs.Ordering.{nat_cmp}

abbrev pub ByteMap : Type 0 → Type 0
ByteMap V = fin.FinMap (slice_cmp nat_cmp) V

-- the entries, with each key replaced by its bytes
abbrev pub by_bytes : {K V : Type 0} → (K → List ℕ) → List (K × V) → List (List ℕ × V)
by_bytes bytes es = map (λ e. (bytes e.0, e.1)) es

-- the map with these entries, which may be in any order
abbrev pub map_of : {K V : Type 0} → (K → List ℕ) → List (K × V) → ByteMap V
map_of bytes es = fin.from_entries (by_bytes bytes es)

-- the map after the entries are inserted in their order: among equal keys, the last entry wins
abbrev pub put_each : {V : Type 0} → ByteMap V → List (List ℕ × V) → ByteMap V
put_each m es = fold (λ n e. fin.insert n e.0 e.1) m es

-- these are the map's entries, in the order of their keys' bytes
abbrev pub AreEntries : {K V : Type 0} → (K → List ℕ) → ByteMap V → List (K × V) → Type 0
AreEntries bytes m es = by_bytes bytes es ≡ fin.entries m

-- whether both maps lack the key q, or both have it with values that are equal by E
abbrev pub agree : {V : Type 0} → (V → V → Bool) → ByteMap V → ByteMap V → List ℕ → Bool
agree E m n q = option_eq E (fin.get m q) (fin.get n q)

-- whether the two maps agree at each key of either
abbrev pub maps_eq : {V : Type 0} → (V → V → Bool) → ByteMap V → ByteMap V → Bool
maps_eq E m n = list_all (agree E m n) (fin.keys m) && list_all (agree E m n) (fin.keys n)

-- the iterator yields the map's entries, in the order of their keys' bytes
abbrev pub GivesEntries : {K V : Type 0} → (K → List ℕ) → ByteMap V → List (K × V) → Type 0
GivesEntries {K} {V} bytes m it = AreEntries bytes m it × (length it < 2 ^ 63) × GivesInOrder (K × V)

-- the same for references to the entries
abbrev pub LendsEntries : {K V : Type 0} → (K → List ℕ) → ByteMap V → List (K × V) → Type 0
LendsEntries {K} {V} bytes m it =
    AreEntries bytes m it × (length it < 2 ^ 63) × ShowsInOrder (deref_pair {K = K} {X = V})

-- the copy has the same keys as the map, and each of its values is a clone by C of the map's
abbrev pub ClonesValues : {V : Type 0} → (V → V → Type 0) → ByteMap V → ByteMap V → Type 0
ClonesValues C m copy = (q : List ℕ)
    → MatchOption (fin.get m q) (fin.get copy q ≡ None) (λ v. IsSomeAnd (fin.get copy q) (C v))
