-- Tables of values, each with its number.
use Rattle.std.specs.Prelude.{Bool, List, Option}
use Rattle.std.specs.List.{find}

-- the first value in the list that has this number
abbrev pub numbered : {T N : Type 0} → (N → N → Bool) → (T → N) → List T → N → Option T
numbered same number values n = find (λ a. same (number a) n) values
