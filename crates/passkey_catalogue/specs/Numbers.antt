-- The values of an enumeration, by their places in its table.
use Rattle.std.specs.Prelude.{ℕ, ◌-◌, nat_lt, if◌then◌else◌, Option, None, Some}
use Rattle.passkey_webauthn.specs.Names.{Names, value_at}

-- the value whose place, from the first number on, is this one
abbrev pub value_from : {T : Type 0} → Names T → ℕ → ℕ → Option T
value_from ns first n = if nat_lt n first then None else value_at ns (Some (n - first))
