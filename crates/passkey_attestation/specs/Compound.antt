-- Compound attestation statements (WebAuthn Level 3, section 8.9).
use Rattle.std.specs.Prelude.{nat_le, Bool, false, not, ◌&&◌, ◌||◌, List, [], ◌∷◌, length, codes}
use Rattle.std.specs.Str.{bytes_eq}
use Rattle.passkey_attestation.specs.Statements.{ElementParts}

-- one of the statements is compound itself
abbrev pub has_nested : List ElementParts → Bool
has_nested [] = false
has_nested (e ∷ es) = bytes_eq e.fmt (codes "compound") || has_nested es

-- at least two statements, none of them compound
abbrev pub are_compound : List ElementParts → Bool
are_compound es = nat_le 2 (length es) && not (has_nested es)
