-- What `--kinds` prints.
use Rattle.std.specs.Prelude.{ℕ, zero, suc, List, [], ◌∷◌, ◌++◌, if◌then◌else◌, Option, Some, None, codes, decimal}
use Rattle.passkey_catalogue.specs.Catalogue.{is_json, kind_at, kind_numbered, name_of}
use Rattle.passkey_catalogue.specs.Sources.{source_of}
use Rattle.passkey_catalogue.specs.declared.kind.Kind.{Kind}

abbrev pub form_name : Kind → List ℕ
form_name k = if is_json k then codes "JSON" else codes "bytes"

-- the name, the number, the form and the standard, with tabs between them
abbrev pub kind_text : Kind → List ℕ → List ℕ
kind_text k number = name_of k ++ 9 ∷ number ++ 9 ∷ form_name k ++ 9 ∷ source_of k ++ 10 ∷ []

-- the line of a kind with a number in C, or of another one
abbrev line_text : ℕ → Option Kind → Option Kind → List ℕ
line_text n (Some k) other = kind_text k (decimal n)
line_text n None (Some k) = kind_text k (codes "-")
line_text n None None = []

-- the line of the kind at this place, if there is one
abbrev pub kind_line : ℕ → List ℕ
kind_line n = line_text n (kind_numbered n) (kind_at n)

-- the lines up to this place
abbrev pub lines_to : ℕ → List ℕ
lines_to zero = []
lines_to (suc n) = lines_to n ++ kind_line (suc n)

abbrev pub all_kinds_text : List ℕ
all_kinds_text = lines_to 255
