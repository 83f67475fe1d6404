-- JSON texts (RFC 8259), as bytes.
use Rattle.std.specs.Prelude.{◌≡◌, ℕ, List, Some, None}
use Rattle.std.specs.Str.{IsUtf8}
use Rattle.serde_json.specs.Data.{Data}
use Rattle.serde_json.specs.Read.{read}

-- the bytes are UTF-8, and a JSON text with this value
abbrev pub IsJson : List ℕ → Data → Type 0
IsJson bytes d = IsUtf8 bytes × (read bytes ≡ Some d)

-- the bytes aren't UTF-8, or the text isn't a JSON text
abbrev pub HasNoJson : List ℕ → Type 0
HasNoJson bytes = IsUtf8 bytes → read bytes ≡ None
