-- Text in double quotes, as a JSON string (RFC 8259, section 7), of which a terminal takes nothing as a command.
use Rattle.std.specs.Prelude.{ℕ, List, [], ◌∷◌, ◌++◌, Bool, ◌==◌, ◌||◌, ◌&&◌, nat_lt, nat_le, if◌then◌else◌, flat_map}
use Rattle.std.specs.Prelude.{encode_utf8}
use Rattle.std.specs.Int.{w16, to_be_bytes}
use Rattle.std.specs.Str.{chars}
use Rattle.hex.specs.Hex.{encode_lower}

abbrev pub is_between : ℕ → ℕ → ℕ → Bool
is_between from to c = nat_le from c && nat_lt c to

-- control characters (C0, DEL and C1), the separators of lines and paragraphs, and what changes the direction of text
-- (Unicode Standard Annex #9, section 2)
abbrev pub is_escaped : ℕ → Bool
is_escaped c = nat_lt c 0x20 || is_between 0x7f 0xa0 c || c == 0x61c || is_between 0x200e 0x2010 c
    || is_between 0x2028 0x202f c || is_between 0x2066 0x206a c

-- a character's text: quotes, backslashes and line feeds after a backslash, and the others that are escaped by their code
abbrev pub char_text : ℕ → List ℕ
char_text c =
    if c == 34 then 92 ∷ 34 ∷ []
    else if c == 92 then 92 ∷ 92 ∷ []
    else if c == 10 then 92 ∷ 110 ∷ []
    else if is_escaped c then 92 ∷ 117 ∷ encode_lower (to_be_bytes w16 c)
    else encode_utf8 c

abbrev pub quoted : List ℕ → List ℕ
quoted text = 34 ∷ (flat_map char_text (chars text) ++ 34 ∷ [])

-- a character outside a string, which is escaped as in one unless it is a line feed
abbrev pub visible_text : ℕ → List ℕ
visible_text c =
    if c == 10 then encode_utf8 c
    else if is_escaped c then 92 ∷ 117 ∷ encode_lower (to_be_bytes w16 c)
    else encode_utf8 c
