-- The digits in a dump by `xxd` or by `hexdump -C`: of each line what is after the offset and before the text.
use Rattle.std.specs.Prelude.{ℕ, List, [], ◌∷◌, Bool, true, false, not, ◌==◌, ◌&&◌, ◌||◌, if◌then◌else◌}
use Rattle.passkey_inspect_input.specs.declared.dump.Place.{Place}
use Rattle.passkey_inspect_input.specs.declared.dump.Place.TheVariants.{Offset, Digits, Gap, Barred, Text}

abbrev pub begins_with : List ℕ → List ℕ → Bool
begins_with [] input = true
begins_with (first ∷ prefix) [] = false
begins_with (first ∷ prefix) (byte ∷ input) = byte == first && begins_with prefix input

-- `00000000` and then a colon, or two spaces
abbrev pub is_dump : List ℕ → Bool
is_dump input =
    begins_with (48 ∷ 48 ∷ 48 ∷ 48 ∷ 48 ∷ 48 ∷ 48 ∷ 48 ∷ 58 ∷ []) input
    || begins_with (48 ∷ 48 ∷ 48 ∷ 48 ∷ 48 ∷ 48 ∷ 48 ∷ 48 ∷ 32 ∷ 32 ∷ []) input

-- the place of the byte after this one, in the same line: after a colon two spaces end the digits, else a bar
abbrev pub next_in_line : Place → ℕ → Place
next_in_line Offset byte = if byte == 58 then Digits else if byte == 32 then Barred else Offset
next_in_line Digits byte = if byte == 32 then Gap else Digits
next_in_line Gap byte = if byte == 32 then Text else Digits
next_in_line Barred byte = if byte == 124 then Text else Barred
next_in_line Text byte = Text

abbrev pub next_place : Place → ℕ → Place
next_place place byte = if byte == 10 then Offset else next_in_line place byte

-- A star in place of an offset stands for lines that are left out: it stays, and is no digit.
abbrev pub keeps : Place → ℕ → Bool
keeps Offset byte = byte == 42
keeps Digits byte = true
keeps Gap byte = true
keeps Barred byte = not (byte == 124)
keeps Text byte = false

abbrev pub spelled_from : Place → List ℕ → List ℕ
spelled_from place [] = []
spelled_from place (byte ∷ rest) =
    if keeps place byte then byte ∷ spelled_from (next_place place byte) rest
    else spelled_from (next_place place byte) rest
