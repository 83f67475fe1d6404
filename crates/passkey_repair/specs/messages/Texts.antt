-- What is printed of a repair.
use Rattle.std.specs.Prelude.{ℕ, List, [], ◌∷◌, ◌++◌, codes, flat_map}
use Rattle.passkey_repair.specs.declared.messages.change.Change.{Change}
use Rattle.passkey_repair.specs.declared.messages.change.Change.TheVariants as change
use Rattle.passkey_repair.specs.declared.messages.deviation.Deviation.{Deviation}
use Rattle.passkey_repair.specs.declared.messages.deviation.Deviation.TheVariants as deviation
use Rattle.passkey_repair.specs.declared.messages.key.Key.{Key}
use Rattle.passkey_repair.specs.declared.messages.key.Key.TheVariants as key
use Rattle.passkey_repair.specs.declared.messages.literal.Literal.{Literal}
use Rattle.passkey_repair.specs.declared.messages.literal.Literal.TheVariants as literal
use Rattle.passkey_repair.specs.declared.messages.repairs.Repair.{Repair}

abbrev pub deviation_text : Deviation → List ℕ
deviation_text deviation.AbsentName = codes "a user's name left out, as Chrome and libfido2 do"
deviation_text deviation.NullName = codes "null for a user's name, as Firefox writes it"
deviation_text deviation.EmptyArrayAsText = codes "an array for an empty text, as python-fido2 writes it"
deviation_text deviation.PrfWithoutEnabled = codes "outputs of prf without enabled"
deviation_text deviation.NullEnabled = codes "null for enabled of prf"
deviation_text deviation.EmptyPrf = codes "outputs of prf without results"

abbrev pub literal_text : Literal → List ℕ
literal_text literal.EmptyText = codes "an empty text"
literal_text literal.EmptyArray = codes "an empty array"
literal_text literal.EmptyMap = codes "an empty map"
literal_text literal.Null = codes "null"
literal_text literal.True = codes "true"

abbrev pub key_text : Key → List ℕ
key_text (key.Number n name) = name.now
key_text (key.Name name) = name.now

-- a key, after a dot
abbrev pub next_text : Key → List ℕ
next_text k = codes "." ++ key_text k

-- the keys of a path, with dots between them
abbrev pub place_text : List Key → List ℕ
place_text [] = []
place_text (k ∷ ks) = key_text k ++ flat_map next_text ks

abbrev pub replaced_text : Literal → Literal → List ℕ
replaced_text from to = codes ": " ++ literal_text from ++ codes ", read as " ++ literal_text to

abbrev pub added_text : List ℕ → Literal → List ℕ
added_text name value = codes "." ++ name ++ codes ": absent" ++ codes ", read as " ++ literal_text value

abbrev pub left_out_text : List ℕ → Literal → List ℕ
left_out_text name value = codes "." ++ name ++ codes ": " ++ literal_text value ++ codes ", read as absent"

abbrev pub change_text : Change → List ℕ
change_text (change.Replace from to) = replaced_text from to
change_text (change.Add name beside value) = added_text name.now value
change_text (change.LeaveOut name value) = left_out_text name.now value

abbrev pub repair_text : Repair → List ℕ
repair_text r =
    place_text r.path.now ++ change_text r.change ++ codes " (" ++ deviation_text r.deviation ++ codes ")"
