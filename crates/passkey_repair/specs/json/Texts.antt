-- What is printed of a deviation and of a repair.
use Rattle.std.specs.Prelude.{ℕ, List, ◌++◌, codes, flat_map}
use Rattle.std.proofs.Common.{Bor}
use Rattle.passkey_repair.specs.declared.json.deviation.Deviation.{Deviation}
use Rattle.passkey_repair.specs.declared.json.deviation.Deviation.TheVariants as deviation
use Rattle.passkey_repair.specs.declared.json.repair.Repair.{Repair}

abbrev pub deviation_text : Deviation → List ℕ
deviation_text deviation.NullMember = codes "null, left out"
deviation_text deviation.NoName = codes "absent or null, read as an empty text"
deviation_text deviation.EmptyArray = codes "an empty array, read as an empty text"
deviation_text deviation.WholeFloat = codes "a float with a whole value, read as an integer"
deviation_text deviation.UnknownTransport = codes "unknown transports, left out"
deviation_text deviation.NullOutputs = codes "null, read as an empty object"
deviation_text deviation.RenamedOutputs = codes "absent, taken from extensions"
deviation_text deviation.NoAuthenticatorData = codes "absent, taken from attestationObject"
deviation_text deviation.NoKeyAlgorithm = codes "absent, taken from attestationObject"

-- the names of the objects around a member, each with a dot
abbrev pub around_text : List (Bor (List ℕ)) → List ℕ
around_text names = flat_map (λ (name : Bor (List ℕ)). name.now ++ codes ".") names

abbrev pub repair_text : Repair → List ℕ
repair_text r = around_text r.within.now ++ r.member.now ++ codes ": " ++ deviation_text r.deviation
