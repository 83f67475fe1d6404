-- A description as JSON (RFC 8259), as the bytes of its text.
use Rattle.std.specs.Prelude.{ℕ, ℤ, List, [], ◌∷◌, ◌++◌, length, ◌==◌, ◌&&◌, Bool, true, false, if◌then◌else◌, Option, Some, None, codes}
use Rattle.std.specs.Fmt.{signed_decimal}
use Rattle.base64.specs.Engines.{url_safe_no_pad}
use Rattle.base64.specs.GeneralPurpose.{encode_of}
use Rattle.passkey_cbor.specs.Item.{Item, number, byte_string, text_string, boolean, null}
use Rattle.passkey_cbor_text.specs.diagnose.Diagnosis.{diagnosis}
use Rattle.passkey_cbor_text.specs.diagnose.Quoted.{quoted}
use Rattle.passkey_explain.specs.Described.{Described, Parts, Sort, Label, leaf, parts, no_parts, part, list, element, key, member, unknown}
use Rattle.uuid.specs.Text.{hyphenated_text, lower}
use Rattle.passkey_iana.specs.Iana.{algorithm_named}
use Rattle.passkey_iana.specs.Signed64.{is_signed_64}
use Rattle.passkey_iana.specs.declared.algorithm.Algorithm.{Algorithm}
use Rattle.passkey_iana.specs.declared.algorithm.Algorithm.TheVariants as algorithm
use Rattle.passkey_kinds.specs.declared.wanted.Wanted.{Wanted}
use Rattle.passkey_kinds.specs.declared.wanted.Wanted.TheVariants as wanted

-- the name of an algorithm (IANA's registry "COSE Algorithms")
abbrev pub algorithm_name : Algorithm → List ℕ
algorithm_name algorithm.RS1 = codes "RS1"
algorithm_name algorithm.RS512 = codes "RS512"
algorithm_name algorithm.RS384 = codes "RS384"
algorithm_name algorithm.RS256 = codes "RS256"
algorithm_name algorithm.ML_DSA_87 = codes "ML-DSA-87"
algorithm_name algorithm.ML_DSA_65 = codes "ML-DSA-65"
algorithm_name algorithm.ML_DSA_44 = codes "ML-DSA-44"
algorithm_name algorithm.ES256K = codes "ES256K"
algorithm_name algorithm.PS512 = codes "PS512"
algorithm_name algorithm.PS384 = codes "PS384"
algorithm_name algorithm.PS256 = codes "PS256"
algorithm_name algorithm.ES512 = codes "ES512"
algorithm_name algorithm.ES384 = codes "ES384"
algorithm_name algorithm.ECDH_ES_HKDF_256 = codes "ECDH-ES + HKDF-256"
algorithm_name algorithm.EdDSA = codes "EdDSA"
algorithm_name algorithm.ES256 = codes "ES256"

-- the algorithm with this number, which has at most 64 bits
abbrev pub algorithm_in : ℤ → Option Algorithm
algorithm_in z = if is_signed_64 z then algorithm_named z else None

abbrev pub named_or : Option Algorithm → List ℕ → List ℕ
named_or (Some a) other = quoted (algorithm_name a)
named_or None other = other

-- an AAGUID (WebAuthn Level 3, section 6.5.1) is the one byte string of 16 bytes that a table wants
abbrev pub is_aaguid : Wanted → Bool
is_aaguid (wanted.ByteString n) = n == 16
is_aaguid _ = false

abbrev pub is_algorithm : Wanted → Bool
is_algorithm wanted.Algorithm = true
is_algorithm _ = false

-- bytes: an AAGUID as a UUID (RFC 9562, section 4), and others in base64url (RFC 4648, section 5)
abbrev pub bytes_json : Wanted → List ℕ → List ℕ
bytes_json w s = if is_aaguid w && (length s == 16) then hyphenated_text lower s else encode_of url_safe_no_pad s

-- a number, and where an algorithm is wanted the name of the one that has it
abbrev pub number_json : Wanted → ℤ → List ℕ
number_json w z = if is_algorithm w then named_or (algorithm_in z) (signed_decimal z) else signed_decimal z

-- a data item: numbers, texts, booleans and null as JSON has them, and what JSON doesn't have as a string in diagnostic
-- notation
abbrev pub leaf_json : Wanted → Item → List ℕ
leaf_json w (number z) = number_json w z
leaf_json w (byte_string s) = quoted (bytes_json w s)
leaf_json w (text_string s) = quoted s
leaf_json w (boolean b) = diagnosis (boolean b) []
leaf_json w null = diagnosis null []
leaf_json w i = quoted (diagnosis i [])

-- a key of a map: a text as it is, and others in diagnostic notation
abbrev pub key_json : Item → List ℕ
key_json (text_string s) = quoted s ++ 58 ∷ []
key_json i = quoted (diagnosis i []) ++ 58 ∷ []

-- what stands before a part: nothing, or its name
abbrev pub label_json : Label → List ℕ
label_json element = []
label_json (key i) = key_json i
label_json (member n name) = quoted name ++ 58 ∷ []
label_json (unknown i) = key_json i

abbrev pub opening : Sort → ℕ
opening list = 91
opening _ = 123

abbrev pub closing : Sort → ℕ
closing list = 93
closing _ = 125

-- what separates the parts
abbrev pub comma_if : Bool → List ℕ
comma_if is_first = if is_first then [] else 44 ∷ []

-- The text of a description: an array of elements, or an object of members, of which the first stands after the second
-- argument and the others after a comma.
abbrev mutual
  pub json_text : Described → List ℕ
  json_text (leaf w i) = leaf_json w i
  json_text (parts s ps) = opening s ∷ (parts_json ps [] ++ closing s ∷ [])

  pub parts_json : Parts → List ℕ → List ℕ
  parts_json no_parts before = []
  parts_json (part l d ps) before = before ++ (label_json l ++ (json_text d ++ parts_json ps (44 ∷ [])))
