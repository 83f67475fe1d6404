-- Where a JSON value is no data item, and what is wanted there, as a person reads it.
use Rattle.std.specs.Prelude.{ℕ, List, [], ◌∷◌, ◌++◌, Option, Some, None, option_and_then, option_map, slice_get, codes, decimal}
use Rattle.json.specs.Json.{Json}
use Rattle.json.specs.Json as json
use Rattle.passkey_cbor_text.specs.declared.values.no_item.ItemReason.{ItemReason}
use Rattle.passkey_cbor_text.specs.declared.values.no_item.ItemReason.TheVariants as reason
use Rattle.passkey_cbor_text.specs.values.NoItem.{NoItem}
use Rattle.passkey_render.specs.Parts.{items_in, members_in}

abbrev pub reason_text : ItemReason → List ℕ
reason_text reason.Integer = codes "an integer from -18446744073709551616 to 18446744073709551615 is wanted"
reason_text reason.Bytes = codes "bytes in base64url are wanted"
reason_text reason.Encoding = codes "one data item in hexadecimal is wanted"
reason_text reason.Pairs = codes "an array of arrays of a key and a value is wanted"
reason_text reason.String = codes "a string is wanted"
reason_text reason.Repeated = codes "an earlier member has this key"
reason_text reason.DataParts =
    codes "rpIdHash, flags and signCount are wanted, attestedCredentialData if AT is set, extensions if ED is, and no others"
reason_text reason.AttestedParts = codes "aaguid, credentialId and credentialPublicKey are wanted, and no others"
reason_text reason.Hash = codes "32 bytes in base64url are wanted"
reason_text reason.Aaguid = codes "16 bytes are wanted, as a UUID or in base64url"
reason_text reason.CredentialId = codes "at most 65535 bytes in base64url are wanted"
reason_text reason.Flags = codes "an array of names of flags is wanted, or an integer from 0 to 255"
reason_text reason.Flag = codes "one of UP, UV, BE, BS, AT and ED is wanted"
reason_text reason.Counter = codes "an integer from 0 to 4294967295 is wanted"

-- the name of the member at this index of an object
abbrev pub name_at : ℕ → Json → Option (List ℕ)
name_at n (json.object ms) = option_map (λ m. m.0) (slice_get (members_in ms) n)
name_at n _ = None

-- the element, or the member's value, at this index
abbrev pub value_at : ℕ → Json → Option Json
value_at n (json.array js) = slice_get (items_in js) n
value_at n (json.object ms) = option_map (λ m. m.1) (slice_get (members_in ms) n)
value_at n _ = None

-- steps before, and a name after a point, unless there is none before
abbrev pub with_name : List ℕ → List ℕ → List ℕ
with_name [] name = name
with_name (c ∷ cs) name = (c ∷ cs) ++ codes "." ++ name

-- steps before, and the one to the member of this name, or to what is at this index
abbrev pub with_step : List ℕ → Option (List ℕ) → ℕ → List ℕ
with_step before (Some name) n = with_name before name
with_step before None n = before ++ codes "[" ++ decimal n ++ codes "]"

-- steps before, and these, by their indices in the JSON value that is there
abbrev pub with_steps : List ℕ → Option Json → List ℕ → List ℕ
with_steps before here [] = before
with_steps before here (n ∷ ns) =
    with_steps (with_step before (option_and_then (name_at n) here) n) (option_and_then (value_at n) here) ns

-- a path, if there is one, before what is said
abbrev pub said_of : List ℕ → List ℕ → List ℕ
said_of [] text = text
said_of (c ∷ cs) text = (c ∷ cs) ++ codes ": " ++ text

abbrev pub no_item_text : Json → NoItem → List ℕ
no_item_text j e = said_of (with_steps [] (Some j) e.path) (reason_text e.reason)
