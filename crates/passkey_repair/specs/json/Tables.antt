-- The known deviations of each record, in the order in which they are repaired.
use Rattle.std.specs.Prelude.{ℕ, List, [], ◌∷◌, codes}
use Rattle.passkey_repair.specs.json.Edits.{Edit}
use Rattle.passkey_repair.specs.declared.json.deviation.Deviation.{Deviation}
use Rattle.passkey_repair.specs.declared.json.deviation.Deviation.TheVariants.{NullMember, NoName, EmptyArray, WholeFloat, UnknownTransport, NullOutputs, RenamedOutputs, NoAuthenticatorData, NoKeyAlgorithm}

abbrev at : Deviation → List (List ℕ) → List ℕ → Edit
at deviation within member = record { deviation = deviation; within = within; member = member }

abbrev options : List (List ℕ)
options = codes "publicKey" ∷ []

-- a member of the options
abbrev inside : List ℕ → List (List ℕ)
inside name = codes "publicKey" ∷ name ∷ []

-- the argument of `navigator.credentials.create()`
abbrev pub creation_edits : List Edit
creation_edits = at NullMember options (codes "timeout")
    ∷ at WholeFloat options (codes "timeout")
    ∷ at NullMember (inside (codes "authenticatorSelection")) (codes "requireResidentKey")
    ∷ at NoName (inside (codes "user")) (codes "displayName")
    ∷ at NoName (inside (codes "user")) (codes "name")
    ∷ at NoName (inside (codes "rp")) (codes "name")
    ∷ at EmptyArray (inside (codes "user")) (codes "displayName")
    ∷ at EmptyArray (inside (codes "user")) (codes "name")
    ∷ at EmptyArray (inside (codes "rp")) (codes "name")
    ∷ []

-- the argument of `navigator.credentials.get()`
abbrev pub request_edits : List Edit
request_edits = at NullMember options (codes "timeout")
    ∷ at WholeFloat options (codes "timeout")
    ∷ []

abbrev response : List (List ℕ)
response = codes "response" ∷ []

-- a new credential
abbrev pub registration_edits : List Edit
registration_edits = at NullMember response (codes "authenticatorData")
    ∷ at NullMember response (codes "publicKeyAlgorithm")
    ∷ at NoAuthenticatorData response (codes "authenticatorData")
    ∷ at NoKeyAlgorithm response (codes "publicKeyAlgorithm")
    ∷ at WholeFloat response (codes "publicKeyAlgorithm")
    ∷ at UnknownTransport response (codes "transports")
    ∷ at NullOutputs [] (codes "clientExtensionResults")
    ∷ at RenamedOutputs [] (codes "clientExtensionResults")
    ∷ []

-- an assertion
abbrev pub assertion_edits : List Edit
assertion_edits = at NullOutputs [] (codes "clientExtensionResults") ∷ []
