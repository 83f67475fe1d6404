-- Decoding authenticator data (WebAuthn Level 3, sections 6.1 and 6.5.1).
use Rattle.std.specs.Prelude.{◌≡◌, ◌⊎◌, ℕ, ◌==◌, nat_lt, List, [], ◌∷◌, length, take, drop, slice_index, Bool, true, false, if◌then◌else◌, Option, Some, None, Result, Ok, Err}
use Rattle.std.specs.Int.{w16, w32, from_be_bytes}
use Rattle.std.specs.Int.RustNames.{bit_and}
use Rattle.std.specs.Result.{result_map_both, IsOkAnd}
use Rattle.passkey_cbor.specs.LeadingItem.{IsLeadingItem, HasNoLeadingItem}
use Rattle.passkey_cbor.specs.Item.{Item, map}
use Rattle.passkey_cbor.specs.Reads.{HasGrowingLeadingItem}
use Rattle.passkey_cose.specs.KeyParts.{KeyParts}
use Rattle.passkey_cose.specs.KeyReading.{read_key}
use Rattle.passkey_cose.specs.declared.error.CoseError.{CoseError}
use Rattle.passkey_cose.specs.declared.error.CoseError.TheVariants.{DecodeFailed, OutOfRangeIntegerValue, UnexpectedItem}
use Rattle.passkey_core.specs.DataParts.{AttestedParts, DataParts, bare_data}
use Rattle.passkey_core.specs.DataFlags.{attested_flag, extensions_flag, has_flag}
use Rattle.passkey_core.specs.Flags.{reserved_flags}

-- a part at the beginning of the bytes, and the bytes after it; or the error
abbrev pub Begun : Type 0 → Type 0
Begun X = Result (X × List ℕ) CoseError

infixl 10 ◌>>=◌
abbrev pub ◌>>=◌ : {X Y : Type 0} → Result X CoseError → (X → Result Y CoseError) → Result Y CoseError
Ok x >>= next = next x
Err e >>= next = Err e

-- the first n bytes, and the bytes after them
abbrev pub bytes_at : ℕ → List ℕ → Begun (List ℕ)
bytes_at n bytes = if nat_lt (length bytes) n then Err DecodeFailed else Ok (take n bytes, drop n bytes)

-- the data, if the reserved bits 1 and 5 of the flags aren't set
abbrev pub known_only : DataParts → List ℕ → Begun DataParts
known_only d rest = if bit_and d.flags reserved_flags == 0 then Ok (d, rest) else Err OutOfRangeIntegerValue

-- the relying party id's hash of 32 bytes, the flags byte, and the signature counter of 4 bytes, big-endian
unfoldable pub fixed_at : List ℕ → Begun DataParts
fixed_at bytes = do
  hash ← bytes_at 32 bytes
  flags ← bytes_at 1 hash.1
  counter ← bytes_at 4 flags.1
  known_only (bare_data hash.0 (slice_index flags.0 0) (Some (from_be_bytes w32 counter.0))) counter.1

-- the AAGUID of 16 bytes, the credential id's length in 2 bytes, big-endian, and the credential id
unfoldable pub ids_at : List ℕ → Begun (List ℕ × List ℕ)
ids_at bytes = do
  aaguid ← bytes_at 16 bytes
  len ← bytes_at 2 aaguid.1
  id ← bytes_at (from_be_bytes w16 len.0) len.1
  Ok ((aaguid.0, id.0), id.1)

-- the data item if it is a map, and else an error
abbrev pub read_map : Item → Result Item CoseError
read_map (map ps) = Ok (map ps)
read_map _ = Err UnexpectedItem

-- there is a leading data item, which `read` reads
pub record IsReadBy {X : Type 0} (read : Item → Result X CoseError) (bytes : List ℕ) (begun : Begun X) : Type 0
  where
    pub item : Item
    pub len : ℕ
    pub front : IsLeadingItem bytes item len
    pub verdict : begun
        ≡ result_map_both (λ (x : X). (let p : X × List ℕ = (x, drop len bytes) in p)) (λ e. e) (read item)

-- the leading data item, as `read` reads it; or `DecodeFailed` if there is none
abbrev pub ReadsItem : {X : Type 0} → (Item → Result X CoseError) → List ℕ → Begun X → Type 0
ReadsItem read bytes begun = IsReadBy read bytes begun ⊎ (HasNoLeadingItem bytes × (begun ≡ Err DecodeFailed))

-- the result after a first part: that of `next`, or the first part's error
abbrev pub After : {X Y : Type 0} → (X → List ℕ → Result Y CoseError → Type 0) → Begun X → Result Y CoseError
    → Type 0
After next (Ok p) answer = next p.0 p.1 answer
After next (Err e) answer = answer ≡ Err e

pub record ReadsThen {X Y : Type 0} (first : Begun X → Type 0) (next : X → List ℕ → Result Y CoseError → Type 0)
    (answer : Result Y CoseError) : Type 0 where
  pub begun : Begun X
  pub begins : first begun
  pub goes_on : After next begun answer

-- attested credential data at the beginning of the bytes
abbrev pub ReadsAttested : List ℕ → Begun AttestedParts → Type 0
ReadsAttested bytes =
    ReadsThen (λ ids. ids ≡ ids_at bytes) (λ (ids : List ℕ × List ℕ) rest.
    ReadsThen (ReadsItem read_key rest) (λ (key : KeyParts) after begun.
    begun ≡ Ok (record { aaguid = ids.0; credential_id = ids.1; key = key }, after)))

-- a part is present only if its flag is set
abbrev pub ReadsWhere : {X : Type 0} → Bool → (List ℕ → Begun X → Type 0) → List ℕ → Begun (Option X) → Type 0
ReadsWhere true part bytes = ReadsThen (part bytes) (λ x rest begun. begun ≡ Ok (Some x, rest))
ReadsWhere false part bytes = λ begun. begun ≡ Ok (None, bytes)

-- the data, if no bytes follow
abbrev pub whole_only : DataParts → List ℕ → Result DataParts CoseError
whole_only d [] = Ok d
whole_only d (b ∷ bs) = Err DecodeFailed

-- the first error; or what `finish` makes of the data and of the bytes after the last part
abbrev pub ReadsDataThen : {Y : Type 0} → (DataParts → List ℕ → Result Y CoseError) → List ℕ
    → Result Y CoseError → Type 0
ReadsDataThen finish bytes =
    ReadsThen (λ fixed. fixed ≡ fixed_at bytes) (λ fixed rest.
    ReadsThen (ReadsWhere (has_flag attested_flag fixed.flags) ReadsAttested rest) (λ attested following.
    ReadsThen (ReadsWhere (has_flag extensions_flag fixed.flags) (ReadsItem read_map) following)
    (λ extensions last answer.
    answer ≡ finish (record fixed { attested = attested; extensions = extensions }) last)))

-- the data, or the first error; bytes after the last part are ignored
abbrev pub ReadsData : List ℕ → Result DataParts CoseError → Type 0
ReadsData = ReadsDataThen (λ d last. Ok d)

-- the data and the bytes after the last part, or the first error
abbrev pub ReadsDataFront : List ℕ → Begun DataParts → Type 0
ReadsDataFront = ReadsDataThen (λ d last. Ok (d, last))

-- the data, or the first error, the last of which is that bytes follow the last part
abbrev pub ReadsDataExactly : List ℕ → Result DataParts CoseError → Type 0
ReadsDataExactly = ReadsDataThen whole_only

-- attested credential data may run out of memory only if the credential id is complete and the leading data
-- item after it takes memory
abbrev pub AttestedGrows : List ℕ → Type 0
AttestedGrows bytes = IsOkAnd (ids_at bytes) (λ ids. HasGrowingLeadingItem ids.1)

-- extensions may run out of memory only if the part before them has no error and the leading data item after it
-- takes memory
pub record ExtensionsGrow (before : Begun (Option AttestedParts) → Type 0) : Type 0 where
  pub attested : Option AttestedParts
  pub following : List ℕ
  pub begins : before (Ok (attested, following))
  pub grows : HasGrowingLeadingItem following

-- one of the parts whose flags are set may run out of memory
abbrev pub PartsGrow : DataParts → List ℕ → Type 0
PartsGrow fixed rest =
    ((has_flag attested_flag fixed.flags ≡ true) × AttestedGrows rest)
    ⊎ ((has_flag extensions_flag fixed.flags ≡ true)
    × ExtensionsGrow (ReadsWhere (has_flag attested_flag fixed.flags) ReadsAttested rest))

-- decoding authenticator data may run out of memory only if the parts of fixed length have no error, and a
-- later part may
abbrev pub DataGrows : List ℕ → Type 0
DataGrows bytes = IsOkAnd (fixed_at bytes) (λ fixed. PartsGrow fixed.0 fixed.1)
