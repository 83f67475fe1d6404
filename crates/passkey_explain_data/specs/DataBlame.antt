-- What of authenticator data is refused (WebAuthn Level 3, sections 6.1 and 6.5.1). `whole` are all of the bytes, and
-- `rest` those from a part on.
use Rattle.std.specs.Prelude.{◌≡◌, ◌⊎◌, ◌<◌, ◌+◌, ◌-◌, ℕ, ◌==◌, nat_lt, List, length, take, drop, slice_index, Bool, true, false, if◌then◌else◌, Option, Some, None, Result, Ok, Err}
use Rattle.std.specs.Int.{w16, from_be_bytes}
use Rattle.std.specs.Int.RustNames.{bit_and}
use Rattle.passkey_cbor.specs.Item.{Item}
use Rattle.passkey_cbor.specs.LeadingItem.{IsLeadingItem}
use Rattle.passkey_core.specs.Coherent.{is_map}
use Rattle.passkey_core.specs.DataFlags.{attested_flag, extensions_flag, has_flag}
use Rattle.passkey_core.specs.DataParts.{AttestedParts, DataParts}
use Rattle.passkey_core.specs.DataReading.{Begun, fixed_at, ids_at, read_map, ReadsItem, ReadsAttested, ReadsWhere, ReadsDataExactly}
use Rattle.passkey_core.specs.Flags.{reserved_flags}
use Rattle.passkey_cose.specs.declared.error.CoseError.TheVariants.{DecodeFailed, OutOfRangeIntegerValue, UnexpectedItem}
use Rattle.passkey_explain.specs.Along.{LiesAlong}
use Rattle.passkey_explain.specs.declared.along.Extent.{Extent}
use Rattle.passkey_malformed.specs.Stops.{IsMalformed}
use Rattle.passkey_malformed.specs.declared.why.Malformed.{Malformed}
use Rattle.passkey_explain_data.specs.KeyBlame.{key_blame, key_path}
use Rattle.passkey_explain_data.specs.declared.key.KeyRefusal.{KeyRefusal}
use Rattle.passkey_explain_data.specs.declared.part.DataPart.{DataPart}
use Rattle.passkey_explain_data.specs.declared.part.DataPart.TheVariants as part
use Rattle.passkey_explain_data.specs.declared.part.DataReason.TheVariants as reason
use Rattle.passkey_explain_data.specs.declared.part.DataRefusal.{DataRefusal}
use Rattle.passkey_explain_data.specs.declared.passing.Stop.{Stop}
use Rattle.passkey_explain_data.specs.declared.passing.Stop.TheVariants as stop

-- ---- refusals

abbrev pub offset_in : List ℕ → List ℕ → ℕ
offset_in whole rest = length whole - length rest

-- from the part's beginning on
abbrev pub extent_in : List ℕ → List ℕ → ℕ → Extent
extent_in whole rest len = record { offset = offset_in whole rest; len = len }

abbrev pub cut_off : List ℕ → DataPart → List ℕ → DataRefusal
cut_off whole p rest =
    record { fault = DecodeFailed; part = p; extent = extent_in whole rest (length rest); reason = reason.CutOff }

-- the byte after the relying party id's hash
abbrev pub reserved : DataRefusal
reserved = record {
  fault = OutOfRangeIntegerValue;
  part = part.Flags;
  extent = record { offset = 32; len = 1 };
  reason = reason.ReservedFlags;
}

-- offsets count from the beginning of the authenticator data
abbrev pub malformed_in : List ℕ → List ℕ → Malformed → Malformed
malformed_in whole rest m = record { offset = offset_in whole rest + m.offset; why = m.why }

abbrev pub not_well_formed : List ℕ → DataPart → List ℕ → Malformed → DataRefusal
not_well_formed whole p rest m = record {
  fault = DecodeFailed;
  part = p;
  extent = extent_in whole rest (length rest);
  reason = reason.NotWellFormed (malformed_in whole rest m);
}

abbrev pub key_refused : List ℕ → List ℕ → ℕ → KeyRefusal → Extent → DataRefusal
key_refused whole rest len k e = record {
  fault = k.fault;
  part = part.CredentialPublicKey;
  extent = extent_in whole rest len;
  reason = reason.Key k (record { offset = offset_in whole rest + e.offset; len = e.len });
}

abbrev pub not_a_map : List ℕ → List ℕ → ℕ → DataRefusal
not_a_map whole rest len = record {
  fault = UnexpectedItem;
  part = part.Extensions;
  extent = extent_in whole rest len;
  reason = reason.NotAMap;
}

abbrev pub bytes_follow : List ℕ → List ℕ → DataRefusal
bytes_follow whole rest = record {
  fault = DecodeFailed;
  part = part.Trailing;
  extent = extent_in whole rest (length rest);
  reason = reason.BytesFollow;
}

-- ---- parts of known length

infixl 10 ◌>>=◌
abbrev pub ◌>>=◌ : {X Y : Type 0} → Result X DataRefusal → (X → Result Y DataRefusal) → Result Y DataRefusal
Ok x >>= next = next x
Err r >>= next = Err r

-- the part, of n bytes, and the bytes after it
abbrev pub part_at : List ℕ → DataPart → ℕ → List ℕ → Result (List ℕ × List ℕ) DataRefusal
part_at whole p n rest = if nat_lt (length rest) n then Err (cut_off whole p rest) else Ok (take n rest, drop n rest)

abbrev pub known_flags : ℕ → List ℕ → Result (ℕ × List ℕ) DataRefusal
known_flags flags rest = if bit_and flags reserved_flags == 0 then Ok (flags, rest) else Err reserved

-- the flags and the bytes after the signature counter, as `fixed_at` reads them, or what is refused
unfoldable pub fixed_in : List ℕ → Result (ℕ × List ℕ) DataRefusal
fixed_in bytes = do
  hash ← part_at bytes part.RpIdHash 32 bytes
  flags ← part_at bytes part.Flags 1 hash.1
  counter ← part_at bytes part.SignCount 4 flags.1
  known_flags (slice_index flags.0 0) counter.1

-- the bytes after the credential id, as `ids_at` reads it, or what is refused
unfoldable pub ids_in : List ℕ → List ℕ → Result (List ℕ) DataRefusal
ids_in whole rest = do
  aaguid ← part_at whole part.Aaguid 16 rest
  len ← part_at whole part.CredentialIdLength 2 aaguid.1
  id ← part_at whole part.CredentialId (from_be_bytes w16 len.0) len.1
  Ok id.1

-- ---- data items

-- no well-formed data item is there
pub record IsNoItem (whole : List ℕ) (p : DataPart) (rest : List ℕ) (r : DataRefusal) : Type 0 where
  pub «malformed» : Malformed
  pub stops : IsMalformed rest «malformed»
  pub is : r ≡ not_well_formed whole p rest «malformed»

-- a data item is there, which is no key; where in it what is to blame is
pub record IsNoKey (whole rest : List ℕ) (r : DataRefusal) : Type 0 where
  pub item : Item
  pub len : ℕ
  pub leads : IsLeadingItem rest item len
  pub refusal : KeyRefusal
  pub blamed : key_blame item ≡ Some refusal
  pub extent : Extent
  pub lies : LiesAlong (key_path refusal.blame) item rest 0 extent.offset (extent.offset + extent.len)
  pub is : r ≡ key_refused whole rest len refusal extent

-- a data item is there, which is no map
pub record IsNoMap (whole rest : List ℕ) (r : DataRefusal) : Type 0 where
  pub item : Item
  pub len : ℕ
  pub leads : IsLeadingItem rest item len
  pub other : is_map item ≡ false
  pub is : r ≡ not_a_map whole rest len

abbrev pub BlamesKey : List ℕ → List ℕ → DataRefusal → Type 0
BlamesKey whole rest r = IsNoItem whole part.CredentialPublicKey rest r ⊎ IsNoKey whole rest r

abbrev pub BlamesExtensions : List ℕ → List ℕ → DataRefusal → Type 0
BlamesExtensions whole rest r = IsNoItem whole part.Extensions rest r ⊎ IsNoMap whole rest r

-- ---- the whole

-- The first part is refused; or it isn't, and what follows is.
abbrev pub BlamesThen : {X : Type 0} → (Begun X → Type 0) → (DataRefusal → Type 0)
    → (X → List ℕ → DataRefusal → Type 0) → DataRefusal → Type 0
BlamesThen {X} first blames next r =
    blames r ⊎ ((x : X) × (rest : List ℕ) × (first (Ok (x, rest)) × next x rest r))

-- a part is refused only if its flag is set
abbrev pub BlamesWhere : Bool → (DataRefusal → Type 0) → DataRefusal → Type 0
BlamesWhere true blames r = blames r
BlamesWhere false blames r = ⊥

abbrev pub BlamesAttested : List ℕ → List ℕ → DataRefusal → Type 0
BlamesAttested whole rest =
    BlamesThen (λ ids. ids ≡ ids_at rest) (λ r. ids_in whole rest ≡ Err r) (λ (ids : List ℕ × List ℕ) after.
    BlamesKey whole after)

abbrev pub BlamesTrailing : List ℕ → List ℕ → DataRefusal → Type 0
BlamesTrailing whole last r = (0 < length last) × (r ≡ bytes_follow whole last)

-- what of the data is refused, by the grammar by which they are read
abbrev pub BlamesData : List ℕ → DataRefusal → Type 0
BlamesData bytes =
    BlamesThen (λ fixed. fixed ≡ fixed_at bytes) (λ r. fixed_in bytes ≡ Err r) (λ (fixed : DataParts) rest.
    BlamesThen (ReadsWhere (has_flag attested_flag fixed.flags) ReadsAttested rest)
    (BlamesWhere (has_flag attested_flag fixed.flags) (BlamesAttested bytes rest))
    (λ (attested : Option AttestedParts) following.
    BlamesThen (ReadsWhere (has_flag extensions_flag fixed.flags) (ReadsItem read_map) following)
    (BlamesWhere (has_flag extensions_flag fixed.flags) (BlamesExtensions bytes following))
    (λ (extensions : Option Item) last. BlamesTrailing bytes last)))

-- Nothing is refused, and the bytes are data; or this is, and the error is that of the reading.
abbrev pub ExplainsData : List ℕ → Option DataRefusal → Type 0
ExplainsData bytes None = (d : DataParts) × ReadsDataExactly bytes (Ok d)
ExplainsData bytes (Some r) = ReadsDataExactly bytes (Err r.fault) × BlamesData bytes r

-- ---- going through the parts

-- The fact holds of what is refused; or memory ran out.
abbrev pub StopsAt : (DataRefusal → Type 0) → Stop → Type 0
StopsAt blames stop.OutOfMemory = Unit {0}
StopsAt blames (stop.Refused r) = blames r

-- The fact holds of what was passed, or the other one of what is refused; or memory ran out.
abbrev pub Passes : {A : Type 0} → (A → Type 0) → (DataRefusal → Type 0) → Result A Stop → Type 0
Passes passed blames (Ok x) = passed x
Passes passed blames (Err s) = StopsAt blames s

-- The part is read, up to these bytes.
abbrev pub ReadsTo : {X : Type 0} → (Begun X → Type 0) → List ℕ → Type 0
ReadsTo {X} reads after = (x : X) × reads (Ok (x, after))
