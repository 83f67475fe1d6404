-- What of authenticator data is refused has the error with which they aren't read.
use Rattle.std.specs.Int.{w16, w32, from_be_bytes}
use Rattle.std.specs.Int.RustNames.{bit_and}
use Rattle.std.specs.Result.{result_map_both}
use Rattle.std.proofs.Common.{◌≡◌, ◌∙◌, ◌==◌, ℕ, List, [], ◌∷◌, length, take, drop, nat_lt, slice_index, Bool, true, false, if◌then◌else◌, Option, Some, Result, Ok, Err, inl, inr, arith, refl, sym, ap, subst}
use Rattle.passkey_cbor.specs.Item.{Item, number, byte_string, text_string, array, map, tagged, boolean, null, simple, float}
use Rattle.passkey_cbor.specs.LeadingItem.{IsLeadingItem}
use Rattle.passkey_core.specs.Coherent.{is_map}
use Rattle.passkey_core.specs.DataFlags.{attested_flag, extensions_flag, has_flag}
use Rattle.passkey_core.specs.DataParts.{AttestedParts, DataParts, bare_data}
use Rattle.passkey_core.specs.DataReading.{Begun, ◌>>=◌ as ◌>>>◌, bytes_at, known_only, fixed_at, ids_at, read_map, ReadsItem, ReadsThen, ReadsAttested, ReadsWhere, ReadsDataExactly, whole_only}
use Rattle.passkey_core.specs.Flags.{reserved_flags}
use Rattle.passkey_cose.specs.KeyReading.{read_key}
use Rattle.passkey_cose.specs.declared.error.CoseError.{CoseError}
use Rattle.passkey_cose.specs.declared.error.CoseError.TheVariants.{DecodeFailed, OutOfRangeIntegerValue, UnexpectedItem}
use Rattle.passkey_explain_data.specs.DataBlame.{cut_off, reserved, part_at, known_flags, fixed_in, ids_in, IsNoItem, BlamesKey, BlamesExtensions, BlamesThen, BlamesWhere, BlamesAttested, BlamesTrailing, BlamesData, ◌>>=◌}
use Rattle.passkey_explain_data.specs.KeyBlame.{key_blame, IsVerdict}
use Rattle.passkey_explain_data.specs.declared.part.DataPart.{DataPart}
use Rattle.passkey_explain_data.specs.declared.part.DataPart.TheVariants as part
use Rattle.passkey_explain_data.specs.declared.part.DataRefusal.{DataRefusal}
use Rattle.passkey_explain_data.proofs.KeyVerdict.{key_verdict}

-- ---- parts of known length

-- what is refused has the error, and what is passed is what is read, as far as the view sees it
abbrev AreAlike : {X Y : Type 0} → (X → Y) → Result X CoseError → Result Y DataRefusal → Type 0
AreAlike seen read passed =
    result_map_both seen (λ e. e) read ≡ result_map_both (λ y. y) (λ (r : DataRefusal). r.fault) passed

part_alike : {X Y : Type 0} (seen : X → Y) (whole : List ℕ) (p : DataPart) (n : ℕ) (rest : List ℕ)
    (read : List ℕ × List ℕ → Result X CoseError) (passed : List ℕ × List ℕ → Result Y DataRefusal)
    → ((q : List ℕ × List ℕ) → AreAlike seen (read q) (passed q))
    → AreAlike seen (bytes_at n rest >>> read) (part_at whole p n rest >>= passed)
part_alike seen whole p n rest read passed next =
    elim (nat_lt (length rest) n) as (λ (b : Bool). AreAlike seen
    ((if b then Err DecodeFailed else Ok (take n rest, drop n rest)) >>> read)
    ((if b then Err (cut_off whole p rest) else Ok (take n rest, drop n rest)) >>= passed)) [
      | true ↦ refl
      | false ↦ next (take n rest, drop n rest)
    ]

abbrev flags_seen : DataParts × List ℕ → ℕ × List ℕ
flags_seen p = (p.0.flags, p.1)

known_alike : (d : DataParts) (rest : List ℕ) → AreAlike flags_seen (known_only d rest) (known_flags d.flags rest)
known_alike d rest =
    elim (bit_and d.flags reserved_flags == 0) as (λ (b : Bool). AreAlike flags_seen
    (if b then Ok (let p : DataParts × List ℕ = (d, rest) in p) else Err OutOfRangeIntegerValue)
    (if b then Ok (let p : ℕ × List ℕ = (d.flags, rest) in p) else Err reserved)) [
      | true ↦ refl
      | false ↦ refl
    ]

pub fixed_alike : (bytes : List ℕ) → AreAlike flags_seen (fixed_at bytes) (fixed_in bytes)
unfolding fixed_at fixed_in
fixed_alike bytes =
    part_alike flags_seen bytes part.RpIdHash 32 bytes _ _ (λ hash.
    part_alike flags_seen bytes part.Flags 1 hash.1 _ _ (λ flags.
    part_alike flags_seen bytes part.SignCount 4 flags.1 _ _ (λ counter.
    known_alike (bare_data hash.0 (slice_index flags.0 0) (Some (from_be_bytes w32 counter.0))) counter.1)))

abbrev rest_seen : (List ℕ × List ℕ) × List ℕ → List ℕ
rest_seen p = p.1

pub ids_alike : (whole rest : List ℕ) → AreAlike rest_seen (ids_at rest) (ids_in whole rest)
unfolding ids_at ids_in
ids_alike whole rest =
    part_alike rest_seen whole part.Aaguid 16 rest _ _ (λ aaguid.
    part_alike rest_seen whole part.CredentialIdLength 2 aaguid.1 _ _ (λ len.
    part_alike rest_seen whole part.CredentialId (from_be_bytes w16 len.0) len.1 _ _ (λ id. refl)))

-- an error of what is passed is that of what is read
pub alike_err : {X Y : Type 0} (seen : X → Y) (read : Result X CoseError) (r : DataRefusal)
    → result_map_both seen (λ (e : CoseError). e) read ≡ Err r.fault → read ≡ Err r.fault
alike_err seen (Ok x) r e = absurd cc
alike_err seen (Err f) r e = let same : f ≡ r.fault = cc in ap Err same

pub alike_ok : {X Y : Type 0} (seen : X → Y) (read : Result X CoseError) (y : Y)
    → result_map_both seen (λ (e : CoseError). e) read ≡ Ok y → (x : X) × ((read ≡ Ok x) × (seen x ≡ y))
alike_ok seen (Ok x) y e = let same : seen x ≡ y = cc in (x, (refl, same))
alike_ok seen (Err f) y e = absurd cc

pub fixed_refused : (bytes : List ℕ) (r : DataRefusal) → fixed_in bytes ≡ Err r → Err r.fault ≡ fixed_at bytes
fixed_refused bytes r e =
    sym (alike_err flags_seen (fixed_at bytes) r (fixed_alike bytes
    ∙ ap (result_map_both (λ (y : ℕ × List ℕ). y) (λ (r : DataRefusal). r.fault)) e))

pub ids_refused : (whole rest : List ℕ) (r : DataRefusal) → ids_in whole rest ≡ Err r → Err r.fault ≡ ids_at rest
ids_refused whole rest r e =
    sym (alike_err rest_seen (ids_at rest) r (ids_alike whole rest
    ∙ ap (result_map_both (λ (y : List ℕ). y) (λ (r : DataRefusal). r.fault)) e))

pub fixed_passed : (bytes : List ℕ) (p : ℕ × List ℕ) → fixed_in bytes ≡ Ok p
    → (d : DataParts × List ℕ) × ((fixed_at bytes ≡ Ok d) × (flags_seen d ≡ p))
fixed_passed bytes p e =
    alike_ok flags_seen (fixed_at bytes) p (fixed_alike bytes
    ∙ ap (result_map_both (λ (y : ℕ × List ℕ). y) (λ (r : DataRefusal). r.fault)) e)

pub ids_passed : (whole rest after : List ℕ) → ids_in whole rest ≡ Ok after
    → (ids : (List ℕ × List ℕ) × List ℕ) × ((ids_at rest ≡ Ok ids) × (rest_seen ids ≡ after))
ids_passed whole rest after e =
    alike_ok rest_seen (ids_at rest) after (ids_alike whole rest
    ∙ ap (result_map_both (λ (y : List ℕ). y) (λ (r : DataRefusal). r.fault)) e)

-- ---- data items

no_item : {X : Type 0} (read : Item → Result X CoseError) (whole : List ℕ) (p : DataPart) (rest : List ℕ) (r : DataRefusal)
    → IsNoItem whole p rest r → ReadsItem read rest (Err r.fault)
no_item read whole p rest r n =
    let fault : r.fault ≡ DecodeFailed = ap (λ (q : DataRefusal). q.fault) n.is in
    inr (n.stops.none, ap Err fault)

is_no_key : (i : Item) (k : Option _) → IsVerdict (read_key i) k → (r : _) → k ≡ Some r → read_key i ≡ Err r.fault
is_no_key i k v r e = subst (IsVerdict (read_key i)) e v

map_fault : (i : Item) → is_map i ≡ false → read_map i ≡ Err UnexpectedItem
map_fault (map ps) e = absurd cc
map_fault (number z) e = refl
map_fault (byte_string s) e = refl
map_fault (text_string s) e = refl
map_fault (array xs) e = refl
map_fault (tagged n x) e = refl
map_fault (boolean b) e = refl
map_fault null e = refl
map_fault (simple n) e = refl
map_fault (float f) e = refl

-- the data item isn't read, with this error
item_fault : {X : Type 0} (read : Item → Result X CoseError) (rest : List ℕ) (i : Item) (len : ℕ) (e f : CoseError)
    → IsLeadingItem rest i len → read i ≡ Err e → f ≡ e → ReadsItem read rest (Err f)
item_fault {X} read rest i len e f leads is same = inl (record {
  item = i;
  len = len;
  front = leads;
  verdict = ap Err same ∙ sym (ap (result_map_both (λ (x : X). (let p : X × List ℕ = (x, drop len rest) in p)) (λ e. e)) is);
})

pub key_fault : (whole rest : List ℕ) (r : DataRefusal) → BlamesKey whole rest r → ReadsItem read_key rest (Err r.fault)
key_fault whole rest r (inl n) = no_item read_key whole part.CredentialPublicKey rest r n
key_fault whole rest r (inr n) =
    item_fault read_key rest n.item n.len n.refusal.fault r.fault n.leads
    (is_no_key n.item (key_blame n.item) (key_verdict n.item) n.refusal n.blamed)
    (ap (λ (q : DataRefusal). q.fault) n.is)

pub extensions_fault : (whole rest : List ℕ) (r : DataRefusal) → BlamesExtensions whole rest r
    → ReadsItem read_map rest (Err r.fault)
extensions_fault whole rest r (inl n) = no_item read_map whole part.Extensions rest r n
extensions_fault whole rest r (inr n) =
    item_fault read_map rest n.item n.len UnexpectedItem r.fault n.leads (map_fault n.item n.other)
    (ap (λ (q : DataRefusal). q.fault) n.is)

-- ---- the whole

where_fault : {X : Type 0} (flag : Bool) (part : List ℕ → Begun X → Type 0) (rest : List ℕ) (blames : DataRefusal → Type 0)
    (r : DataRefusal) → (blames r → part rest (Err r.fault)) → BlamesWhere flag blames r
    → ReadsWhere flag part rest (Err r.fault)
where_fault true part rest blames r fails b = record { begun = Err r.fault; begins = fails b; goes_on = refl }
where_fault false part rest blames r fails b = absurd b

attested_fault : (whole rest : List ℕ) (r : DataRefusal) → BlamesAttested whole rest r
    → ReadsAttested rest (Err r.fault)
attested_fault whole rest r (inl e) =
    record { begun = Err r.fault; begins = ids_refused whole rest r e; goes_on = refl }
attested_fault whole rest r (inr b) = record {
  begun = Ok (b.0, b.1);
  begins = b.2.0;
  goes_on = record { begun = Err r.fault; begins = key_fault whole b.1 r b.2.1; goes_on = refl };
}

trailing_fault : (d : DataParts) (whole last : List ℕ) (r : DataRefusal) → BlamesTrailing whole last r
    → Err r.fault ≡ whole_only d last
trailing_fault d whole [] r b = absurd (omega (arith, b.0))
trailing_fault d whole (x ∷ xs) r b = ap Err (ap (λ (q : DataRefusal). q.fault) b.1)

-- what follows the parts of fixed length, and the attested credential data
abbrev EndsAs : DataParts → Option AttestedParts → List ℕ → Result DataParts CoseError → Type 0
EndsAs fixed attested following =
    ReadsThen (ReadsWhere (has_flag extensions_flag fixed.flags) (ReadsItem read_map) following)
    (λ extensions last answer. answer ≡ whole_only (record fixed { attested = attested; extensions = extensions }) last)

abbrev BlamesEnd : List ℕ → DataParts → List ℕ → DataRefusal → Type 0
BlamesEnd bytes fixed following =
    BlamesThen (ReadsWhere (has_flag extensions_flag fixed.flags) (ReadsItem read_map) following)
    (BlamesWhere (has_flag extensions_flag fixed.flags) (BlamesExtensions bytes following)) (λ (extensions : Option Item) last.
    BlamesTrailing bytes last)

end_fault : (bytes : List ℕ) (fixed : DataParts) (attested : Option AttestedParts) (following : List ℕ) (r : DataRefusal)
    → BlamesEnd bytes fixed following r → EndsAs fixed attested following (Err r.fault)
end_fault bytes fixed attested following r (inl b) = record {
  begun = Err r.fault;
  begins = where_fault (has_flag extensions_flag fixed.flags) (ReadsItem read_map) following (BlamesExtensions bytes following) r
      (extensions_fault bytes following r) b;
  goes_on = refl;
}
end_fault bytes fixed attested following r (inr b) = record {
  begun = Ok (b.0, b.1);
  begins = b.2.0;
  goes_on = trailing_fault (record fixed { attested = attested; extensions = b.0 }) bytes b.1 r b.2.1;
}

after_fault : (bytes : List ℕ) (fixed : DataParts) (rest : List ℕ) (r : DataRefusal)
    → BlamesThen (ReadsWhere (has_flag attested_flag fixed.flags) ReadsAttested rest)
    (BlamesWhere (has_flag attested_flag fixed.flags) (BlamesAttested bytes rest)) (λ (attested : Option AttestedParts) following.
    BlamesEnd bytes fixed following) r
    → ReadsThen (ReadsWhere (has_flag attested_flag fixed.flags) ReadsAttested rest) (EndsAs fixed) (Err r.fault)
after_fault bytes fixed rest r (inl b) = record {
  begun = Err r.fault;
  begins = where_fault (has_flag attested_flag fixed.flags) ReadsAttested rest (BlamesAttested bytes rest) r
      (attested_fault bytes rest r) b;
  goes_on = refl;
}
after_fault bytes fixed rest r (inr b) = record {
  begun = Ok (b.0, b.1);
  begins = b.2.0;
  goes_on = end_fault bytes fixed b.0 b.1 r b.2.1;
}

pub data_fault : (bytes : List ℕ) (r : DataRefusal) → BlamesData bytes r → ReadsDataExactly bytes (Err r.fault)
data_fault bytes r (inl e) =
    record { begun = Err r.fault; begins = fixed_refused bytes r e; goes_on = refl }
data_fault bytes r (inr b) =
    record { begun = Ok (b.0, b.1); begins = b.2.0; goes_on = after_fault bytes b.0 b.1 r b.2.1 }

-- ---- what is read

pub reads_item : {X : Type 0} (read : Item → Result X CoseError) (rest : List ℕ) (i : Item) (len : ℕ) (x : X)
    → IsLeadingItem rest i len → read i ≡ Ok x → ReadsItem read rest (Ok (x, drop len rest))
reads_item {X} read rest i len x leads is = inl (record {
  item = i;
  len = len;
  front = leads;
  verdict = sym (ap (result_map_both (λ (x : X). (let p : X × List ℕ = (x, drop len rest) in p)) (λ e. e)) is);
})
