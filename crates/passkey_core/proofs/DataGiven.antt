-- `read_data` returns exactly what bytes are read as.
use Rattle.std.specs.Result.{result_map_both}
use Rattle.std.specs.Int.{w16, from_be_bytes}
use Rattle.std.specs.Int.RustNames.{bit_and}
use Rattle.std.proofs.Common.{◌≡◌, ◌∙◌, inl, inr, ℕ, ◌==◌, nat_lt, List, length, take, drop, Bool, true, false, if◌then◌else◌, Option, Some, None, Result, Ok, Err, refl, sym, ap, subst}
use Rattle.passkey_cbor.specs.Bytes.{IsBytes}
use Rattle.passkey_cbor.specs.LeadingItem.{HasNoLeadingItem}
use Rattle.passkey_cbor.specs.LeadingItemAt.{leading_item_at, IsLeadingItemOf}
use Rattle.passkey_cbor.specs.Item.{Item}
use Rattle.passkey_cbor.specs.Laws.{LeadingItemIsFound, FoundIsLeadingItem}
use Rattle.passkey_cbor.proofs.heads.Numbers.{IsBytes-drop}
use Rattle.passkey_cose.specs.KeyReading.{read_key}
use Rattle.passkey_cose.specs.declared.error.CoseError.{CoseError}
use Rattle.passkey_cose.specs.declared.error.CoseError.TheVariants.{DecodeFailed, OutOfRangeIntegerValue}
use Rattle.passkey_core.specs.DataFlags.{has_flag, attested_flag, extensions_flag}
use Rattle.passkey_core.specs.DataLaws.{ReadIsGiven, GivenIsRead}
use Rattle.passkey_core.specs.DataParts.{DataParts}
use Rattle.passkey_core.specs.DataRead.{judged_front, item_at, attested_at, where_at, read_data}
use Rattle.passkey_core.specs.DataReading.{Begun, ◌>>=◌, bytes_at, known_only, fixed_at, ids_at, read_map, ReadsItem, After, ReadsThen, ReadsAttested, ReadsWhere}
use Rattle.passkey_core.specs.Flags.{reserved_flags}
use Rattle.passkey_core.proofs.DataReadings.{MovesForward, then_went}

-- ---- what is left after a part consists of bytes

abbrev pub LeavesBytes : {X : Type 0} → Begun X → Type 0
LeavesBytes (Ok p) = IsBytes p.1
LeavesBytes (Err e) = Unit {0}

leaves_after : {X Y : Type 0} (begun : Begun X) (next : X × List ℕ → Begun Y) → LeavesBytes begun
    → ((p : X × List ℕ) → IsBytes p.1 → LeavesBytes (next p)) → LeavesBytes (begun >>= next)
leaves_after (Ok p) next fits each = each p fits
leaves_after (Err e) next fits each = tt

bytes_leave : (n : ℕ) (bytes : List ℕ) → IsBytes bytes → LeavesBytes (bytes_at n bytes)
bytes_leave n bytes fits =
    elim (nat_lt (length bytes) n) as (λ (b : Bool). LeavesBytes
    (if b then Err DecodeFailed else Ok (let p : List ℕ × List ℕ = (take n bytes, drop n bytes) in p))) [
      | true ↦ tt
      | false ↦ IsBytes-drop n bytes fits
    ]

known_leaves : (d : DataParts) (rest : List ℕ) → IsBytes rest → LeavesBytes (known_only d rest)
known_leaves d rest fits =
    elim (bit_and d.flags reserved_flags == 0) as (λ (b : Bool). LeavesBytes
    (if b then Ok (let p : DataParts × List ℕ = (d, rest) in p) else Err OutOfRangeIntegerValue)) [
      | true ↦ fits
      | false ↦ tt
    ]

pub fixed_leave : (bytes : List ℕ) → IsBytes bytes → LeavesBytes (fixed_at bytes)
unfolding fixed_at
fixed_leave bytes fits =
    leaves_after (bytes_at 32 bytes) _ (bytes_leave 32 bytes fits) (λ hash hash_fits.
    leaves_after (bytes_at 1 hash.1) _ (bytes_leave 1 hash.1 hash_fits) (λ flags flags_fit.
    leaves_after (bytes_at 4 flags.1) _ (bytes_leave 4 flags.1 flags_fit)
    (λ counter counter_fits. known_leaves _ counter.1 counter_fits)))

ids_leave : (bytes : List ℕ) → IsBytes bytes → LeavesBytes (ids_at bytes)
unfolding ids_at
ids_leave bytes fits =
    leaves_after (bytes_at 16 bytes) _ (bytes_leave 16 bytes fits) (λ aaguid aaguid_fits.
    leaves_after (bytes_at 2 aaguid.1) _ (bytes_leave 2 aaguid.1 aaguid_fits) (λ len len_fits.
    leaves_after (bytes_at (from_be_bytes w16 len.0) len.1) _
    (bytes_leave (from_be_bytes w16 len.0) len.1 len_fits) (λ id id_fits. id_fits)))

-- ---- what `read_data` returns is the reading

-- a correct result, whose rest consists of bytes
record Reads {X : Type 0} (is_right : Begun X → Type 0) (begun : Begun X) : Type 0 where
  right : is_right begun
  leaves : LeavesBytes begun

following_right : {X Y : Type 0} (next : X → List ℕ → Result Y CoseError → Type 0) (begun : Begun X)
    (go_on : X × List ℕ → Result Y CoseError) → LeavesBytes begun
    → ((p : X × List ℕ) → IsBytes p.1 → next p.0 p.1 (go_on p)) → After next begun (begun >>= go_on)
following_right next (Ok p) go_on fits each = each p fits
following_right next (Err e) go_on fits each = refl

then_right : {X Y : Type 0} (first : Begun X → Type 0) (next : X → List ℕ → Result Y CoseError → Type 0)
    (begun : Begun X) (go_on : X × List ℕ → Result Y CoseError) → Reads first begun
    → ((p : X × List ℕ) → IsBytes p.1 → next p.0 p.1 (go_on p)) → ReadsThen first next (begun >>= go_on)
then_right first next begun go_on r each =
    record { begun = begun; begins = r.right; goes_on = following_right next begun go_on r.leaves each }

judged_leaves : {X : Type 0} (rest : List ℕ) → IsBytes rest → (r : Result X CoseError)
    → LeavesBytes (result_map_both (λ (x : X). (let p : X × List ℕ = (x, rest) in p)) (λ e. e) r)
judged_leaves rest fits (Ok x) = fits
judged_leaves rest fits (Err e) = tt

front_reads : {X : Type 0} (read : Item → Result X CoseError) (bytes : List ℕ) → IsBytes bytes
    → (o : Option (Item × List ℕ)) → IsLeadingItemOf bytes o → Reads (ReadsItem read bytes) (judged_front read o)
front_reads {X} read bytes fits (Some r) f = record {
  right = inl (record {
    item = r.0;
    len = f.len;
    front = f.front;
    verdict = ap (λ (rest : List ℕ). result_map_both
        (λ (x : X). (let p : X × List ℕ = (x, rest) in p)) (λ (e : CoseError). e) (read r.0)) f.following;
  });
  leaves = judged_leaves r.1 (subst IsBytes (sym f.following) (IsBytes-drop f.len bytes fits)) (read r.0);
}
front_reads read bytes fits None f = record { right = inr (f, refl); leaves = tt }

item_reads : {X : Type 0} → FoundIsLeadingItem → (read : Item → Result X CoseError) (bytes : List ℕ) → IsBytes bytes
    → Reads (ReadsItem read bytes) (item_at read bytes)
item_reads law read bytes fits = front_reads read bytes fits (leading_item_at bytes) (law bytes fits)

attested_reads : FoundIsLeadingItem → (bytes : List ℕ) → IsBytes bytes
    → Reads (ReadsAttested bytes) (attested_at bytes)
unfolding attested_at
attested_reads law bytes fits = record {
  right = then_right (λ ids. ids ≡ ids_at bytes) _ (ids_at bytes) _
      (record { right = refl; leaves = ids_leave bytes fits }) (λ ids ids_fit.
      then_right (ReadsItem read_key ids.1) _ (item_at read_key ids.1) _ (item_reads law read_key ids.1 ids_fit)
      (λ key key_fits. refl));
  leaves = leaves_after (ids_at bytes) _ (ids_leave bytes fits) (λ ids ids_fit.
      leaves_after (item_at read_key ids.1) _ (item_reads law read_key ids.1 ids_fit).leaves
      (λ key key_fits. key_fits));
}

where_reads : {X : Type 0} (is_there : Bool) (part : List ℕ → Begun X → Type 0) (part_at : List ℕ → Begun X)
    (bytes : List ℕ) → IsBytes bytes → Reads (part bytes) (part_at bytes)
    → Reads (ReadsWhere is_there part bytes) (where_at is_there part_at bytes)
where_reads true part part_at bytes fits r = record {
  right = then_right (part bytes) _ (part_at bytes) _ r (λ p p_fits. refl);
  leaves = leaves_after (part_at bytes) _ r.leaves (λ p p_fits. p_fits);
}
where_reads false part part_at bytes fits r = record { right = refl; leaves = fits }

pub given_is_read : FoundIsLeadingItem → GivenIsRead
unfolding read_data
given_is_read law bytes fits =
    then_right (λ fixed. fixed ≡ fixed_at bytes) _ (fixed_at bytes) _
    (record { right = refl; leaves = fixed_leave bytes fits }) (λ fixed fixed_fits.
    then_right (ReadsWhere (has_flag attested_flag fixed.0.flags) ReadsAttested fixed.1) _
    (where_at (has_flag attested_flag fixed.0.flags) attested_at fixed.1) _
    (where_reads (has_flag attested_flag fixed.0.flags) ReadsAttested attested_at fixed.1 fixed_fits
    (attested_reads law fixed.1 fixed_fits)) (λ attested attested_fit.
    then_right (ReadsWhere (has_flag extensions_flag fixed.0.flags) (ReadsItem read_map) attested.1) _
    (where_at (has_flag extensions_flag fixed.0.flags) (item_at read_map) attested.1) _
    (where_reads (has_flag extensions_flag fixed.0.flags) (ReadsItem read_map) (item_at read_map) attested.1
    attested_fit (item_reads law read_map attested.1 attested_fit)) (λ extensions extensions_fit. refl)))

-- ---- the reading is what `read_data` returns

-- if anything is read, this is it
abbrev Gives : {X : Type 0} → (Begun X → Type 0) → Begun X → Type 0
Gives {X} is_right begun = (p : X × List ℕ) → is_right (Ok p) → begun ≡ Ok p

then_given : {X Y : Type 0} (first : Begun X → Type 0) (next : X → List ℕ → Result Y CoseError → Type 0)
    (begun : Begun X) (go_on : X × List ℕ → Result Y CoseError) (y : Y) → Gives first begun → ((p : X × List ℕ)
    → next p.0 p.1 (Ok y) → go_on p ≡ Ok y) → ReadsThen first next (Ok y) → (begun >>= go_on) ≡ Ok y
then_given {X} first next begun go_on y given each h =
    let w : MovesForward first next y = then_went first next y h in
    ap (λ (b : Begun X). b >>= go_on) (given (w.part, w.rest) w.begins) ∙ each (w.part, w.rest) w.goes_on

item_given : {X : Type 0} → LeadingItemIsFound → (read : Item → Result X CoseError) (bytes : List ℕ)
    → Gives (ReadsItem read bytes) (item_at read bytes)
item_given law read bytes p (inl r) = ap (judged_front read) (law bytes r.item r.len r.front) ∙ sym r.verdict
item_given law read bytes p (inr r) = cc

attested_given : LeadingItemIsFound → (bytes : List ℕ) → Gives (ReadsAttested bytes) (attested_at bytes)
unfolding attested_at
attested_given law bytes a h =
    then_given (λ ids. ids ≡ ids_at bytes) _ (ids_at bytes) _ a (λ ids e. sym e) (λ ids.
    then_given (ReadsItem read_key ids.1) _ (item_at read_key ids.1) _ a (item_given law read_key ids.1)
    (λ key e. sym e)) h

where_given :
    {X : Type 0} (is_there : Bool) (part : List ℕ → Begun X → Type 0) (part_at : List ℕ → Begun X) (bytes : List ℕ)
    → Gives (part bytes) (part_at bytes) → Gives (ReadsWhere is_there part bytes) (where_at is_there part_at bytes)
where_given true part part_at bytes given o h = then_given (part bytes) _ (part_at bytes) _ o given (λ p e. sym e) h
where_given false part part_at bytes given o h = sym h

pub attested_where_given : LeadingItemIsFound → (is_there : Bool) (bytes : List ℕ)
    → Gives (ReadsWhere is_there ReadsAttested bytes) (where_at is_there attested_at bytes)
attested_where_given law is_there bytes =
    where_given is_there ReadsAttested attested_at bytes (attested_given law bytes)

-- ---- whatever the reading is, faults too, it is what the function gives

pub none_given : FoundIsLeadingItem → (bytes : List ℕ) → IsBytes bytes → HasNoLeadingItem bytes
    → leading_item_at bytes ≡ None
none_given law bytes fits none = by_case (leading_item_at bytes) (law bytes fits) where
  by_case : (o : Option (Item × List ℕ)) → IsLeadingItemOf bytes o → o ≡ None
  by_case None f = refl
  by_case (Some r) f = absurd (none r.0 f.len f.front)

abbrev pub GivesAll : {Y : Type 0} → (Result Y CoseError → Type 0) → Result Y CoseError → Type 0
GivesAll {Y} is_right given = (r : Result Y CoseError) → is_right r → given ≡ r

then_gives : {X Y : Type 0} (first : Begun X → Type 0) (next : X → List ℕ → Result Y CoseError → Type 0)
    (begun : Begun X) (go_on : X × List ℕ → Result Y CoseError) → LeavesBytes begun → GivesAll first begun
    → ((p : X × List ℕ) → IsBytes p.1 → GivesAll (next p.0 p.1) (go_on p))
    → GivesAll (ReadsThen first next) (begun >>= go_on)
then_gives {X} first next begun go_on leaves gives each y h = by_begun h.begun (gives h.begun h.begins) h.goes_on where
  by_begun : (b : Begun X) → begun ≡ b → After next b y → (begun >>= go_on) ≡ y
  by_begun (Ok p) is on = ap (λ (b : Begun X). b >>= go_on) is ∙ each p (subst LeavesBytes is leaves) y on
  by_begun (Err e) is on = ap (λ (b : Begun X). b >>= go_on) is ∙ sym on

item_gives : {X : Type 0} → LeadingItemIsFound → FoundIsLeadingItem → (read : Item → Result X CoseError)
    (bytes : List ℕ) → IsBytes bytes → GivesAll (ReadsItem read bytes) (item_at read bytes)
item_gives law found read bytes fits r (inl q) =
    ap (judged_front read) (law bytes q.item q.len q.front) ∙ sym q.verdict
item_gives law found read bytes fits r (inr q) =
    ap (judged_front read) (none_given found bytes fits q.0) ∙ sym q.1

attested_gives : LeadingItemIsFound → FoundIsLeadingItem → (bytes : List ℕ) → IsBytes bytes
    → GivesAll (ReadsAttested bytes) (attested_at bytes)
unfolding attested_at
attested_gives law found bytes fits =
    then_gives (λ ids. ids ≡ ids_at bytes) _ (ids_at bytes) _ (ids_leave bytes fits) (λ r e. sym e) (λ ids ids_fit.
    then_gives (ReadsItem read_key ids.1) _ (item_at read_key ids.1) _ (item_reads found read_key ids.1 ids_fit).leaves
    (item_gives law found read_key ids.1 ids_fit) (λ key key_fits y e. sym e))

where_gives : {X : Type 0} (is_there : Bool) (part : List ℕ → Begun X → Type 0) (part_at : List ℕ → Begun X)
    (bytes : List ℕ) → LeavesBytes (part_at bytes) → GivesAll (part bytes) (part_at bytes)
    → GivesAll (ReadsWhere is_there part bytes) (where_at is_there part_at bytes)
where_gives true part part_at bytes leaves gives = then_gives (part bytes) _ (part_at bytes) _ leaves gives
    (λ p p_fits y e. sym e)
where_gives false part part_at bytes leaves gives = λ r e. sym e

pub attested_where_gives : LeadingItemIsFound → FoundIsLeadingItem → (is_there : Bool) (bytes : List ℕ)
    → IsBytes bytes → GivesAll (ReadsWhere is_there ReadsAttested bytes) (where_at is_there attested_at bytes)
attested_where_gives law found is_there bytes fits = where_gives is_there ReadsAttested attested_at bytes
    (attested_reads found bytes fits).leaves (attested_gives law found bytes fits)

pub read_is_given : LeadingItemIsFound → ReadIsGiven
unfolding read_data
read_is_given law bytes d h =
    then_given (λ fixed. fixed ≡ fixed_at bytes) _ (fixed_at bytes) _ d (λ fixed e. sym e) (λ fixed.
    then_given (ReadsWhere (has_flag attested_flag fixed.0.flags) ReadsAttested fixed.1) _
    (where_at (has_flag attested_flag fixed.0.flags) attested_at fixed.1) _ d (where_given (has_flag
    attested_flag fixed.0.flags) ReadsAttested attested_at fixed.1 (attested_given law fixed.1)) (λ attested.
    then_given (ReadsWhere (has_flag extensions_flag fixed.0.flags) (ReadsItem read_map) attested.1) _
    (where_at (has_flag extensions_flag fixed.0.flags) (item_at read_map) attested.1) _ d
    (where_given (has_flag extensions_flag fixed.0.flags) (ReadsItem read_map) (item_at read_map) attested.1
    (item_given law read_map attested.1)) (λ extensions e. sym e))) h
