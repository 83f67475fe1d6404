-- Authenticator data that was read is coherent.
use Rattle.std.specs.Result.{result_map_both}
use Rattle.std.specs.Int.RustNames.{bit_and}
use Rattle.std.proofs.Common.{◌≡◌, ℕ, ◌≤◌, ◌==◌, List, Bool, true, false, ◌&&◌, Option, Some, None, Result, Ok, Err, refl, ap, subst}
use Rattle.std.proofs.lemmas.Bool.{and_from, le-leb}
use Rattle.passkey_cbor.specs.Depth.{depth}
use Rattle.passkey_cbor.specs.LeadingItem.{max_depth}
use Rattle.passkey_cbor.specs.LeadingItemAt.{leading_item_at}
use Rattle.passkey_cbor.specs.Item.{Item, map}
use Rattle.passkey_cbor.specs.Laws.{GivenIsShallow}
use Rattle.passkey_cose.specs.KeyReadable.{is_key_readable}
use Rattle.passkey_cose.specs.KeyLaws.{ReadIsReadable}
use Rattle.passkey_cose.specs.KeyReading.{read_key}
use Rattle.passkey_cose.specs.declared.error.CoseError.{CoseError}
use Rattle.passkey_core.specs.Coherent.{are_extensions_readable, agrees, is_coherent}
use Rattle.passkey_core.specs.DataFlags.{has_flag, attested_flag, extensions_flag}
use Rattle.passkey_core.specs.DataLaws.{GivenIsCoherent}
use Rattle.passkey_core.specs.DataParts.{AttestedParts, DataParts}
use Rattle.passkey_core.specs.DataRead.{judged_front, item_at, attested_at, where_at, read_data}
use Rattle.passkey_core.specs.DataReading.{Begun, ◌>>=◌, fixed_at, ids_at, read_map}
use Rattle.passkey_core.specs.Flags.{reserved_flags}
use Rattle.passkey_core.proofs.DataReadings.{fixed_shape}

-- ---- the parts of a successful reading

ok_is : {X : Type 0} (x y : X) → (let r : Result X CoseError = Ok x in r) ≡ Ok y → x ≡ y
ok_is x y e = cc

-- the result of the first part, and the reading after it
record MovesForward {X Y : Type 0} (begun : Begun X) (next : X × List ℕ → Result Y CoseError) (y : Y) : Type 0 where
  part : X × List ℕ
  begins : begun ≡ Ok part
  goes_on : next part ≡ Ok y

moves : {X Y : Type 0} (begun : Begun X) (next : X × List ℕ → Result Y CoseError) (y : Y) → (begun >>= next) ≡ Ok y
    → MovesForward begun next y
moves (Ok p) next y e = record { part = p; begins = refl; goes_on = e }
moves (Err f) next y e = cc

-- what is found has the property if the last step's result has it
found_has : {X : Type 0} (Holds : X → Type 0) (x : X) (following : List ℕ) (p : X × List ℕ)
    → (let b : Begun X = Ok (x, following) in b) ≡ Ok p → Holds x → Holds p.0
found_has {X} Holds x following p e h = subst (λ (q : X × List ℕ). Holds q.0) (ok_is (x, following) p e) h

-- ---- data items

map_readable : (i x : Item) → read_map i ≡ Ok x → depth i ≤ max_depth → are_extensions_readable x ≡ true
map_readable (map ps) x e shallow =
    let same : map ps ≡ x = cc in
    subst (λ (y : Item). are_extensions_readable y ≡ true) same (le-leb _ _ shallow)
map_readable i x e shallow = cc

judged_ok : {X : Type 0} (rest : List ℕ) (p : X × List ℕ) (r : Result X CoseError)
    → result_map_both (λ (x : X). (let q : X × List ℕ = (x, rest) in q)) (λ e. e) r ≡ Ok p → r ≡ Ok p.0
judged_ok {X} rest p (Ok x) e = ap Ok (found_has (λ (y : X). x ≡ y) x rest p e refl)
judged_ok rest p (Err f) e = cc

-- what `read` makes of data items of at most 256 levels is readable
module _ {X : Type 0} (shallow : GivenIsShallow) (read : Item → Result X CoseError) (is_readable : X → Bool)
    (each : (i : Item) (x : X) → read i ≡ Ok x → depth i ≤ max_depth → is_readable x ≡ true) where
  front_readable : (bytes : List ℕ) (o : Option (Item × List ℕ)) (p : X × List ℕ) → leading_item_at bytes ≡ o
      → judged_front read o ≡ Ok p → is_readable p.0 ≡ true
  front_readable bytes (Some r) p f e = each r.0 p.0 (judged_ok r.1 p (read r.0) e) (shallow bytes r.0 r.1 f)
  front_readable bytes None p f e = cc

  item_readable : (bytes : List ℕ) (p : X × List ℕ) → item_at read bytes ≡ Ok p → is_readable p.0 ≡ true
  item_readable bytes p e = front_readable bytes (leading_item_at bytes) p refl e

-- ---- the parts

attested_readable : GivenIsShallow → ReadIsReadable → (bytes : List ℕ) (p : AttestedParts × List ℕ)
    → attested_at bytes ≡ Ok p → is_key_readable p.0.key ≡ true
unfolding attested_at
attested_readable shallow law bytes p e =
    let ids = moves (ids_at bytes) _ p e in
    let key = moves (item_at read_key ids.part.1) _ p ids.goes_on in
    found_has (λ (a : AttestedParts). is_key_readable a.key ≡ true)
    (record { aaguid = ids.part.0.0; credential_id = ids.part.0.1; key = key.part.0 }) key.part.1 p key.goes_on
    (item_readable shallow read_key is_key_readable law ids.part.1 key.part key.begins)

where_agrees : {X : Type 0} (is_readable : X → Bool) (part_at : List ℕ → Begun X) (bytes : List ℕ)
    → ((p : X × List ℕ) → part_at bytes ≡ Ok p → is_readable p.0 ≡ true) → (flagged : Bool) (p : Option X × List ℕ)
    → where_at flagged part_at bytes ≡ Ok p → agrees is_readable flagged p.0 ≡ true
where_agrees {X} is_readable part_at bytes each true p e =
    let w = moves (part_at bytes) (λ q. Ok (Some q.0, q.1)) p e in
    found_has (λ (o : Option X). agrees is_readable true o ≡ true) (Some w.part.0) w.part.1 p w.goes_on
    (each w.part w.begins)
where_agrees {X} is_readable part_at bytes each false p e =
    found_has (λ (o : Option X). agrees is_readable false o ≡ true) None bytes p e refl

-- ---- all of it

abbrev IsKnown : Begun DataParts → Type 0
IsKnown (Ok p) = (bit_and p.0.flags reserved_flags == 0) ≡ true
IsKnown (Err e) = Unit {0}

fixed_known : (bytes : List ℕ) (p : DataParts × List ℕ) → fixed_at bytes ≡ Ok p
    → (bit_and p.0.flags reserved_flags == 0) ≡ true
fixed_known bytes p e =
    let wanted : IsKnown (fixed_at bytes) = fixed_shape IsKnown tt tt (λ d rest known. known) bytes in
    subst IsKnown e wanted

pub given_is_coherent : GivenIsShallow → ReadIsReadable → GivenIsCoherent
unfolding read_data
given_is_coherent shallow law bytes d e =
    let fixed = moves (fixed_at bytes) _ d e in
    let flags = fixed.part.0.flags in
    let key_of : AttestedParts → Bool = λ a. is_key_readable a.key in
    let attested = moves (where_at (has_flag attested_flag flags) attested_at fixed.part.1) _ d fixed.goes_on in
    let extensions =
    moves (where_at (has_flag extensions_flag flags) (item_at read_map) attested.part.1) _ d attested.goes_on in
    let known = fixed_known bytes fixed.part fixed.begins in
    let attested_agrees = where_agrees key_of attested_at fixed.part.1 (attested_readable shallow law fixed.part.1)
    (has_flag attested_flag flags) attested.part attested.begins in
    let extensions_agree = where_agrees are_extensions_readable (item_at read_map) attested.part.1
    (item_readable shallow read_map are_extensions_readable map_readable attested.part.1)
    (has_flag extensions_flag flags) extensions.part extensions.begins in
    let front = and_from (bit_and flags reserved_flags == 0)
    (agrees key_of (has_flag attested_flag flags) attested.part.0) known attested_agrees in
    subst (λ (c : DataParts). is_coherent c ≡ true) (ok_is (record fixed.part.0
    { attested = attested.part.0; extensions = extensions.part.0 }) d extensions.goes_on) (and_from
    (bit_and flags reserved_flags == 0 && agrees key_of (has_flag attested_flag flags) attested.part.0)
    (agrees are_extensions_readable (has_flag extensions_flag flags) extensions.part.0) front extensions_agree)
