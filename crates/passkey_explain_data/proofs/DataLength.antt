-- Where authenticator data and their parts end.
use Rattle.std.specs.Result.{result_map_both}
use Rattle.std.proofs.Common.{◌≡◌, ◌∙◌, ℕ, List, drop, Bool, true, false, Option, Some, Result, Ok, Err, inl, inr, refl, sym, ap, subst}
use Rattle.passkey_cbor.specs.Item.{Item}
use Rattle.passkey_cbor.specs.LeadingItem.{IsLeadingItem}
use Rattle.passkey_core.specs.DataFlags.{attested_flag, extensions_flag, has_flag}
use Rattle.passkey_core.specs.DataParts.{AttestedParts, DataParts}
use Rattle.passkey_core.specs.DataReading.{Begun, After, read_map, ReadsItem, ReadsThen, ReadsAttested, ReadsWhere, ReadsDataFront}
use Rattle.passkey_cose.specs.KeyParts.{KeyParts}
use Rattle.passkey_cose.specs.KeyReading.{read_key}
use Rattle.passkey_cose.specs.declared.error.CoseError.{CoseError}
use Rattle.passkey_explain_data.specs.DataBlame.{fixed_in, ids_in}
use Rattle.passkey_explain_data.specs.DataLength.{EndsAt}
use Rattle.passkey_explain_data.specs.declared.part.DataRefusal.{DataRefusal}
use Rattle.passkey_explain_data.proofs.DataVerdict.{fixed_passed, fixed_refused, ids_passed, ids_refused}

-- ---- first parts

same_rest : {X : Type 0} (p q : X × List ℕ) → (let b : Begun X = Ok p in b) ≡ Ok q → p.1 ≡ q.1
same_rest {X} p q e = let same : p ≡ q = cc in ap (λ (r : X × List ℕ). r.1) same

module _ {X Y : Type 0} {first : Begun X → Type 0} {next : X → List ℕ → Result Y CoseError → Type 0} {y : Y}
    (h : ReadsThen first next (Ok y)) where
  goes_on : (p : X × List ℕ) → h.begun ≡ Ok p → next p.0 p.1 (Ok y)
  goes_on p is = subst (λ (b : Begun X). After next b (Ok y)) is h.goes_on

  not_begun : (e : CoseError) → h.begun ≡ Err e → ⊥
  not_begun e is =
      let on : (let r : Result Y CoseError = Ok y in r) ≡ Err e = subst (λ (b : Begun X). After next b (Ok y)) is h.goes_on in
      absurd cc

-- what is made of a part ends where the part does
then_ends : {X Y : Type 0} (make : X → Y) (reads : Begun X → Type 0) (after last : List ℕ) (y : Y) (b : Begun X)
    → EndsAt reads after → reads b
    → After (λ (x : X) (rest : List ℕ) (begun : Begun Y). begun ≡ Ok (make x, rest)) b (Ok (y, last)) → after ≡ last
then_ends make reads after last y (Ok p) ends is on = ends p.0 p.1 is ∙ sym (same_rest (y, last) (make p.0, p.1) on)
then_ends make reads after last y (Err e) ends is on = absurd cc

-- ---- data items

after_item : {X : Type 0} (x : X) (rest following : List ℕ) (q : Result X CoseError)
    → Ok (let p : X × List ℕ = (x, rest) in p)
    ≡ result_map_both (λ (y : X). (let p : X × List ℕ = (y, following) in p)) (λ (e : CoseError). e) q → following ≡ rest
after_item x rest following (Ok y) e = sym (same_rest (x, rest) (y, following) e)
after_item x rest following (Err f) e = absurd cc

pub item_ends : {X : Type 0} (read : Item → Result X CoseError) (bytes after : List ℕ)
    → ((x : Item) (len : ℕ) → IsLeadingItem bytes x len → after ≡ drop len bytes) → EndsAt (ReadsItem read bytes) after
item_ends read bytes after ends x rest (inl r) =
    ends r.item r.len r.front ∙ after_item x rest (drop r.len bytes) (read r.item) r.verdict
item_ends read bytes after ends x rest (inr none) = let no = none.1 in absurd cc

pub where_ends : {X : Type 0} (flag : Bool) (part : List ℕ → Begun X → Type 0) (rest after : List ℕ) → flag ≡ true
    → EndsAt (part rest) after → EndsAt (ReadsWhere flag part rest) after
where_ends {X} true part rest after e ends x last r =
    then_ends (λ (x : X). Some x) (part rest) after last x r.begun ends r.begins r.goes_on
where_ends false part rest after e ends x last r = absurd cc

-- ---- attested credential data

pub attested_ends : (whole rest key after : List ℕ) → ids_in whole rest ≡ Ok key
    → EndsAt (ReadsItem read_key key) after → EndsAt (ReadsAttested rest) after
attested_ends whole rest key after e ends a last r =
    let p = ids_passed whole rest key e in
    let ids = p.0 in
    let on = goes_on r ids (r.begins ∙ p.1.0) in
    let here : EndsAt (ReadsItem read_key ids.1) after =
    subst (λ (bs : List ℕ). EndsAt (ReadsItem read_key bs) after) (sym p.1.1) ends in
    then_ends
    (λ (key : KeyParts). (let a : AttestedParts = record { aaguid = ids.0.0; credential_id = ids.0.1; key = key } in a))
    (ReadsItem read_key ids.1) after last a on.begun here on.begins on.goes_on

pub attested_absent : (whole rest after : List ℕ) (r : DataRefusal) → ids_in whole rest ≡ Err r
    → EndsAt (ReadsAttested rest) after
attested_absent whole rest after r e a last h =
    absurd (not_begun h r.fault (h.begins ∙ sym (ids_refused whole rest r e)))

-- ---- the whole

module _ (d : DataParts) (end : List ℕ) where
  abbrev GoesOn : DataParts → Option AttestedParts → List ℕ → Begun DataParts → Type 0
  GoesOn fixed attested following =
      ReadsThen (ReadsWhere (has_flag extensions_flag fixed.flags) (ReadsItem read_map) following)
      (λ extensions last answer. answer ≡ Ok (record fixed { attested = attested; extensions = extensions }, last))

  extensions_end : (fixed : DataParts) (following last : List ℕ) (b : Begun (Option AttestedParts))
      → EndsAt (λ (c : Begun (Option AttestedParts)). c ≡ b) following
      → EndsAt (ReadsWhere (has_flag extensions_flag fixed.flags) (ReadsItem read_map) following) last
      → After (GoesOn fixed) b (Ok (d, end)) → last ≡ end
  extensions_end fixed following last (Ok p) there ends on =
      let here = subst (λ (bs : List ℕ). EndsAt (ReadsWhere (has_flag extensions_flag fixed.flags) (ReadsItem read_map) bs)
      last) (there p.0 p.1 refl) ends in
      then_ends (λ (x : Option Item). (let d : DataParts = record fixed { attested = p.0; extensions = x } in d))
      (ReadsWhere (has_flag extensions_flag fixed.flags) (ReadsItem read_map) p.1) last end d on.begun here on.begins
      on.goes_on
  extensions_end fixed following last (Err e) there ends on = absurd cc

  pub data_ends : (bytes : List ℕ) (flags : ℕ) (rest following last : List ℕ) → fixed_in bytes ≡ Ok (flags, rest)
      → EndsAt (ReadsWhere (has_flag attested_flag flags) ReadsAttested rest) following
      → EndsAt (ReadsWhere (has_flag extensions_flag flags) (ReadsItem read_map) following) last
      → ReadsDataFront bytes (Ok (d, end)) → last ≡ end
  data_ends bytes flags rest following last e attested extensions r =
      let p = fixed_passed bytes (flags, rest) e in
      let fixed = p.0.0 in
      let same : flags ≡ fixed.flags = ap (λ (q : ℕ × List ℕ). q.0) (sym p.1.1) in
      let same_rest : rest ≡ p.0.1 = ap (λ (q : ℕ × List ℕ). q.1) (sym p.1.1) in
      let on = goes_on r p.0 (r.begins ∙ p.1.0) in
      let here = subst (λ (n : ℕ). EndsAt (ReadsWhere (has_flag attested_flag n) ReadsAttested p.0.1) following) same
      (subst (λ (bs : List ℕ). EndsAt (ReadsWhere (has_flag attested_flag flags) ReadsAttested bs) following) same_rest
      attested) in
      let there = subst (λ (n : ℕ). EndsAt (ReadsWhere (has_flag extensions_flag n) (ReadsItem read_map) following) last) same
      extensions in
      extensions_end fixed following last on.begun
      (λ (a : Option AttestedParts) (bs : List ℕ) (is : Ok (a, bs) ≡ on.begun).
      here a bs (subst (ReadsWhere (has_flag attested_flag fixed.flags) ReadsAttested p.0.1) (sym is) on.begins)) there
      on.goes_on

  pub data_absent : (bytes : List ℕ) (r : DataRefusal) → fixed_in bytes ≡ Err r → ReadsDataFront bytes (Ok (d, end)) → ⊥
  data_absent bytes r e h = not_begun h r.fault (h.begins ∙ sym (fixed_refused bytes r e))
