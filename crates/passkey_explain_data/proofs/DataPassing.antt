-- From parts that are passed to data that are read, or of which one part is refused.
use Rattle.std.proofs.Common.{◌≡◌, ◌∙◌, ◌<◌, ◌≤◌, ◌==◌, ℕ, List, [], ◌∷◌, length, drop, Bool, true, false, Option, Some, None, Result, Ok, Err, IsOk, inl, inr, arith, refl, sym, ap, subst}
use Rattle.std.proofs.lemmas.Bool.Decides.{nat_tests}
use Rattle.passkey_cbor.specs.Item.{Item}
use Rattle.passkey_cbor.specs.LeadingItem.{IsLeadingItem}
use Rattle.passkey_core.specs.DataFlags.{attested_flag, extensions_flag, has_flag}
use Rattle.passkey_core.specs.DataParts.{DataParts}
use Rattle.passkey_core.specs.DataReading.{Begun, fixed_at, ids_at, read_map, ReadsItem, ReadsAttested, ReadsWhere, ReadsDataExactly}
use Rattle.passkey_cose.specs.KeyReading.{read_key}
use Rattle.passkey_explain.specs.Along.{LiesAlong}
use Rattle.passkey_explain.specs.Blame.{Step}
use Rattle.passkey_explain_data.specs.DataBlame.{fixed_in, ids_in, BlamesKey, BlamesExtensions, BlamesWhere, BlamesAttested, BlamesTrailing, BlamesData, StopsAt, Passes, ReadsTo}
use Rattle.passkey_explain_data.specs.KeyBlame.{IsVerdict}
use Rattle.passkey_explain_data.specs.declared.part.DataRefusal.{DataRefusal}
use Rattle.passkey_explain_data.specs.declared.passing.Stop.{Stop}
use Rattle.passkey_explain_data.specs.declared.passing.Stop.TheVariants as stop
use Rattle.passkey_explain_data.proofs.DataVerdict.{fixed_passed, ids_passed, reads_item}

pub stops_more : (B C : DataRefusal → Type 0) (s : Stop) → ((d : DataRefusal) → B d → C d) → StopsAt B s → StopsAt C s
stops_more B C stop.OutOfMemory bad h = tt
stops_more B C (stop.Refused d) bad h = bad d h

pub passes_more : {A : Type 0} (P Q : A → Type 0) (B C : DataRefusal → Type 0) (r : Result A Stop)
    → ((x : A) → P x → Q x) → ((d : DataRefusal) → B d → C d) → Passes P B r → Passes Q C r
passes_more P Q B C (Ok x) good bad h = good x h
passes_more P Q B C (Err s) good bad h = stops_more B C s bad h

is_zero : (n : ℕ) → (n == 0) ≡ true → n ≡ 0
is_zero n e = grind (arith, nat_tests)

is_more : (n : ℕ) → (n == 0) ≡ false → 0 < n
is_more n e = grind (arith, nat_tests)

pub none_left : (xs : List ℕ) → (length xs == 0) ≡ true → xs ≡ []
none_left [] e = refl
none_left (x ∷ xs) e = let zero : length (x ∷ xs) ≡ 0 = is_zero (length (x ∷ xs)) e in absurd (omega arith)

pub some_left : (xs : List ℕ) → (length xs == 0) ≡ false → 0 < length xs
some_left xs e = is_more (length xs) e

-- what is along a path ends within the bytes
pub lies_within : (path : List Step) (i : Item) (bytes : List ℕ) (at from to : ℕ) → LiesAlong path i bytes at from to
    → to ≤ length bytes
lies_within [] i bytes at from to h = h.1.within
lies_within (s ∷ ss) i bytes at from to h = lies_within ss h.0 bytes h.1 from to h.3

-- ---- data items

is_read : {X E : Type 0} (r : Result X E) → IsOk r → (x : X) × (r ≡ Ok x)
is_read (Ok x) h = (x, refl)
is_read (Err e) h = absurd cc

pub key_read : (rest : List ℕ) (i : Item) (len : ℕ) (found : Option _) → IsLeadingItem rest i len
    → IsVerdict (read_key i) found → found ≡ None → ReadsTo (ReadsItem read_key rest) (drop len rest)
key_read rest i len found leads verdict e =
    let ok : IsOk (read_key i) = subst (IsVerdict (read_key i)) e verdict in
    let k = is_read (read_key i) ok in
    (k.0, reads_item read_key rest i len k.0 leads k.1)

pub map_read : (rest : List ℕ) (i : Item) (len : ℕ) → IsLeadingItem rest i len → read_map i ≡ Ok i
    → ReadsTo (ReadsItem read_map rest) (drop len rest)
map_read rest i len leads e = (i, reads_item read_map rest i len i leads e)

-- ---- attested credential data

pub attested_read : (whole rest following after : List ℕ) → ids_in whole rest ≡ Ok following
    → ReadsTo (ReadsItem read_key following) after → ReadsTo (ReadsAttested rest) after
attested_read whole rest following after e k =
    let p = ids_passed whole rest following e in
    let ids = p.0 in
    let here : ReadsItem read_key ids.1 (Ok (k.0, after)) =
    subst (λ (bs : List ℕ). ReadsItem read_key bs (Ok (k.0, after))) (sym p.1.1) k.1 in (
      record { aaguid = ids.0.0; credential_id = ids.0.1; key = k.0 },
      record {
        begun = Ok ids;
        begins = sym p.1.0;
        goes_on = record { begun = Ok (k.0, after); begins = here; goes_on = refl };
      },
    )

pub attested_refused : (whole rest following : List ℕ) (r : DataRefusal) → ids_in whole rest ≡ Ok following
    → BlamesKey whole following r → BlamesAttested whole rest r
attested_refused whole rest following r e b =
    let p = ids_passed whole rest following e in
    let ids = p.0 in
    let read : Ok (ids.0, following) ≡ ids_at rest =
    ap (λ (bs : List ℕ). (let b : Begun (List ℕ × List ℕ) = Ok (ids.0, bs) in b)) (sym p.1.1) ∙ sym p.1.0 in
    inr (ids.0, following, (read, b))

-- ---- parts with a flag

pub where_read : {X : Type 0} (flag : Bool) (part : List ℕ → Begun X → Type 0) (rest after : List ℕ) → flag ≡ true
    → ReadsTo (part rest) after → ReadsTo (ReadsWhere flag part rest) after
where_read true part rest after e h =
    (Some h.0, record { begun = Ok (h.0, after); begins = h.1; goes_on = refl })
where_read false part rest after e h = absurd cc

pub where_refused : (flag : Bool) (blames : DataRefusal → Type 0) (r : DataRefusal) → flag ≡ true → blames r
    → BlamesWhere flag blames r
where_refused true blames r e h = h
where_refused false blames r e h = absurd cc

-- ---- the whole

-- the parts of fixed length are read
record IsFixed (bytes : List ℕ) (flags : ℕ) (rest : List ℕ) : Type 0 where
  pub fixed : DataParts
  pub begins : Ok (fixed, rest) ≡ fixed_at bytes
  pub same : flags ≡ fixed.flags

is_fixed : (bytes : List ℕ) (flags : ℕ) (rest : List ℕ) → fixed_in bytes ≡ Ok (flags, rest) → IsFixed bytes flags rest
is_fixed bytes flags rest e =
    let p = fixed_passed bytes (flags, rest) e in
    let d = p.0 in
    let same_rest : rest ≡ d.1 = ap (λ (q : ℕ × List ℕ). q.1) (sym p.1.1) in record {
      fixed = d.0;
      begins = ap (λ (bs : List ℕ). (let b : Begun DataParts = Ok (d.0, bs) in b)) same_rest ∙ sym p.1.0;
      same = ap (λ (q : ℕ × List ℕ). q.0) (sym p.1.1);
    }

module _ (bytes : List ℕ) (flags : ℕ) (rest : List ℕ) (passed : fixed_in bytes ≡ Ok (flags, rest)) where
  pub attested_blamed : (r : DataRefusal) → BlamesWhere (has_flag attested_flag flags) (BlamesAttested bytes rest) r
      → BlamesData bytes r
  attested_blamed r b =
      let f = is_fixed bytes flags rest passed in
      inr (
        f.fixed,
        rest,
        (
          f.begins,
          inl (subst (λ (n : ℕ). BlamesWhere (has_flag attested_flag n)
              (BlamesAttested bytes rest) r) f.same b),
        ),
      )

  module _ (following : List ℕ) (attested : ReadsTo (ReadsWhere (has_flag attested_flag flags) ReadsAttested rest) following) where
    attested_with : (n : ℕ) → flags ≡ n
        → ReadsTo (ReadsWhere (has_flag attested_flag n) ReadsAttested rest) following
    attested_with n e =
        subst (λ (n : ℕ). ReadsTo (ReadsWhere (has_flag attested_flag n) ReadsAttested rest) following) e attested

    pub extensions_blamed : (r : DataRefusal)
        → BlamesWhere (has_flag extensions_flag flags) (BlamesExtensions bytes following) r → BlamesData bytes r
    extensions_blamed r b =
        let f = is_fixed bytes flags rest passed in
        let a = attested_with f.fixed.flags f.same in
        inr (
          f.fixed,
          rest,
          (
            f.begins,
            inr (
              a.0,
              following,
              (
                a.1,
                inl (subst (λ (n : ℕ). BlamesWhere (has_flag
                    extensions_flag n) (BlamesExtensions bytes following) r) f.same b),
              ),
            ),
          ),
        )

    module _ (last : List ℕ)
        (extensions : ReadsTo (ReadsWhere (has_flag extensions_flag flags) (ReadsItem read_map) following) last) where
      extensions_with : (n : ℕ) → flags ≡ n
          → ReadsTo (ReadsWhere (has_flag extensions_flag n) (ReadsItem read_map) following) last
      extensions_with n e =
          subst (λ (n : ℕ). ReadsTo (ReadsWhere (has_flag extensions_flag n) (ReadsItem read_map) following) last) e
          extensions

      pub trailing_blamed : (r : DataRefusal) → BlamesTrailing bytes last r → BlamesData bytes r
      trailing_blamed r b =
          let f = is_fixed bytes flags rest passed in
          let a = attested_with f.fixed.flags f.same in
          let x = extensions_with f.fixed.flags f.same in
          inr (f.fixed, rest, (f.begins, inr (a.0, following, (a.1, inr (x.0, last, (x.1, b))))))

      pub data_read : last ≡ [] → (d : DataParts) × ReadsDataExactly bytes (Ok d)
      data_read none =
          let f = is_fixed bytes flags rest passed in
          let a = attested_with f.fixed.flags f.same in
          let x = extensions_with f.fixed.flags f.same in
          let whole : ReadsTo (ReadsWhere (has_flag extensions_flag f.fixed.flags) (ReadsItem read_map) following) [] =
          subst (λ (bs : List ℕ). ReadsTo (ReadsWhere (has_flag extensions_flag f.fixed.flags) (ReadsItem read_map)
          following) bs) none x in (
            record f.fixed { attested = a.0; extensions = whole.0 },
            record {
              begun = Ok (f.fixed, rest);
              begins = f.begins;
              goes_on = record {
                begun = Ok (a.0, following);
                begins = a.1;
                goes_on = record { begun = Ok (whole.0, []); begins = whole.1; goes_on = refl };
              };
            },
          )
