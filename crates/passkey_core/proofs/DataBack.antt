-- Coherent authenticator data, when written, is read back.
use Rattle.std.specs.Int.{w16, w32, from_be_bytes, to_be_bytes}
use Rattle.std.specs.Int.Bits.{or_add_and}
use Rattle.std.specs.Int.RustNames.{bit_and, bit_or}
use Rattle.std.specs.Result.{result_map_both}
use Rattle.std.proofs.Common.{◌≡◌, ◌∙◌, inl, ℕ, ◌<◌, ◌^◌, nat_lt, ◌==◌, List, [], ◌∷◌, ◌++◌, length, take, drop, Bool, true, false, not, ◌&&◌, Option, Some, None, option_map, unwrap_or, Result, Ok, refl, sym, ap, subst, arith}
use Rattle.std.proofs.lemmas.Bool.{true≢false, and_parts, not-true, leb-true}
use Rattle.std.proofs.lemmas.Bool.Decides.{Decides-eqb}
use Rattle.std.proofs.lemmas.List.{append_assoc, append-nil, length-append}
use Rattle.std.proofs.lemmas.Nat.{from_be_bytes-to_be_bytes_2, from_be_bytes-to_be_bytes_4}
use Rattle.std.proofs.Math.Seq.{take-append_seam, drop-append_seam}
use Rattle.passkey_cbor.specs.Heads.{two, four}
use Rattle.passkey_cbor.specs.Item.{Item, map}
use Rattle.passkey_cbor.specs.Laws.{WrittenIsLeadingItem}
use Rattle.passkey_cbor.specs.Writable.{IsWritable}
use Rattle.passkey_cbor.specs.Written.{written}
use Rattle.passkey_cbor.proofs.heads.Numbers.{length-to_be_bytes}
use Rattle.passkey_cose.specs.KeyLaws.{WrittenIsReadBack}
use Rattle.passkey_cose.specs.KeyReadable.{is_shallow, is_reserved, is_key_readable}
use Rattle.passkey_cose.specs.KeyNormal.{normal_key}
use Rattle.passkey_cose.specs.KeyParts.{key_item}
use Rattle.passkey_cose.specs.KeyReading.{read_key}
use Rattle.passkey_cose.specs.declared.error.CoseError.{CoseError}
use Rattle.passkey_core.specs.Coherent.{is_map, are_extensions_readable, agrees, is_coherent}
use Rattle.passkey_core.specs.DataFlags.{has_flag, attested_flag, extensions_flag}
use Rattle.passkey_core.specs.DataLaws.{WrittenDataAreReadBack, WrittenDataAreReadExactly}
use Rattle.passkey_core.specs.DataNormal.{normal_attested, normal_data, IsAttested, IsData, IfPresent}
use Rattle.passkey_core.specs.DataParts.{AttestedParts, DataParts, bare_data}
use Rattle.passkey_core.specs.DataReading.{Begun, ◌>>=◌, bytes_at, known_only, fixed_at, ids_at, read_map, ReadsItem, ReadsAttested, ReadsWhere, whole_only, ReadsDataThen, ReadsDataExactly}
use Rattle.passkey_core.specs.DataWritten.{attested_written, flags_written, data_written}
use Rattle.passkey_core.specs.Flags.{reserved_flags}

-- ---- parts of a fixed length

not_short : (n : ℕ) (front rest : List ℕ) → length front ≡ n → nat_lt (length (front ++ rest)) n ≡ false
not_short n front rest e =
    (elim (nat_lt (length (front ++ rest)) n) as (λ (b : Bool). nat_lt (length (front ++ rest)) n ≡ b → b ≡ false) [
      | true ↦ λ h. (let less : length (front ++ rest) < n = leb-true _ _ h in let whole =
          length-append front rest in absurd (omega (arith, less, whole, e)))
      | false ↦ λ h. refl
    ]) refl

bytes_front : (n : ℕ) (front rest : List ℕ) → length front ≡ n → bytes_at n (front ++ rest) ≡ Ok (front, rest)
bytes_front n front rest e =
    let begins : take n (front ++ rest) ≡ front =
    subst (λ (m : ℕ). take m (front ++ rest) ≡ front) e (take-append_seam front rest) in
    let ends : drop n (front ++ rest) ≡ rest =
    subst (λ (m : ℕ). drop m (front ++ rest) ≡ rest) e (drop-append_seam front rest) in
    rw (not_short n front rest e, begins, ends) refl

step : {Y : Type 0} (n : ℕ) (front rest : List ℕ) (next : List ℕ × List ℕ → Result Y CoseError) → length front ≡ n
    → (bytes_at n (front ++ rest) >>= next) ≡ next (front, rest)
step {Y = Y} n front rest next e = ap (λ (r : Begun (List ℕ)). r >>= next) (bytes_front n front rest e)

fixed_back : (hash : List ℕ) (flags counter : ℕ) (rest : List ℕ) → length hash ≡ 32 → counter < 2 ^ 32
    → (bit_and flags reserved_flags == 0) ≡ true → fixed_at
    (hash ++ ((flags ∷ []) ++ (to_be_bytes w32 counter ++ rest))) ≡ Ok (bare_data hash flags (Some counter), rest)
unfolding fixed_at
fixed_back hash flags counter rest hashed fits known =
    let number : from_be_bytes w32 (to_be_bytes w32 counter) ≡ counter = from_be_bytes-to_be_bytes_4 counter fits in
    let verdict : known_only (bare_data hash flags (Some (from_be_bytes w32 (to_be_bytes w32 counter)))) rest
    ≡ Ok (bare_data hash flags (Some counter), rest) = rw (number, known) refl in
    step 32 hash ((flags ∷ []) ++ (to_be_bytes w32 counter ++ rest)) _ hashed ∙ step 1 (flags ∷ []) (to_be_bytes w32
    counter ++ rest) _ refl ∙ step 4 (to_be_bytes w32 counter) rest _ (length-to_be_bytes four counter) ∙ verdict

ids_back : (aaguid id rest : List ℕ) → length aaguid ≡ 16 → length id < 2 ^ 16
    → ids_at (aaguid ++ (to_be_bytes w16 (length id) ++ (id ++ rest))) ≡ Ok ((aaguid, id), rest)
unfolding ids_at
ids_back aaguid id rest sized fits =
    let number : length id ≡ from_be_bytes w16 (to_be_bytes w16 (length id)) =
    sym (from_be_bytes-to_be_bytes_2 (length id) fits) in
    step 16 aaguid (to_be_bytes w16 (length id) ++ (id ++ rest)) _ sized
    ∙ step 2 (to_be_bytes w16 (length id)) (id ++ rest) _ (length-to_be_bytes two (length id))
    ∙ step (from_be_bytes w16 (to_be_bytes w16 (length id))) id rest _ number

-- ---- data items

item_back : {X : Type 0} → WrittenIsLeadingItem → (read : Item → Result X CoseError) (i : Item) (x : X) (rest :
    List ℕ) → IsWritable i → is_shallow i ≡ true → read i ≡ Ok x → ReadsItem read (written i ++ rest) (Ok (x, rest))
item_back {X = X} law read i x rest writable shallow e =
    let ends : drop (length (written i)) (written i ++ rest) ≡ rest = drop-append_seam (written i) rest in
    let verdict : result_map_both (λ (y : X). (let p : X × List ℕ = (
      y,
      drop (length (written i)) (written i ++ rest),
    ) in p)) (λ (f : CoseError). f) (read i) ≡ Ok (x, rest) = ap
    (result_map_both (λ (y : X). (let p : X × List ℕ = (y, drop (length (written i)) (written i ++ rest)) in p))
    (λ (f : CoseError). f)) e ∙ ap (λ (bytes : List ℕ). (let r : Begun X = Ok (x, bytes) in r)) ends in
    inl (record {
      item = i;
      len = length (written i);
      front = law i rest writable (leb-true _ _ shallow);
      verdict = sym verdict;
    })

attested_back : WrittenIsLeadingItem → WrittenIsReadBack → (a : AttestedParts) (rest : List ℕ) → IsAttested a
    → is_key_readable a.key ≡ true → ReadsAttested (attested_written a ++ rest) (Ok (normal_attested a, rest))
attested_back law keys a rest valid readable =
    let parts = and_parts (not (is_reserved a.key.kty)) (is_shallow (key_item a.key)) readable in
    let key : read_key (key_item a.key) ≡ Ok (normal_key a.key) =
    keys a.key valid.key (not-true (is_reserved a.key.kty) parts.0) in
    let flat : attested_written a ++ rest ≡ a.aaguid ++ (to_be_bytes w16 (length a.credential_id)
    ++ (a.credential_id ++ (written (key_item a.key) ++ rest))) = simp append_assoc in
    let ids =
    ids_back a.aaguid a.credential_id (written (key_item a.key) ++ rest) valid.aaguid valid.credential_id in
    let whole : ReadsAttested (a.aaguid ++ (to_be_bytes w16 (length a.credential_id)
    ++ (a.credential_id ++ (written (key_item a.key) ++ rest)))) (Ok (normal_attested a, rest)) = record {
      begun = Ok ((a.aaguid, a.credential_id), written (key_item a.key) ++ rest);
      begins = sym ids;
      goes_on = record {
        begun = Ok (normal_key a.key, rest);
        begins = item_back law read_key (key_item a.key) (normal_key a.key) rest valid.writable parts.1 key;
        goes_on = refl;
      };
    } in
    subst (λ (bytes : List ℕ). ReadsAttested bytes (Ok (normal_attested a, rest))) (sym flat) whole

map_kept : (i : Item) → is_map i ≡ true → read_map i ≡ Ok i
map_kept (map ps) e = refl
map_kept i e = absurd (true≢false (sym e))

extensions_back : WrittenIsLeadingItem → (x : Item) (rest : List ℕ) → IsWritable x
    → are_extensions_readable x ≡ true → ReadsItem read_map (written x ++ rest) (Ok (x, rest))
extensions_back law x rest writable readable =
    let parts = and_parts (is_map x) (is_shallow x) readable in
    item_back law read_map x x rest writable parts.1 (map_kept x parts.0)

-- ---- parts that may be absent

where_back : {X : Type 0} (Holds : X → Type 0) (is_readable : X → Bool) (bytes : X → List ℕ) (normal : X → X)
    (part : List ℕ → Begun X → Type 0)
    → ((x : X) (rest : List ℕ) → Holds x → is_readable x ≡ true → part (bytes x ++ rest) (Ok (normal x, rest)))
    → (flagged : Bool) (o : Option X) (rest : List ℕ) → IfPresent Holds o → agrees is_readable flagged o ≡ true
    → ReadsWhere flagged part (unwrap_or (option_map bytes o) [] ++ rest) (Ok (option_map normal o, rest))
where_back Holds is_readable bytes normal part each true None rest holds e = absurd (true≢false (sym e))
where_back Holds is_readable bytes normal part each false None rest holds e = refl
where_back Holds is_readable bytes normal part each true (Some x) rest holds e =
    record { begun = Ok (normal x, rest); begins = each x rest holds e; goes_on = refl }
where_back Holds is_readable bytes normal part each false (Some x) rest holds e = absurd (true≢false (sym e))

kept : (o : Option Item) → option_map (λ x. x) o ≡ o
kept None = refl
kept (Some x) = refl

-- ---- all of it

flag_held : (flags : ℕ) → has_flag attested_flag flags ≡ true → bit_or flags attested_flag ≡ flags
flag_held flags e =
    let both = or_add_and flags attested_flag in
    let has : bit_and flags attested_flag ≡ attested_flag =
    (Decides-eqb (bit_and flags attested_flag) attested_flag).0 e in
    omega (arith, both, has)

flags_back : (is_readable : AttestedParts → Bool) (flags : ℕ) (o : Option AttestedParts)
    → agrees is_readable (has_flag attested_flag flags) o ≡ true → flags_written flags o ≡ flags
flags_back is_readable flags None e = refl
flags_back is_readable flags (Some a) e =
    flag_held flags (and_parts (has_flag attested_flag flags) (is_readable a) e).0

data_back_then : {Y : Type 0} → WrittenIsLeadingItem → WrittenIsReadBack
    → (finish : DataParts → List ℕ → Result Y CoseError) (d : DataParts) (rest : List ℕ) → IsData d
    → is_coherent d ≡ true → ReadsDataThen finish (data_written d ++ rest) (finish (normal_data d) rest)
data_back_then {Y} law keys finish d rest valid coherent =
    let attested = d.attested in
    let extensions = d.extensions in
    let key_of : AttestedParts → Bool = λ a. is_key_readable a.key in
    let front = and_parts (bit_and d.flags reserved_flags == 0 && agrees key_of (has_flag attested_flag d.flags)
    attested) (agrees are_extensions_readable (has_flag extensions_flag d.flags) extensions) coherent in
    let known = and_parts (bit_and d.flags reserved_flags == 0)
    (agrees key_of (has_flag attested_flag d.flags) attested) front.0 in
    let following : List ℕ = unwrap_or (option_map written extensions) [] ++ rest in
    let last : List ℕ = unwrap_or (option_map attested_written attested) [] ++ following in
    let same : flags_written d.flags attested ≡ d.flags = flags_back key_of d.flags attested known.1 in
    let flat : data_written d ++ rest ≡ d.rp_id_hash ++ ((flags_written d.flags attested ∷ [])
    ++ (to_be_bytes w32 (unwrap_or d.counter 0) ++ last)) = simp append_assoc in
    let whole : data_written d ++ rest
    ≡ d.rp_id_hash ++ ((d.flags ∷ []) ++ (to_be_bytes w32 (unwrap_or d.counter 0) ++ last)) = flat
    ∙ ap (λ (f : ℕ). d.rp_id_hash ++ ((f ∷ []) ++ (to_be_bytes w32 (unwrap_or d.counter 0) ++ last))) same in
    let fixed =
    fixed_back d.rp_id_hash d.flags (unwrap_or d.counter 0) last valid.rp_id_hash valid.counter known.0 in
    let reads : ReadsDataThen finish (d.rp_id_hash ++ ((d.flags ∷ []) ++ (to_be_bytes w32 (unwrap_or d.counter 0)
    ++ last))) (finish (normal_data d) rest) = record {
      begun = Ok (bare_data d.rp_id_hash d.flags (Some (unwrap_or d.counter 0)), last);
      begins = sym fixed;
      goes_on = record {
        begun = Ok (option_map normal_attested attested, following);
        begins = where_back IsAttested key_of attested_written normal_attested ReadsAttested
            (attested_back law keys) (has_flag attested_flag d.flags) attested following valid.attested known.1;
        goes_on = record {
          begun = Ok (option_map (λ x. x) extensions, rest);
          begins = where_back IsWritable are_extensions_readable written (λ x. x) (ReadsItem read_map)
              (extensions_back law) (has_flag extensions_flag d.flags) extensions rest valid.extensions front.1;
          goes_on = ap (λ (x : Option Item). (let r : Result Y CoseError =
              finish (record (normal_data d) { extensions = x }) rest in r)) (sym (kept extensions));
        };
      };
    } in
    subst (λ (bytes : List ℕ). ReadsDataThen finish bytes (finish (normal_data d) rest)) (sym whole) reads

pub data_back : WrittenIsLeadingItem → WrittenIsReadBack → WrittenDataAreReadBack
data_back law keys = data_back_then law keys (λ d last. Ok d)

pub data_back_exactly : WrittenIsLeadingItem → WrittenIsReadBack → WrittenDataAreReadExactly
data_back_exactly law keys d valid coherent =
    subst (λ (bytes : List ℕ). ReadsDataExactly bytes (Ok (normal_data d))) (append-nil (data_written d))
    (data_back_then law keys whole_only d [] valid coherent)
