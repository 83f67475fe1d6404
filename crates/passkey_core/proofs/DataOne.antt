-- Bytes are read as authenticator data in only one way.
use Rattle.std.specs.Result.{result_map_both}
use Rattle.std.proofs.Common.{◌≡◌, ◌∙◌, inl, inr, List, ℕ, drop, Bool, true, false, Some, None, Result, Ok, Err, sym, subst}
use Rattle.passkey_cbor.specs.Item.{Item}
use Rattle.passkey_cbor.specs.Laws.{AtMostOneLeadingItem}
use Rattle.passkey_cose.specs.KeyReading.{read_key}
use Rattle.passkey_cose.specs.declared.error.CoseError.{CoseError}
use Rattle.passkey_core.specs.DataLaws.{OneReading}
use Rattle.passkey_core.specs.DataFlags.{has_flag, attested_flag, extensions_flag}
use Rattle.passkey_core.specs.DataReading.{Begun, fixed_at, ids_at, read_map, IsReadBy, ReadsItem, After, ReadsThen, ReadsAttested, ReadsWhere}

-- at most one result is right
abbrev HasOne : {X : Type 0} → (X → Type 0) → Type 0
HasOne {X = X} is_right = (a b : X) → is_right a → is_right b → a ≡ b

after_one : {X Y : Type 0} (next : X → List ℕ → Result Y CoseError → Type 0)
    → ((x : X) (rest : List ℕ) → HasOne (next x rest)) → (begun : Begun X) → HasOne (After next begun)
after_one next each (Ok p) a b h k = each p.0 p.1 a b h k
after_one next each (Err e) a b h k = h ∙ sym k

then_one : {X Y : Type 0} (first : Begun X → Type 0) (next : X → List ℕ → Result Y CoseError → Type 0)
    → HasOne first → ((x : X) (rest : List ℕ) → HasOne (next x rest)) → HasOne (ReadsThen first next)
then_one first next one each a b p q =
    let same = one q.begun p.begun q.begins p.begins in
    after_one next each p.begun a b p.goes_on (subst (λ begun. After next begun b) same q.goes_on)

is_one : {X : Type 0} (x : X) → HasOne (λ (a : X). a ≡ x)
is_one x a b h k = h ∙ sym k

front_one : {X : Type 0} → AtMostOneLeadingItem → (read : Item → Result X CoseError) (bytes : List ℕ)
    (a b : Begun X) → IsReadBy read bytes a → IsReadBy read bytes b → a ≡ b
front_one {X = X} law read bytes a b p q =
    let same = law bytes p.item q.item p.len q.len p.front q.front in
    let shared : result_map_both (λ (x : X). (let r : X × List ℕ = (x, drop p.len bytes) in r)) (λ e. e)
    (read p.item) ≡ result_map_both (λ (x : X). (let r : X × List ℕ = (x, drop q.len bytes) in r)) (λ e. e)
    (read q.item) = λ i. result_map_both (λ (x : X). (let r : X × List ℕ = (x, drop (same.1 i) bytes) in r))
    (λ e. e) (read (same.0 i)) in
    p.verdict ∙ shared ∙ sym q.verdict

reads_one : {X : Type 0} → AtMostOneLeadingItem → (read : Item → Result X CoseError) (bytes : List ℕ)
    → HasOne (ReadsItem read bytes)
reads_one law read bytes a b (inl p) (inl q) = front_one law read bytes a b p q
reads_one law read bytes a b (inl p) (inr q) = absurd (q.0 p.item p.len p.front)
reads_one law read bytes a b (inr p) (inl q) = absurd (p.0 q.item q.len q.front)
reads_one law read bytes a b (inr p) (inr q) = p.1 ∙ sym q.1

where_one : {X : Type 0} (is_there : Bool) (part : List ℕ → Begun X → Type 0) (bytes : List ℕ) → HasOne (part bytes)
    → HasOne (ReadsWhere is_there part bytes)
where_one true part bytes one = then_one (part bytes) _ one (λ x rest. is_one (Ok (Some x, rest)))
where_one false part bytes one = is_one (Ok (None, bytes))

attested_one : AtMostOneLeadingItem → (bytes : List ℕ) → HasOne (ReadsAttested bytes)
attested_one law bytes =
    then_one (λ ids. ids ≡ ids_at bytes) _ (is_one (ids_at bytes)) (λ ids rest.
    then_one (ReadsItem read_key rest) _ (reads_one law read_key rest)
    (λ key after. is_one (Ok (record { aaguid = ids.0; credential_id = ids.1; key = key }, after))))

pub one_reading : AtMostOneLeadingItem → OneReading
one_reading law bytes =
    then_one (λ fixed. fixed ≡ fixed_at bytes) _ (is_one (fixed_at bytes)) (λ fixed rest.
    then_one (ReadsWhere (has_flag attested_flag fixed.flags) ReadsAttested rest) _ (where_one
    (has_flag attested_flag fixed.flags) ReadsAttested rest (attested_one law rest)) (λ attested following.
    then_one (ReadsWhere (has_flag extensions_flag fixed.flags) (ReadsItem read_map) following) _ (where_one
    (has_flag extensions_flag fixed.flags) (ReadsItem read_map) following (reads_one law read_map following))
    (λ extensions last. is_one (Ok (record fixed { attested = attested; extensions = extensions })))))
