-- When decoding attested credential data may run out of memory.
use Rattle.std.specs.Int.{w16, from_be_bytes}
use Rattle.std.specs.Result.{result_map_both, IsOkAnd}
use Rattle.std.proofs.Common.{◌≡◌, inl, inr, List, ℕ, drop, Ok, Err, refl, sym, subst}
use Rattle.passkey_cbor.specs.Grows.{Grows}
use Rattle.passkey_cbor.specs.Item.{Item, map, pair}
use Rattle.passkey_cbor.specs.Reads.{HasGrowingLeadingItem}
use Rattle.passkey_cose.specs.KeyParts.{KeyParts}
use Rattle.passkey_cose.specs.KeyReading.{read_key}
use Rattle.passkey_cose.specs.declared.error.CoseError.{CoseError}
use Rattle.passkey_cose.specs.declared.error.CoseError.TheVariants.{DecodeFailed}
use Rattle.passkey_core.specs.DataAnswers.{Returns}
use Rattle.passkey_core.specs.DataParts.{AttestedParts}
use Rattle.passkey_core.specs.DataReading.{Begun, ids_at, ReadsItem, ReadsAttested, AttestedGrows}
use Rattle.passkey_core.proofs.DataReadings.{at_shape}

-- a key is a map with at least one member, which takes memory
key_grows : (i : Item) (p : KeyParts × List ℕ) (rest : List ℕ) → Ok p ≡ result_map_both
    (λ (k : KeyParts). (let q : KeyParts × List ℕ = (k, rest) in q)) (λ e. e) (read_key i) → Grows i
key_grows (map (pair k v ps)) p rest h = tt
key_grows _ p rest h = cc

key_front : (bytes : List ℕ) (p : KeyParts × List ℕ) → ReadsItem read_key bytes (Ok p) → HasGrowingLeadingItem bytes
key_front bytes p (inl r) =
    record { item = r.item; len = r.len; front = r.front; grows = key_grows r.item p (drop r.len bytes) r.verdict }
key_front bytes p (inr r) = cc

-- if the key was read, its data item is present and takes memory
pub attested_grows : (bytes : List ℕ) (ids : List ℕ × List ℕ) (rest : List ℕ) (key : KeyParts) (after : List ℕ)
    → Ok (ids, rest) ≡ ids_at bytes → ReadsItem read_key rest (Ok (key, after)) → AttestedGrows bytes
attested_grows bytes ids rest key after is_ids reads =
    subst (λ (begun : Begun (List ℕ × List ℕ)). IsOkAnd begun (λ r. HasGrowingLeadingItem r.1)) is_ids
    (key_front rest (key, after) reads)

-- the AAGUID and the credential id are truncated, or complete
ids_shape : (Q : Begun (List ℕ × List ℕ) → Type 0) → Q (Err DecodeFailed)
    → ((p : (List ℕ × List ℕ) × List ℕ) → Q (Ok p)) → (bytes : List ℕ) → Q (ids_at bytes)
unfolding ids_at
ids_shape Q cut whole bytes = at_shape Q cut 16 bytes _ (λ aaguid. at_shape Q cut 2 aaguid.1 _
    (λ len. at_shape Q cut (from_be_bytes w16 len.0) len.1 _ (λ id. whole ((aaguid.0, id.0), id.1))))

-- their error is the result
abbrev FailsAs : {A : Type 0} → Type 0 → (A → AttestedParts × List ℕ) → List ℕ → Begun (List ℕ × List ℕ) → Type 0
FailsAs memory seen bytes (Ok p) = Unit {0}
FailsAs memory seen bytes (Err e) = ids_at bytes ≡ Err e → Returns memory seen (ReadsAttested bytes) (Err e)

pub ids_fail : {A : Type 0} (memory : Type 0) (seen : A → AttestedParts × List ℕ) (bytes : List ℕ) (e : CoseError)
    → ids_at bytes ≡ Err e → Returns memory seen (ReadsAttested bytes) (Err e)
ids_fail memory seen bytes e h =
    let wanted : FailsAs memory seen bytes (ids_at bytes) = ids_shape (FailsAs memory seen bytes)
    (λ g. record { begun = Err DecodeFailed; begins = sym g; goes_on = refl }) (λ p. tt) bytes in
    (subst (FailsAs memory seen bytes) h wanted) h
