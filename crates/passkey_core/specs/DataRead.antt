-- Decoding authenticator data as a function: as in DataReading, with the result of `leading_item_at` as the
-- leading data item.
use Rattle.std.specs.Prelude.{ℕ, List, Bool, true, false, Option, Some, None, Result, Ok, Err}
use Rattle.std.specs.Result.{result_map_both}
use Rattle.passkey_cbor.specs.LeadingItemAt.{leading_item_at}
use Rattle.passkey_cbor.specs.Item.{Item}
use Rattle.passkey_cose.specs.KeyReading.{read_key}
use Rattle.passkey_cose.specs.declared.error.CoseError.{CoseError}
use Rattle.passkey_cose.specs.declared.error.CoseError.TheVariants.{DecodeFailed}
use Rattle.passkey_core.specs.DataFlags.{attested_flag, extensions_flag, has_flag}
use Rattle.passkey_core.specs.DataParts.{AttestedParts, DataParts}
use Rattle.passkey_core.specs.DataReading.{Begun, ◌>>=◌, fixed_at, ids_at, read_map}

-- the data item, as `read` reads it; or `DecodeFailed` if there is none
abbrev pub judged_front : {X : Type 0} → (Item → Result X CoseError) → Option (Item × List ℕ) → Begun X
judged_front {X} read (Some r) =
    result_map_both (λ (x : X). (let p : X × List ℕ = (x, r.1) in p)) (λ e. e) (read r.0)
judged_front read None = Err DecodeFailed

abbrev pub item_at : {X : Type 0} → (Item → Result X CoseError) → List ℕ → Begun X
item_at read bytes = judged_front read (leading_item_at bytes)

-- attested credential data
unfoldable pub attested_at : List ℕ → Begun AttestedParts
attested_at bytes = do
  ids ← ids_at bytes
  key ← item_at read_key ids.1
  Ok (record { aaguid = ids.0.0; credential_id = ids.0.1; key = key.0 }, key.1)

-- a part is present only if its flag is set
abbrev pub where_at : {X : Type 0} → Bool → (List ℕ → Begun X) → List ℕ → Begun (Option X)
where_at true part bytes = part bytes >>= λ p. Ok (Some p.0, p.1)
where_at false part bytes = Ok (None, bytes)

-- the data, or the first error
unfoldable pub read_data : List ℕ → Result DataParts CoseError
read_data bytes = do
  fixed ← fixed_at bytes
  attested ← where_at (has_flag attested_flag fixed.0.flags) attested_at fixed.1
  extensions ← where_at (has_flag extensions_flag fixed.0.flags) (item_at read_map) attested.1
  Ok (record fixed.0 { attested = attested.0; extensions = extensions.0 })
