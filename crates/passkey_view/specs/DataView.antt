-- The parts of authenticator data, looked at in place (WebAuthn Level 3, sections 6.1 and 6.5.1).
use Rattle.std.specs.Prelude.{◌≡◌, ℕ, ◌+◌, ◌≤◌, List, [], ◌∷◌, length, slice_index, Bool, true, false, Option, Some, None, MatchOption}
use Rattle.std.specs.Int.{w16, w32, from_be_bytes}
use Rattle.passkey_cbor.specs.declared.head.Head.TheVariants as head
use Rattle.passkey_core.specs.DataFlags.{has_flag, attested_flag, extensions_flag}
use Rattle.passkey_view.specs.declared.data_view.AttestedView.{AttestedView}
use Rattle.passkey_view.specs.declared.data_view.DataView.{DataView}
use Rattle.passkey_view.specs.declared.item_view.ItemView.{ItemView}
use Rattle.passkey_view.specs.ItemView.{HasItemAt}

-- The fact holds of what is found; if nothing is found, it holds of nothing.
abbrev pub FindsExactly : {A : Type 0} → (A → Type 0) → Option A → Type 0
FindsExactly {A} P found = MatchOption found ((x : A) → P x → ⊥) P

-- A part is there, and the fact holds of it, exactly if its flag is set.
abbrev pub IsWhere : {A : Type 0} → Bool → (A → Type 0) → Option A → Type 0
IsWhere true P (Some x) = P x
IsWhere true P None = ⊥
IsWhere false P (Some x) = ⊥
IsWhere false P None = Unit {0}

-- the data item at the offset is a map
pub record IsMapAt (bytes : List ℕ) (offset : ℕ) (v : ItemView) : Type 0 where
  pub here : HasItemAt bytes offset v
  pub left : Option ℕ
  pub headed : v.head ≡ head.Map left

-- Attested credential data, after the parts of fixed length: the AAGUID of 16 bytes, the credential id's length in
-- two bytes, big-endian, the credential id, and a map.
pub record IsAttestedAt (bytes : List ℕ) (a : AttestedView) : Type 0 where
  pub room : 55 ≤ length bytes
  pub aaguid : a.aaguid ≡ 37
  pub id : a.credential_id ≡ 55
  pub id_len : a.credential_id_len ≡ from_be_bytes w16 (slice_index bytes 53 ∷ slice_index bytes 54 ∷ [])
  pub key : IsMapAt bytes (55 + a.credential_id_len) a.public_key

-- where the attested credential data end
abbrev pub following : Option AttestedView → ℕ
following (Some a) = a.public_key.end
following None = 37

-- where the last part ends, if the one before the extensions ends here
abbrev pub end_of : ℕ → Option ItemView → ℕ
end_of n (Some e) = e.end
end_of n None = n

-- Authenticator data: the relying party id's hash of 32 bytes, the flags byte, the signature counter in four
-- bytes, big-endian, and the parts whose flags are set.
pub record IsDataView (bytes : List ℕ) (v : DataView) : Type 0 where
  pub room : 37 ≤ length bytes
  pub flags : v.flags ≡ slice_index bytes 32
  pub counter : v.counter ≡ from_be_bytes w32
      (slice_index bytes 33 ∷ slice_index bytes 34 ∷ slice_index bytes 35 ∷ slice_index bytes 36 ∷ [])
  pub attested : IsWhere (has_flag attested_flag v.flags) (IsAttestedAt bytes) v.attested
  pub extensions : IsWhere (has_flag extensions_flag v.flags) (IsMapAt bytes (following v.attested)) v.extensions
  pub end : v.end ≡ end_of (following v.attested) v.extensions
