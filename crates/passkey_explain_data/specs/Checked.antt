-- The results of checking a label, an operation or a pair against those before.
use Rattle.std.specs.Prelude.{◌≡◌, ℕ, ℤ, List, [], ◌∷◌, ◌++◌, Option, None}
use Rattle.passkey_cbor.specs.Item.{Item}
use Rattle.passkey_cose.specs.KeyLabels.{Members}
use Rattle.passkey_cose.specs.Seen.{labels_of}
use Rattle.passkey_cose.specs.declared.error.CoseError.{CoseError}
use Rattle.passkey_explain_data.specs.KeyBlame.{name_fault_after, pair_blame}
use Rattle.passkey_explain_data.specs.Names.{Holds}
use Rattle.passkey_explain_data.specs.declared.key.KeyRefusal.{KeyRefusal}
use Rattle.passkey_explain_data.specs.declared.names.Names.{Names}

-- the error; and without one the name is among those before from now on
pub record ChecksName (repeated : CoseError) (names : List Item) (i : Item) (after : Names)
    (fault : Option CoseError) : Type 0 where
  pub value : fault ≡ name_fault_after repeated names i
  pub held : fault ≡ None → Holds after (names ++ i ∷ [])

-- the blame; and without one the label is among those before from now on
pub record ChecksPair (kty : Option ℤ) (n : ℕ) (earlier : Members) (m : Item × Item) (after : Names)
    (blame : Option KeyRefusal) : Type 0 where
  pub value : blame ≡ pair_blame kty n earlier m
  pub held : blame ≡ None → Holds after (labels_of (earlier ++ m ∷ []))
