-- The results of adding a part to a key.
use Rattle.std.specs.Prelude.{◌≡◌, Bool, false, ◌||◌, if◌then◌else◌, List, [], ◌∷◌, map, Option, Some, None, Result, Ok, Err}
use Rattle.std.specs.List.{list_any}
use Rattle.passkey_cbor.specs.Item.{Item}
use Rattle.passkey_cbor.specs.Same.{item_eq}
use Rattle.passkey_memory.specs.Memory.{Fails, unless}
use Rattle.passkey_cose.specs.CoseErrors.{is_memory}
use Rattle.passkey_cose.specs.Key.{key_parts}
use Rattle.passkey_cose.specs.KeyLabels.{Members, is_common, has_label}
use Rattle.passkey_cose.specs.KeyParts.{KeyParts, op_item}
use Rattle.passkey_cose.specs.Registered.{Named}
use Rattle.passkey_cose.specs.declared.error.CoseError.{CoseError}
use Rattle.passkey_cose.specs.declared.error.CoseError.TheVariants.{DuplicateMapKey, UnexpectedItem}
use Rattle.passkey_cose.specs.declared.key.CoseKey.{CoseKey}
use Rattle.passkey_cose.specs.declared.refused.RefusedKey.{RefusedKey}
use Rattle.passkey_iana.specs.declared.key_operation.KeyOperation.{KeyOperation}

abbrev pub has_repeat : List Item → Bool
has_repeat [] = false
has_repeat (x ∷ xs) = list_any (item_eq x) xs || has_repeat xs

-- there must be an operation, and no two that are written alike
abbrev pub key_ops_fault : List (Named KeyOperation) → Option CoseError
key_ops_fault [] = Some UnexpectedItem
key_ops_fault (o ∷ os) = if has_repeat (map op_item (o ∷ os)) then Some UnexpectedItem else None

-- the label must not be a common parameter's, nor occur in the key already
abbrev pub param_fault : Members → Item → Option CoseError
param_fault params label = if is_common label || has_label params label then Some DuplicateMapKey else None

-- the key with the part if there is no fault; else the fault, and the key unchanged
abbrev pub Becomes : KeyParts → Option CoseError → KeyParts → Result CoseKey RefusedKey → Type 0
Becomes before fault after (Ok key) = (fault ≡ None) × (key_parts key ≡ after)
Becomes before fault after (Err refused) = (fault ≡ Some refused.error) × (key_parts refused.key ≡ before)

-- the same, or out of memory if there is no fault, and the key unchanged
abbrev pub BecomesOrRunsOut : KeyParts → Option CoseError → KeyParts → Result CoseKey RefusedKey → Type 0
BecomesOrRunsOut before fault after (Ok key) = (fault ≡ None) × (key_parts key ≡ after)
BecomesOrRunsOut before fault after (Err refused) =
    Fails is_memory (λ _. Unit {0}) (unless fault after) refused.error × (key_parts refused.key ≡ before)
