-- The labels or operations that occurred before.
use Rattle.std.specs.Prelude.{List, true}
use Rattle.passkey_cbor.specs.Item.{Item}
use Rattle.passkey_cose.specs.Seen.{HoldsNames}
use Rattle.passkey_explain_data.specs.declared.names.Names.{Names}

-- the sets have exactly the numbers and the texts among the names
abbrev pub Holds : Names → List Item → Type 0
Holds held names = HoldsNames (record { numbers = held.numbers; texts = held.texts; is_whole = true }) names
