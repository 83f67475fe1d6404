-- What bytes are decoded as.
use Rattle.passkey_kinds.specs.Base.{Item}
use Rattle.passkey_kinds.specs.Record.{Fields}

-- A data item; authenticator data; the message of a table, with the data item that it is encoded as; or something else.
pub data Definition (Other : Type 0) : Type 1 where
  item : Definition Other
  authenticator : Definition Other
  message : {P : Type 0} → Fields P → (P → Item) → Definition Other
  other : Other → Definition Other
