-- The output of decoding bytes as a data item, as authenticator data or as a message, and encoding the result, and
-- why there is none.
use Rattle.std.specs.Prelude.{◌≡◌, ℕ, List, Result, Ok, Err, ⊤}
use Rattle.passkey_cbor.specs.Item.{Item}
use Rattle.passkey_cbor.specs.LeadingItem.{IsLeadingItem, HasNoLeadingItem}
use Rattle.passkey_cbor.specs.Written.{written}
use Rattle.passkey_cose.specs.declared.error.CoseError.{CoseError}
use Rattle.passkey_cose.specs.declared.error.CoseError.TheVariants as error
use Rattle.passkey_core.specs.DataParts.{DataParts}
use Rattle.passkey_core.specs.DataReading.{ReadsData}
use Rattle.passkey_core.specs.DataWritten.{data_written}
use Rattle.passkey_kinds.specs.Message.{Begins}
use Rattle.passkey_kinds.specs.Record.{read_item}
use Rattle.passkey_kinds.specs.declared.fault.Fault.{Fault}
use Rattle.passkey_kinds.specs.declared.fault.Fault.TheVariants as message
use Rattle.passkey_rewrite.specs.Definition.{Definition, authenticator, item, message as as_message, other}
use Rattle.passkey_rewrite.specs.declared.fault.RunFault.{RunFault}
use Rattle.passkey_rewrite.specs.declared.fault.RunFault.TheVariants.{Refused, MessageRefused, OutOfMemory}

-- The encoding of the leading data item of the bytes.
pub record RewritesLeadingItem (bytes encoding : List ℕ) : Type 0 where
  pub front : Item
  pub len : ℕ
  pub begins : IsLeadingItem bytes front len
  pub rewritten : encoding ≡ written front

-- The encoding of the authenticator data that the bytes decode to.
pub record RewritesData (bytes encoding : List ℕ) : Type 0 where
  pub parts : DataParts
  pub reads : ReadsData bytes (Ok parts)
  pub rewritten : encoding ≡ data_written parts

-- The encoding of the message at the beginning of the bytes.
pub record RewritesMessage {P : Type 0} (read : Item → Result P Fault) (tree : P → Item) (bytes encoding : List ℕ) :
    Type 0 where
  pub parts : P
  pub begins : Begins bytes (λ i len. read i ≡ Ok parts)
  pub rewritten : encoding ≡ written (tree parts)

-- A data item of this length begins the bytes.
abbrev pub IsFrontLength : List ℕ → ℕ → Type 0
IsFrontLength bytes len = (x : Item) × IsLeadingItem bytes x len

-- the bytes have no leading data item
abbrev pub RefusesLeadingItem : List ℕ → CoseError → Type 0
RefusesLeadingItem bytes error.DecodeFailed = HasNoLeadingItem bytes
RefusesLeadingItem bytes _ = ⊥

-- the bytes have this fault as authenticator data
abbrev pub RefusesData : List ℕ → CoseError → Type 0
RefusesData bytes error.OutOfMemory = ⊥
RefusesData bytes refusal = ReadsData bytes (Err refusal)

-- the bytes have no leading data item, or it has this fault as a message
abbrev pub RefusesMessage : {P : Type 0} → (Item → Result P Fault) → List ℕ → Fault → Type 0
RefusesMessage read bytes message.DecodeFailed = HasNoLeadingItem bytes
RefusesMessage read bytes message.OutOfMemory = ⊥
RefusesMessage read bytes fault = Begins bytes (λ i len. read i ≡ Err fault)

-- why these bytes aren't decoded and encoded as a data item; memory may run out for any bytes
abbrev pub IsCborRefusal : List ℕ → RunFault → Type 0
IsCborRefusal bytes (Refused refusal) = RefusesLeadingItem bytes refusal
IsCborRefusal bytes OutOfMemory = ⊤
IsCborRefusal bytes _ = ⊥

-- the same for authenticator data
abbrev pub IsDataRefusal : List ℕ → RunFault → Type 0
IsDataRefusal bytes (Refused refusal) = RefusesData bytes refusal
IsDataRefusal bytes OutOfMemory = ⊤
IsDataRefusal bytes _ = ⊥

-- the same for a message
abbrev pub IsMessageRefusal : {P : Type 0} → (Item → Result P Fault) → List ℕ → RunFault → Type 0
IsMessageRefusal read bytes (MessageRefused fault) = RefusesMessage read bytes fault
IsMessageRefusal read bytes OutOfMemory = ⊤
IsMessageRefusal read bytes _ = ⊥

-- ---- by what the bytes are

-- what decoding the bytes and encoding the result returns; the first argument says it of another form
abbrev pub RewritesAs : {O : Type 0} → (O → List ℕ → List ℕ → Type 0) → Definition O → List ℕ → List ℕ → Type 0
RewritesAs others item = RewritesLeadingItem
RewritesAs others authenticator = RewritesData
RewritesAs others (as_message t tree) = RewritesMessage (read_item t) tree
RewritesAs others (other o) = others o

-- why the bytes aren't decoded and encoded
abbrev pub IsRefusalAs : {O : Type 0} → (O → List ℕ → RunFault → Type 0) → Definition O → List ℕ → RunFault → Type 0
IsRefusalAs others item = IsCborRefusal
IsRefusalAs others authenticator = IsDataRefusal
IsRefusalAs others (as_message t tree) = IsMessageRefusal (read_item t)
IsRefusalAs others (other o) = others o
