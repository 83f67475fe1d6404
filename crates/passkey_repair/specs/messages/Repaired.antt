-- Repaired data items, and messages that are decoded from them.
use Rattle.passkey_cbor.specs.Item.{Item}
use Rattle.passkey_kinds.specs.Record.{Fields, read_item}
use Rattle.passkey_kinds.specs.Message.{ReadsMessage}
use Rattle.passkey_kinds.specs.declared.fault.Fault.{Fault}
use Rattle.passkey_kinds.specs.declared.fault.Fault.TheVariants.{OutOfMemory}
use Rattle.passkey_repair.specs.messages.Edit.{Edit, edited}
use Rattle.std.specs.Prelude.{Err, List, None, Ok, Option, Result, Some, [], if◌then◌else◌, is_ok, unwrap_or, ℕ, ◌∷◌}

-- A repaired item, and the edits that fitted, in their order.
pub record Repaired : Type 0 where
  pub item : Item
  pub edits : List Edit

abbrev pub unchanged : Item → Repaired
unchanged i = record { item = i; edits = [] }

-- the edit before those after it, if it fitted
abbrev pub with_edit : Edit → Option Item → Repaired → Repaired
with_edit e None r = r
with_edit e (Some i) r = record { item = r.item; edits = e ∷ r.edits }

-- Each edit in turn, where it fits what those before it made of the item.
abbrev pub repaired : List Edit → Item → Repaired
repaired [] i = unchanged i
repaired (e ∷ es) i = with_edit e (edited e i) (repaired es (unwrap_or (edited e i) i))

-- an item that the table accepts is left as it is
abbrev pub repaired_for : {P : Type 0} → Fields P → List Edit → Item → Repaired
repaired_for t edits i = if is_ok (read_item t i) then unchanged i else repaired edits i

-- ---- messages decoded from repaired items

abbrev pub with_edits : {P : Type 0} → List Edit → Result P Fault → Result (P × List Edit) Fault
with_edits edits (Ok p) = Ok (p, edits)
with_edits edits (Err e) = Err e

abbrev pub read_repaired : {P : Type 0} → Fields P → Repaired → Result (P × List Edit) Fault
read_repaired t r = with_edits r.edits (read_item t r.item)

-- the message that a repaired item decodes to, with the edits, or the fault of the repaired item
abbrev pub read_lenient : {P : Type 0} → Fields P → List Edit → Item → Result (P × List Edit) Fault
read_lenient t edits i = read_repaired t (repaired_for t edits i)

-- The result of decoding a message leniently from bytes: as `ReadsMessage`, but memory may run out for any bytes.
abbrev pub ReadsLeniently : {A M : Type 0} → (A → M) → (Item → Result M Fault) → List ℕ → Result (A × ℕ) Fault
    → Type 0
ReadsLeniently view read bytes (Err OutOfMemory) = Unit {0}
ReadsLeniently view read bytes result = ReadsMessage view read bytes result
