-- Laws of repairs.
use Rattle.passkey_cbor.specs.Item.{Item}
use Rattle.passkey_kinds.specs.Message.{ReadsMessage}
use Rattle.passkey_kinds.specs.Record.{Fields, read_item}
use Rattle.passkey_kinds.specs.declared.fault.Fault.{Fault}
use Rattle.passkey_kinds.specs.declared.fault.Fault.TheVariants.{OutOfMemory}
use Rattle.passkey_repair.specs.messages.Edit.{Edit, edited}
use Rattle.passkey_repair.specs.messages.Repaired.{ReadsLeniently, read_lenient, repaired, repaired_for, unchanged}
use Rattle.passkey_repair.specs.messages.Views.{lenient_view}
use Rattle.passkey_repair.specs.declared.messages.lenient.Lenient.{Lenient}
use Rattle.std.specs.List.{AllByRecursion}
use Rattle.std.specs.Option.{option_and_then}
use Rattle.std.specs.Prelude.{Err, List, None, Ok, Option, Some, [], ◌↔◌, ◌∷◌, ◌≡◌, ℕ}

-- An item that the table accepts is returned as it is, with no edit, and decodes to the same message.
abbrev pub AcceptedIsUnchanged : {P : Type 0} → Fields P → List Edit → Type 0
AcceptedIsUnchanged {P} t edits = (i : Item) (p : P) → read_item t i ≡ Ok p
    → (repaired_for t edits i ≡ unchanged i) × (read_lenient t edits i ≡ Ok (p, []))

-- Bytes that are decoded as a message are decoded leniently as the same message, with the same length and no edit.
abbrev pub DecodedDecodeAlike : {A P : Type 0} → (A → P) → Fields P → List Edit → Type 0
DecodedDecodeAlike {A} parts t edits = (bytes : List ℕ) (m : A) (n : ℕ) (l : Lenient A) (k : ℕ)
    → ReadsMessage parts (read_item t) bytes (Ok (m, n))
    → ReadsLeniently (lenient_view parts) (read_lenient t edits) bytes (Ok (l, k))
    → (lenient_view parts l ≡ (parts m, [])) × (k ≡ n)

-- Then they aren't refused either: memory is all that may run out.
abbrev pub DecodedIsNotRefused : {A P : Type 0} → (A → P) → Fields P → List Edit → Type 0
DecodedIsNotRefused {A} parts t edits = (bytes : List ℕ) (m : A) (n : ℕ) (e : Fault)
    → ReadsMessage parts (read_item t) bytes (Ok (m, n))
    → ReadsLeniently (lenient_view parts) (read_lenient t edits) bytes (Err e) → e ≡ OutOfMemory

-- what these edits make of the item, applied in turn; `None` if one of them doesn't fit
abbrev pub applied : List Edit → Item → Option Item
applied [] i = Some i
applied (e ∷ es) i = option_and_then (applied es) (edited e i)

-- The repaired item is what the listed edits make of the item, applied in turn.
abbrev pub ListIsWhatWasDone : Type 0
ListIsWhatWasDone = (edits : List Edit) (i : Item) → applied (repaired edits i).edits i ≡ Some (repaired edits i).item

-- No edit is listed exactly if none fits the item.
abbrev pub NoneIsListedIfNoneFits : Type 0
NoneIsListedIfNoneFits = (edits : List Edit) (i : Item)
    → ((repaired edits i).edits ≡ []) ↔ AllByRecursion (λ (e : Edit). edited e i ≡ None) edits
