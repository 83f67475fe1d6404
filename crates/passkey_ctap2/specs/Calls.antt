-- What the calls of a message return, by what contracts see of it, and by its members.
use Rattle.std.specs.Global.{Vec}
use Rattle.std.specs.Prelude.{◌≡◌, ℕ, Err, IfErr, IfOk, List, OnOk, Result}
use Rattle.passkey_kinds.specs.Words.{EachFits, Fields, GrowsMessage, IsWritable, Item, MayGrowAt, PlainTable, Reads, ReadsMessage, plain_tree, read_item, table_of, written}
use Rattle.passkey_kinds.specs.declared.fault.Fault.{Fault}
use Rattle.passkey_kinds.specs.declared.fault.Fault.TheVariants.{OutOfMemory}
use Rattle.passkey_kinds.specs.declared.fault.WriteFault.{WriteFault}
use Rattle.passkey_kinds.specs.declared.fault.WriteFault.TheVariants as fault

-- Decoding from bytes: the message with its length, or its fault. Memory may run out only for a member that
-- takes memory.
pub record ReadsSlice {A P : Type 0} (parts : A → P) (t : Fields P) (bytes : List ℕ) (result : Result (A × ℕ) Fault)
    : Type 0 where
  pub reads : ReadsMessage parts (read_item t) bytes result
  pub grows : result ≡ Err OutOfMemory → GrowsMessage t bytes

-- Decoding from a data item: the message, or its fault. Memory may run out only for such a member.
abbrev pub ReadsItem : {A P : Type 0} → (A → P) → Fields P → Item → Result A Fault → Type 0
ReadsItem parts t i result = Reads parts (MayGrowAt (table_of t) i) (read_item t i) result

-- Encoding: the encoding of the message's data item, if it can be encoded. Running out of memory is the only error.
pub record Writes {P : Type 0} (t : PlainTable P) (message : P) (result : Result (Vec ℕ) WriteFault) : Type 0 where
  pub bytes : IfOk result (λ b. b.items ≡ written (plain_tree t message))
  pub writable : OnOk result (IsWritable (plain_tree t message))
  pub fits : OnOk result (EachFits t.members message)
  pub memory : IfErr result (λ e. e ≡ fault.OutOfMemory)
