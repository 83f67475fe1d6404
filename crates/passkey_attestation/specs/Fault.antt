-- Why an attestation statement was not decoded.
use Rattle.std.specs.Prelude.{ℕ, List, codes}
use Rattle.passkey_attestation.specs.declared.fault.StatementFault.{StatementFault}
use Rattle.passkey_attestation.specs.declared.fault.StatementFault.TheVariants.{OutOfMemory, Member, NotEmpty, NotCompound}
use Rattle.passkey_kinds.specs.Message.{fault_name}
use Rattle.passkey_kinds.specs.declared.fault.Fault.{Fault}
use Rattle.passkey_kinds.specs.declared.fault.Fault.TheVariants as fault

-- the fault of a map
abbrev pub statement_fault : Fault → StatementFault
statement_fault fault.OutOfMemory = OutOfMemory
statement_fault f = Member f

abbrev pub statement_fault_name : StatementFault → List ℕ
statement_fault_name OutOfMemory = codes "OutOfMemory"
statement_fault_name (Member f) = fault_name f
statement_fault_name NotEmpty = codes "NotEmpty"
statement_fault_name NotCompound = codes "NotCompound"
