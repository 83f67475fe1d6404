-- Attestation statements by their formats: decoding, encoding, and the law of both (WebAuthn Level 3, section 8).
use Rattle.std.specs.Prelude.{◌≡◌, ℕ, Bool, true, not, List, [], map as each, if◌then◌else◌, Option, Some, None, Result, Ok, Err, codes}
use Rattle.std.specs.List.{All}
use Rattle.std.specs.Option.{option_and_then, is_some}
use Rattle.std.specs.Result.{result_map_both}
use Rattle.passkey_attestation.specs.Compound.{are_compound}
use Rattle.passkey_attestation.specs.Fault.{statement_fault}
use Rattle.passkey_attestation.specs.Formats.{format_name, format_named}
use Rattle.passkey_attestation.specs.Statements.{packed, tpm, android_key, safety_net, fido_u2f, apple, element, element_parts, ElementParts}
use Rattle.passkey_attestation.specs.declared.android_key.AndroidKeyStatement.{AndroidKeyStatement}
use Rattle.passkey_attestation.specs.declared.apple.AppleStatement.{AppleStatement}
use Rattle.passkey_attestation.specs.declared.fault.StatementFault.{StatementFault}
use Rattle.passkey_attestation.specs.declared.fault.StatementFault.TheVariants.{OutOfMemory, Member, NotEmpty, NotCompound}
use Rattle.passkey_attestation.specs.declared.fido_u2f.FidoU2fStatement.{FidoU2fStatement}
use Rattle.passkey_attestation.specs.declared.format.AttestationFormat.{AttestationFormat}
use Rattle.passkey_attestation.specs.declared.format.AttestationFormat.TheVariants as format
use Rattle.passkey_attestation.specs.declared.packed.PackedStatement.{PackedStatement}
use Rattle.passkey_attestation.specs.declared.safety_net.SafetyNetStatement.{SafetyNetStatement}
use Rattle.passkey_attestation.specs.declared.statement.AttestationStatement.{AttestationStatement}
use Rattle.passkey_attestation.specs.declared.statement.AttestationStatement.TheVariants as statement
use Rattle.passkey_attestation.specs.declared.tpm.TpmStatement.{TpmStatement}
use Rattle.passkey_cbor.specs.Item as item
use Rattle.passkey_kinds.specs.Kind.{list_from}
use Rattle.passkey_kinds.specs.Placed.{PlainTable, EachFits, fields_of, plain_kind, plain_tree}
use Rattle.passkey_kinds.specs.Record.{MayGrowAt, read_item, table_of}
use Rattle.passkey_kinds.specs.Tree.{list_tree, map_tree}
use Rattle.passkey_kinds.specs.Words.{Grows, Item, item_of}
use Rattle.passkey_kinds.specs.declared.fault.Fault.TheVariants.{NotAMap}

-- what contracts see of a statement
pub data StatementParts : Type 0 where
  packed_parts : PackedStatement → StatementParts
  tpm_parts : TpmStatement → StatementParts
  android_key_parts : AndroidKeyStatement → StatementParts
  safety_net_parts : SafetyNetStatement → StatementParts
  fido_u2f_parts : FidoU2fStatement → StatementParts
  none_parts : StatementParts
  apple_parts : AppleStatement → StatementParts
  compound_parts : List ElementParts → StatementParts
  other_parts : List ℕ → Item → StatementParts

abbrev pub statement_parts : AttestationStatement → StatementParts
statement_parts (statement.Packed s) = packed_parts s
statement_parts (statement.Tpm s) = tpm_parts s
statement_parts (statement.AndroidKey s) = android_key_parts s
statement_parts (statement.AndroidSafetyNet s) = safety_net_parts s
statement_parts (statement.FidoU2f s) = fido_u2f_parts s
statement_parts statement.None = none_parts
statement_parts (statement.Apple s) = apple_parts s
statement_parts (statement.Compound es) = compound_parts (each element_parts es)
statement_parts (statement.Other fmt i) = other_parts fmt (item_of i)

-- ---- decoding

-- a map, by its table
unfoldable pub read_map : {P : Type 0} → PlainTable P → Item → Result P StatementFault
read_map t i = result_map_both (λ r. r) statement_fault (read_item (fields_of t) i)

abbrev pub made_by : {P : Type 0} → (P → StatementParts) → Result P StatementFault → Result StatementParts StatementFault
made_by make r = result_map_both make (λ e. e) r

-- a map without members
abbrev pub read_none : Item → Result StatementParts StatementFault
read_none (item.map item.no_pairs) = Ok none_parts
read_none (item.map (item.pair k v ps)) = Err NotEmpty
read_none _ = Err (Member NotAMap)

abbrev pub compound_of : Option (List ElementParts) → Result (List ElementParts) StatementFault
compound_of None = Err NotCompound
compound_of (Some es) = if are_compound es then Ok es else Err NotCompound

unfoldable pub read_compound : Item → Result (List ElementParts) StatementFault
read_compound i = compound_of (list_from (plain_kind element) i)

abbrev pub read_known : AttestationFormat → Item → Result StatementParts StatementFault
read_known format.Packed i = made_by packed_parts (read_map packed i)
read_known format.Tpm i = made_by tpm_parts (read_map tpm i)
read_known format.AndroidKey i = made_by android_key_parts (read_map android_key i)
read_known format.AndroidSafetyNet i = made_by safety_net_parts (read_map safety_net i)
read_known format.FidoU2f i = made_by fido_u2f_parts (read_map fido_u2f i)
read_known format.None i = read_none i
read_known format.Apple i = made_by apple_parts (read_map apple i)
read_known format.Compound i = made_by compound_parts (read_compound i)

abbrev pub read_named : Option AttestationFormat → List ℕ → Item → Result StatementParts StatementFault
read_named (Some f) fmt i = read_known f i
read_named None fmt i = Ok (other_parts fmt i)

-- the statement of a format
abbrev pub read_statement : List ℕ → Item → Result StatementParts StatementFault
read_statement fmt i = read_named (format_named fmt) fmt i

-- memory may run out only for a known member that takes memory, and for what is kept
abbrev pub KnownGrows : AttestationFormat → Item → Type 0
KnownGrows format.Packed i = MayGrowAt (table_of (fields_of packed)) i
KnownGrows format.Tpm i = MayGrowAt (table_of (fields_of tpm)) i
KnownGrows format.AndroidKey i = MayGrowAt (table_of (fields_of android_key)) i
KnownGrows format.AndroidSafetyNet i = MayGrowAt (table_of (fields_of safety_net)) i
KnownGrows format.FidoU2f i = MayGrowAt (table_of (fields_of fido_u2f)) i
KnownGrows format.None i = ⊥
KnownGrows format.Apple i = MayGrowAt (table_of (fields_of apple)) i
KnownGrows format.Compound i = Grows i

abbrev pub NamedGrows : Option AttestationFormat → Item → Type 0
NamedGrows (Some f) i = KnownGrows f i
NamedGrows None i = Unit {0}

-- The result of decoding a statement: one whose view is the wanted one; the wanted fault; or
-- `OutOfMemory`, only if decoding may allocate memory.
abbrev pub ReadsStatement : {A M : Type 0} → (A → M) → Type 0 → Result M StatementFault → Result A StatementFault → Type 0
ReadsStatement view takes wanted (Ok x) = wanted ≡ Ok (view x)
ReadsStatement view takes wanted (Err OutOfMemory) = takes
ReadsStatement view takes wanted (Err e) = wanted ≡ Err e

-- ---- encoding

abbrev pub statement_name : StatementParts → List ℕ
statement_name (packed_parts s) = codes "packed"
statement_name (tpm_parts s) = codes "tpm"
statement_name (android_key_parts s) = codes "android-key"
statement_name (safety_net_parts s) = codes "android-safetynet"
statement_name (fido_u2f_parts s) = codes "fido-u2f"
statement_name none_parts = codes "none"
statement_name (apple_parts s) = codes "apple"
statement_name (compound_parts es) = codes "compound"
statement_name (other_parts fmt i) = fmt

abbrev pub statement_tree : StatementParts → Item
statement_tree (packed_parts s) = plain_tree packed s
statement_tree (tpm_parts s) = plain_tree tpm s
statement_tree (android_key_parts s) = plain_tree android_key s
statement_tree (safety_net_parts s) = plain_tree safety_net s
statement_tree (fido_u2f_parts s) = plain_tree fido_u2f s
statement_tree none_parts = map_tree []
statement_tree (apple_parts s) = plain_tree apple s
statement_tree (compound_parts es) = list_tree (plain_tree element) es
statement_tree (other_parts fmt i) = i

-- what holds of a statement that was encoded
abbrev pub StatementFits : StatementParts → Type 0
StatementFits (packed_parts s) = EachFits packed.members s
StatementFits (tpm_parts s) = EachFits tpm.members s
StatementFits (android_key_parts s) = EachFits android_key.members s
StatementFits (safety_net_parts s) = EachFits safety_net.members s
StatementFits (fido_u2f_parts s) = EachFits fido_u2f.members s
StatementFits none_parts = Unit {0}
StatementFits (apple_parts s) = EachFits apple.members s
StatementFits (compound_parts es) = All (EachFits element.members) es
StatementFits (other_parts fmt i) = Unit {0}

-- a compound statement is one, and another format isn't one of those above
abbrev pub is_statement_coherent : StatementParts → Bool
is_statement_coherent (compound_parts es) = are_compound es
is_statement_coherent (other_parts fmt i) = not (is_some (format_named fmt))
is_statement_coherent _ = true

-- The encoding of a coherent statement decodes, by its format, to the statement.
abbrev pub StatementsAreReadBack : Type 0
StatementsAreReadBack = (s : StatementParts) → StatementFits s → is_statement_coherent s ≡ true
    → read_statement (statement_name s) (statement_tree s) ≡ Ok s

-- A decoded statement is coherent, and its format is the one that it was decoded by.
abbrev pub DecodedIsCoherent : Type 0
DecodedIsCoherent = (fmt : List ℕ) (i : Item) (s : StatementParts) → read_statement fmt i ≡ Ok s
    → (is_statement_coherent s ≡ true) × (statement_name s ≡ fmt)
