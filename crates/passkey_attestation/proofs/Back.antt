-- The encoding of a coherent statement decodes, by its format, to the statement.
use Rattle.std.proofs.Common.{◌≡◌, ◌∙◌, Bool, true, false, List, [], Option, Some, None, Result, Ok, refl, sym, ap}
use Rattle.std.specs.Result.{result_map_both}
use Rattle.passkey_attestation.proofs.Statements.{packed_law, tpm_law, android_key_law, safety_net_law, fido_u2f_law, apple_law, element_kind_back}
use Rattle.passkey_attestation.specs.Compound.{are_compound}
use Rattle.passkey_attestation.specs.Fault.{statement_fault}
use Rattle.passkey_attestation.specs.Formats.{format_named}
use Rattle.passkey_attestation.specs.Statement.{StatementParts, StatementFits, made_by, read_map, read_compound, read_named, read_statement, statement_name, statement_tree, is_statement_coherent, compound_of}
use Rattle.passkey_attestation.specs.Statement.StatementParts.{packed_parts, tpm_parts, android_key_parts, safety_net_parts, fido_u2f_parts, none_parts, apple_parts, compound_parts, other_parts}
use Rattle.passkey_attestation.specs.declared.format.AttestationFormat.{AttestationFormat}
use Rattle.passkey_kinds.proofs.Keeping.{ok_of}
use Rattle.passkey_kinds.proofs.LeafBack.{list_same}
use Rattle.passkey_kinds.proofs.Steps.{IsReadBack, EachFits, fields_of}
use Rattle.passkey_kinds.specs.Placed.{PlainTable, plain_kind, plain_tree}
use Rattle.passkey_kinds.specs.Record.{read_item}

map_back : {P : Type 0} (t : PlainTable P) → IsReadBack (plain_kind t) (plain_tree t) (EachFits t.members) (λ r. r)
    → (make : P → StatementParts) (r : P) → EachFits t.members r → made_by make (read_map t (plain_tree t r)) ≡ Ok (make r)
unfolding read_map
map_back t law make r fits =
    ap (λ x. made_by make (result_map_both (λ r. r) statement_fault x))
    (ok_of (read_item (fields_of t) (plain_tree t r)) r (law.back r fits))

compound_back : (es : List _) → StatementFits (compound_parts es) → are_compound es ≡ true
    → made_by compound_parts (read_compound (statement_tree (compound_parts es))) ≡ Ok (compound_parts es)
unfolding read_compound
compound_back es fits whole =
    ap (λ x. made_by compound_parts (compound_of x)) ((list_same element_kind_back).back es fits) ∙ rw whole refl

other_back : (f : Option AttestationFormat) (fmt : List _) (i : _) → is_statement_coherent (other_parts fmt i) ≡ true
    → format_named fmt ≡ f → read_named f fmt i ≡ Ok (other_parts fmt i)
other_back None fmt i coherent is = refl
other_back (Some f) fmt i coherent is = absurd (cc)

pub statement_back : (s : StatementParts) → StatementFits s → is_statement_coherent s ≡ true
    → read_statement (statement_name s) (statement_tree s) ≡ Ok s
statement_back (packed_parts s) fits coherent = map_back _ packed_law.back packed_parts s fits
statement_back (tpm_parts s) fits coherent = map_back _ tpm_law.back tpm_parts s fits
statement_back (android_key_parts s) fits coherent = map_back _ android_key_law.back android_key_parts s fits
statement_back (safety_net_parts s) fits coherent = map_back _ safety_net_law.back safety_net_parts s fits
statement_back (fido_u2f_parts s) fits coherent = map_back _ fido_u2f_law.back fido_u2f_parts s fits
statement_back none_parts fits coherent = refl
statement_back (apple_parts s) fits coherent = map_back _ apple_law.back apple_parts s fits
statement_back (compound_parts es) fits coherent = compound_back es fits coherent
statement_back (other_parts fmt i) fits coherent = other_back (format_named fmt) fmt i coherent refl
