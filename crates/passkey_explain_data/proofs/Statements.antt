-- What is blamed in a statement is in it, and where it is encoded.
use Rattle.std.proofs.Common.{◌≡◌, ℕ, ◌+◌, nat_lt, true, false, if◌then◌else◌, List, length, Option, Some, None, is_some, refl, sym, subst}
use Rattle.std.specs.Option.{IsSome}
use Rattle.passkey_attestation.specs.Statements.{packed, tpm, android_key, safety_net, fido_u2f, apple, element, ElementParts}
use Rattle.passkey_attestation.specs.declared.format.AttestationFormat.{AttestationFormat}
use Rattle.passkey_attestation.specs.declared.format.AttestationFormat.TheVariants as format
use Rattle.passkey_cbor.specs.Item as item
use Rattle.passkey_cbor.specs.LeadingItem.{IsLeadingItem}
use Rattle.passkey_explain.proofs.BlameLaws.{inside}
use Rattle.passkey_explain.proofs.Explaining.{located, there}
use Rattle.passkey_explain.specs.Along.{LiesAlong, IsLocated}
use Rattle.passkey_explain.specs.Blame.{item_along}
use Rattle.passkey_explain.specs.declared.along.Extent.{Extent}
use Rattle.passkey_explain_data.specs.StatementBlame.{StatementBlame, blame_of_statement, compound_blame_by, nested_compound, none_blame, path_to, statement_blame, too_few}
use Rattle.passkey_explain_data.specs.declared.statement.StatementBlame.{StatementBlame as CodeBlame}
use Rattle.passkey_kinds.specs.Kind.{list_from}
use Rattle.passkey_kinds.specs.RecordReading.{nested, shape_of}
use Rattle.passkey_kinds.specs.Typed.{list_shape}
use Rattle.passkey_kinds.specs.Words.{Item, fields_of, plain_kind}

-- the steps lead to something in the item
abbrev IsThere : Item → StatementBlame → Type 0
IsThere i b = is_some (item_along (path_to b) i) ≡ true

none_there : (i : Item) → IsThere i (none_blame i)
none_there (item.map ps) = refl
none_there _ = refl

compound_there : (o : Option (List ElementParts)) (i : Item) → IsThere i (compound_blame_by o i)
compound_there None i = inside (list_shape (nested (fields_of element))) i
compound_there (Some es) i = elim (nat_lt (length es) 2)
    as (λ b. IsThere i (if b then too_few else nested_compound)) [ true ↦ refl | false ↦ refl ]

blame_there : (f : AttestationFormat) (i : Item) → IsThere i (statement_blame f i)
blame_there format.Packed i = inside (shape_of (fields_of packed)) i
blame_there format.Tpm i = inside (shape_of (fields_of tpm)) i
blame_there format.AndroidKey i = inside (shape_of (fields_of android_key)) i
blame_there format.AndroidSafetyNet i = inside (shape_of (fields_of safety_net)) i
blame_there format.FidoU2f i = inside (shape_of (fields_of fido_u2f)) i
blame_there format.None i = none_there i
blame_there format.Apple i = inside (shape_of (fields_of apple)) i
blame_there format.Compound i = compound_there (list_from (plain_kind element) i) i

module _ (f : AttestationFormat) (i : Item) (bytes : List ℕ) (len : ℕ) (front : IsLeadingItem bytes i len)
    (b : CodeBlame) (is : blame_of_statement b ≡ statement_blame f i) (found : Option Extent)
    (locates : (x part : Item) (n : ℕ) → IsLeadingItem bytes x n → item_along (path_to (blame_of_statement b)) x ≡ Some part
    → IsLocated (path_to (blame_of_statement b)) x bytes found) where
  -- where the steps lead to what the statement blames
  statement_located : IsLocated (path_to (blame_of_statement b)) i bytes found
  statement_located =
      let inside : is_some (item_along (path_to (blame_of_statement b)) i) ≡ true =
      subst (IsThere i) (sym is) (blame_there f i) in
      let part = there (item_along (path_to (blame_of_statement b)) i) inside in
      locates i part.0 len front part.1

  pub statement_found : IsSome found
  statement_found = located (path_to (blame_of_statement b)) i bytes found statement_located

  pub statement_lies : (e : Extent) → found ≡ Some e
      → LiesAlong (path_to (statement_blame f i)) i bytes 0 e.offset (e.offset + e.len)
  statement_lies e some =
      let at : IsLocated (path_to (blame_of_statement b)) i bytes (Some e) =
      subst (IsLocated (path_to (blame_of_statement b)) i bytes) some statement_located in
      subst (λ (x : StatementBlame). LiesAlong (path_to x) i bytes 0 e.offset (e.offset + e.len)) is at
