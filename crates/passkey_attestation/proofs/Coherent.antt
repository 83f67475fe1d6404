-- A decoded statement is coherent, and has the format that it was decoded by.
use Rattle.std.proofs.Common.{◌≡◌, ◌∙◌, ℕ, Bool, true, false, List, [], ◌∷◌, Option, Some, None, Result, Ok, Err, refl, sym, ap, subst, codes}
use Rattle.std.specs.Str.{bytes_eq}
use Rattle.std.proofs.lemmas.Slice.Eq.{bytes_eq-Decides}
use Rattle.passkey_attestation.specs.Compound.{are_compound}
use Rattle.passkey_attestation.specs.Formats.{formats, format_name, format_named}
use Rattle.passkey_attestation.specs.Statement.{DecodedIsCoherent, StatementParts, made_by, read_map, read_none, read_compound, read_known, read_named, compound_of, statement_name, is_statement_coherent}
use Rattle.passkey_attestation.specs.Statement.StatementParts.{packed_parts, tpm_parts, android_key_parts, safety_net_parts, fido_u2f_parts, none_parts, apple_parts, compound_parts, other_parts}
use Rattle.passkey_attestation.specs.Statements.{ElementParts, element}
use Rattle.passkey_attestation.specs.declared.fault.StatementFault.{StatementFault}
use Rattle.passkey_attestation.specs.declared.format.AttestationFormat.{AttestationFormat}
use Rattle.passkey_attestation.specs.declared.format.AttestationFormat.TheVariants as format
use Rattle.passkey_cbor.specs.Item as item
use Rattle.passkey_kinds.specs.Kind.{list_from}
use Rattle.passkey_kinds.specs.Placed.{plain_kind}
use Rattle.passkey_kinds.specs.Words.{Item}
use Rattle.passkey_webauthn.specs.Names.{Names, value_in}

-- coherent, and of this format
abbrev Holds : List ℕ → StatementParts → Type 0
Holds name s = (is_statement_coherent s ≡ true) × (statement_name s ≡ name)

of_map : {P : Type 0} (name : List ℕ) (make : P → StatementParts) → ((x : P) → Holds name (make x))
    → (r : Result P StatementFault) (s : StatementParts) → made_by make r ≡ Ok s → Holds name s
of_map name make all (Ok x) s e = let same : make x ≡ s = cc in subst (λ (t : StatementParts). Holds name t) same (all x)
of_map name make all (Err f) s e = absurd cc

of_none : (i : Item) (s : StatementParts) → read_none i ≡ Ok s → Holds (codes "none") s
of_none (item.map item.no_pairs) s e =
    let same : none_parts ≡ s = cc in subst (λ (t : StatementParts). Holds (codes "none") t) same (refl, refl)
of_none _ s e = absurd cc

whole : (o : Option (List ElementParts)) (es : List ElementParts) → compound_of o ≡ Ok es → are_compound es ≡ true
whole None es e = absurd cc
whole (Some xs) es e = by_case (are_compound xs) refl where
  by_case : (b : Bool) → are_compound xs ≡ b → are_compound es ≡ true
  by_case true is = let same : xs ≡ es = cc (rw is at e) in subst (λ (t : List ElementParts). are_compound t ≡ true) same is
  by_case false is = absurd (cc (rw is at e))

of_compound : (r : Result (List ElementParts) StatementFault) → ((es : List ElementParts) → r ≡ Ok es
    → are_compound es ≡ true) → (s : StatementParts) → made_by compound_parts r ≡ Ok s → Holds (codes "compound") s
of_compound (Ok es) all s e = let same : compound_parts es ≡ s = cc in
    subst (λ (t : StatementParts). Holds (codes "compound") t) same (all es refl, refl)
of_compound (Err f) all s e = absurd cc

compound_whole : (i : Item) (es : List ElementParts) → read_compound i ≡ Ok es → are_compound es ≡ true
unfolding read_compound
compound_whole i es e = whole (list_from (plain_kind element) i) es e

of_known : (f : AttestationFormat) (i : Item) (s : StatementParts) → read_known f i ≡ Ok s → Holds (format_name f) s
of_known format.Packed i s e = of_map _ packed_parts (λ x. (refl, refl)) _ s e
of_known format.Tpm i s e = of_map _ tpm_parts (λ x. (refl, refl)) _ s e
of_known format.AndroidKey i s e = of_map _ android_key_parts (λ x. (refl, refl)) _ s e
of_known format.AndroidSafetyNet i s e = of_map _ safety_net_parts (λ x. (refl, refl)) _ s e
of_known format.FidoU2f i s e = of_map _ fido_u2f_parts (λ x. (refl, refl)) _ s e
of_known format.None i s e = of_none i s e
of_known format.Apple i s e = of_map _ apple_parts (λ x. (refl, refl)) _ s e
of_known format.Compound i s e = of_compound (read_compound i) (compound_whole i) s e

-- each name is its value's
abbrev AllOwn : Names AttestationFormat → Type 0
AllOwn [] = Unit {0}
AllOwn (n ∷ ns) = (format_name n.1 ≡ n.0) × AllOwn ns

name_in_table : (ns : Names AttestationFormat) → AllOwn ns → (name : List ℕ) (f : AttestationFormat)
    → value_in ns name ≡ Some f → format_name f ≡ name
name_in_table [] own name f e = absurd cc
name_in_table (n ∷ ns) own name f e =
    by_case (bytes_eq n.0 name) refl (λ e. name_in_table ns own.1 name f e) where
      by_case : (b : Bool) → bytes_eq n.0 name ≡ b → (value_in ns name ≡ Some f → format_name f ≡ name)
          → format_name f ≡ name
      by_case true is again =
          let same : n.1 ≡ f = cc (rw is at e) in
          ap format_name (sym same) ∙ own.0 ∙ (bytes_eq-Decides n.0 name).0 is
      by_case false is again = again (rw is at e)

-- a name that has a value is the value's name
name_of : (name : List ℕ) (f : AttestationFormat) → value_in formats name ≡ Some f → format_name f ≡ name
name_of = name_in_table formats (refl, (refl, (refl, (refl, (refl, (refl, (refl, (refl, tt))))))))

of_named : (o : Option AttestationFormat) (fmt : List ℕ) (i : Item) (s : StatementParts) → format_named fmt ≡ o
    → read_named o fmt i ≡ Ok s → Holds fmt s
of_named (Some f) fmt i s is e =
    subst (λ (n : List ℕ). Holds n s) (name_of fmt f is) (of_known f i s e)
of_named None fmt i s is e = let same : other_parts fmt i ≡ s = cc in
    subst (λ (t : StatementParts). Holds fmt t) same (rw is refl, refl)

pub decoded_is_coherent : DecodedIsCoherent
decoded_is_coherent fmt i s e = of_named (format_named fmt) fmt i s refl e
