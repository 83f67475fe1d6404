use Rattle.std.proofs.Common.{◌∙◌, ℕ, sym, subst}
use Rattle.std.specs.Prelude.{slice_index}
use Rattle.passkey_core.specs.DataFlags.{has_flag, attested_flag, extensions_flag}
use Rattle.passkey_view.specs.DataView.{IsMapAt, IsAttestedAt, IsWhere, following}
use Rattle.passkey_view.proofs.Parts.{same_after}
use Rattle.passkey_view.proofs.data_view.data_parts.Goals as goal

pub returns-in-None-extensions_where : goal.returns-in-None-extensions_where
returns-in-None-extensions_where c = λ v d.
    let bytes = c.args.bytes.now in
    let attested = subst (λ (n : ℕ). IsWhere (has_flag attested_flag n) (IsAttestedAt bytes) v.attested) d.flags
    d.attested in
    let same = same_after bytes _ v.attested c.in-Some.attested attested c.in-Some.ensures ∙ sym c.following.ensures in
    let extensions = subst (λ (n : ℕ). IsWhere (has_flag extensions_flag n) (IsMapAt bytes (following v.attested))
    v.extensions) d.flags d.extensions in
    c.in-None-extensions_where.ensures v.extensions
    (subst (λ (n : ℕ). IsWhere (has_flag extensions_flag (slice_index bytes 32)) (IsMapAt bytes n) v.extensions) same
    extensions)
