use Rattle.std.proofs.Common.{rules, ◌≡◌, ◌∙◌, ap, ℕ, List, true, Option, Ok, Err, option_map, Bor, sym}
use Rattle.std.proofs.lemmas.Result.{err_from_is_err_and}
use Rattle.passkey_cbor.specs.Bytes.{IsBytes}
use Rattle.passkey_cbor.specs.Item.{Item}
use Rattle.passkey_cbor.specs.View.{item_of}
use Rattle.passkey_cbor.specs.declared.value.Value.{Value}
use Rattle.passkey_core.specs.declared.attested.data.AttestedCredentialData.{AttestedCredentialData}
use Rattle.passkey_core.specs.declared.authenticator_data.AuthenticatorData.{AuthenticatorData}
use Rattle.passkey_core.specs.DataFixed.{fixed_parts}
use Rattle.passkey_core.specs.DataParts.{AttestedParts, DataParts}
use Rattle.passkey_core.specs.DataReading.{Begun, fixed_at, AttestedGrows, DataGrows}
use Rattle.passkey_core.specs.DataFlags.{attested_flag, has_flag}
use Rattle.passkey_core.specs.DataViews.{attested_parts, data_parts}
use Rattle.passkey_core.proofs.DataReadings.{fixed_fails, extensions_fail}
use Rattle.passkey_core.proofs.DataTotals.{totals_fixed, totals_attested, totals}
use Rattle.passkey_core.proofs.authenticator_data.reading.read_front.Goals as goal

abbrev front_of : DataParts → List ℕ → Begun DataParts
front_of d last = Ok (d, last)

abbrev front_view : AuthenticatorData × Bor (List ℕ) → DataParts × List ℕ
front_view r = (data_parts r.0, r.1.now)

abbrev attested_view : Option AttestedCredentialData × Bor (List ℕ) → Option AttestedParts × List ℕ
attested_view r = (option_map attested_parts r.0, r.1.now)

abbrev extensions_view : Option Value × Bor (List ℕ) → Option Item × List ℕ
extensions_view r = (option_map item_of r.0, r.1.now)

-- ---- fewer than 37 bytes, or reserved flags

pub returns-in_err-fixed-clause-value : goal.returns-in_err-fixed-clause-value
returns-in_err-fixed-clause-value c =
    let told : c.from_residual.result ≡ Err c.in_err-fixed.field-0.0 = search rules in
    let fails : fixed_at c.args.bytes.now ≡ Err c.in_err-fixed.field-0.0 = sym c.in_err-fixed.ensures in
    rw told (fixed_fails front_of (DataGrows c.args.bytes.now) front_view c.args.bytes.now c.in_err-fixed.field-0.0 fails)

pub returns-in_err-fixed-clause-counts : goal.returns-in_err-fixed-clause-counts
returns-in_err-fixed-clause-counts c =
    let told : c.from_residual.result ≡ Err c.in_err-fixed.field-0.0 = search rules in
    rw told (totals_fixed c.args.bytes.now c.in_err-fixed.field-0.0 c.args.count.now (sym c.in_err-fixed.ensures))

-- ---- an error in attested credential data

pub returns-in_err-attested-clause-counts : goal.returns-in_err-attested-clause-counts
returns-in_err-attested-clause-counts c =
    let p = err_from_is_err_and c.from_residual-in_err-attested.result c.from_residual-in_err-attested.ensures.1 in
    let told : c.from_residual-in_err-attested.result ≡ Err c.in_err-attested.field-0.0 = p.1 ∙ ap Err p.2 in
    let fits : IsBytes c.args.bytes.now = search rules in
    rw told (totals_attested ((has_flag attested_flag c.in_ok-fixed.fixed.flags.0 ≡ true)
    × AttestedGrows c.in_ok-fixed.rest.now) attested_view c.args.bytes.now (fixed_parts c.in_ok-fixed.fixed)
    c.in_ok-fixed.rest.now c.in_err-attested.field-0.0 c.args.count.now c.read_attested_where.new.count fits
    c.in_ok-fixed.ensures c.in_err-attested.ensures.there c.in_err-attested.ensures.value
    c.in_err-attested.ensures.counts)

-- ---- an error in the extensions

pub returns-in-Err-clause-value : goal.returns-in-Err-clause-value
returns-in-Err-clause-value c =
    extensions_fail front_of front_view extensions_view c.args.bytes.now (fixed_parts c.in_ok-fixed.fixed)
    c.in_ok-fixed.rest.now (option_map attested_parts c.in_ok-attested.attested) c.in_ok-attested.rest.now
    c.in-Err.e c.in_ok-fixed.ensures c.in_ok-attested.ensures.value c.in-Err.ensures.value

pub returns-in-Err-clause-counts : goal.returns-in-Err-clause-counts
returns-in-Err-clause-counts c =
    totals c.args.bytes.now (fixed_parts c.in_ok-fixed.fixed) c.in_ok-fixed.rest.now
    (option_map attested_parts c.in_ok-attested.attested) c.in_ok-attested.attested c.in_ok-attested.rest
    c.args.count.now c.read_attested_where.new.count c.read_extensions_where.new.count (Err c.in-Err.e) _
    (λ P p. p) c.in_ok-fixed.ensures c.in_ok-attested.ensures.value c.in_ok-attested.ensures.counts
    c.in-Err.ensures.counts

-- ---- no error

pub returns-clause-counts : goal.returns-clause-counts
returns-clause-counts c =
    totals c.args.bytes.now (fixed_parts c.in_ok-fixed.fixed) c.in_ok-fixed.rest.now
    (option_map attested_parts c.in_ok-attested.attested) c.in_ok-attested.attested c.in_ok-attested.rest
    c.args.count.now c.read_attested_where.new.count c.read_extensions_where.new.count (Ok c.in-Ok.parts) _
    (λ P p. p) c.in_ok-fixed.ensures c.in_ok-attested.ensures.value c.in_ok-attested.ensures.counts
    c.in-Ok.ensures.counts
