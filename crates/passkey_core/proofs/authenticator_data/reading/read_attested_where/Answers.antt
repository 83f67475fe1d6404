use Rattle.std.proofs.Common.{rules, ◌≡◌, ℕ, List, true, Option, Err, option_map, Bool, Bor}
use Rattle.passkey_core.specs.DataFlags.{attested_flag, has_flag}
use Rattle.passkey_core.specs.DataViews.{attested_parts}
use Rattle.passkey_core.specs.declared.attested.data.AttestedCredentialData.{AttestedCredentialData}
use Rattle.passkey_core.specs.DataReading.{ReadsAttested, ReadsWhere, AttestedGrows}
use Rattle.passkey_core.proofs.DataReadings.{gives_fault, part_stands, part_fails}
use Rattle.passkey_core.proofs.authenticator_data.reading.read_attested_where.Goals as goal

pub returns-in_err-attested-clause-value : goal.returns-in_err-attested-clause-value
returns-in_err-attested-clause-value c =
    let is_there : Bool = has_flag attested_flag c.args.flags.0 in
    let there : is_there ≡ true = search rules in
    let told : c.from_residual.result ≡ Err c.in_err-attested.field-0.0 = search rules in
    rw told (gives_fault (AttestedGrows c.args.bytes.now) ((is_there ≡ true) × AttestedGrows c.args.bytes.now)
    (λ (r : AttestedCredentialData × Bor (List ℕ)). (attested_parts r.0, r.1.now))
    (λ (r : Option AttestedCredentialData × Bor (List ℕ)). (option_map attested_parts r.0, r.1.now))
    (ReadsAttested c.args.bytes.now) (ReadsWhere is_there ReadsAttested c.args.bytes.now)
    (λ grows. (there, grows)) (part_fails ReadsAttested is_there c.args.bytes.now there)
    c.in_err-attested.field-0.0 c.in_err-attested.ensures.value)

pub returns-clause-value : goal.returns-clause-value
returns-clause-value c =
    let is_there : Bool = has_flag attested_flag c.args.flags.0 in
    let there : is_there ≡ true = search rules in
    part_stands ReadsAttested is_there c.args.bytes.now (attested_parts c.in_ok-attested.attested)
    c.in_ok-attested.rest.now there c.in_ok-attested.ensures.value
