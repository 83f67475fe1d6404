use Rattle.std.proofs.Common.{rules, ◌≡◌, ℕ, List, Ok, Err, Bor, sym}
use Rattle.passkey_cose.specs.Key.{key_parts}
use Rattle.passkey_cose.specs.declared.error.CoseError.TheVariants.{OutOfMemory}
use Rattle.passkey_core.specs.DataCounts.{Counts}
use Rattle.passkey_core.specs.DataNodes.{count_key}
use Rattle.passkey_core.specs.DataReading.{ids_at, AttestedGrows}
use Rattle.passkey_core.specs.DataViews.{attested_parts}
use Rattle.passkey_core.specs.declared.attested.data.AttestedCredentialData.{AttestedCredentialData}
use Rattle.passkey_core.proofs.DataCounting.{counts_same, counts_failed, counts_refused, counts_after_ids, counts_no_key}
use Rattle.passkey_core.proofs.DataGrowth.{attested_grows, ids_fail}
use Rattle.passkey_core.proofs.authenticator_data.reading.read_attested.Goals as goal

pub returns-in_err-aaguid-clause-value : goal.returns-in_err-aaguid-clause-value
returns-in_err-aaguid-clause-value c =
    let told : c.from_residual.result ≡ Err c.in_err-aaguid.field-0.0 = search rules in
    let fails : ids_at c.args.bytes.now ≡ Err c.in_err-aaguid.field-0.0 = sym c.in_err-aaguid.ensures.value in
    rw told (ids_fail (AttestedGrows c.args.bytes.now) (λ (r : AttestedCredentialData × Bor (List ℕ)).
    (attested_parts r.0, r.1.now)) c.args.bytes.now c.in_err-aaguid.field-0.0 fails)

pub returns-in_err-from_slice-clause-value : goal.returns-in_err-from_slice-clause-value
returns-in_err-from_slice-clause-value c =
    let told : c.from_residual-in_err-from_slice.result ≡ Err OutOfMemory = search rules in
    rw told
    (attested_grows c.args.bytes.now (c.in_ok-aaguid.aaguid.0, c.in_ok-aaguid.id.now) c.in_ok-aaguid.rest.now
    (key_parts c.in_ok-key.key) c.in_ok-key.rest.now c.in_ok-aaguid.ensures.value c.in_ok-key.ensures.value)

pub returns-in_err-aaguid-clause-counts : goal.returns-in_err-aaguid-clause-counts
returns-in_err-aaguid-clause-counts c =
    let told : c.from_residual.result ≡ Err c.in_err-aaguid.field-0.0 = search rules in
    rw told (counts_no_key c.args.bytes.now c.in_err-aaguid.field-0.0 c.in_err-aaguid.field-0.0 c.args.count.now
    c.in_err-aaguid.ensures.value)

pub returns-in_err-key-clause-counts : goal.returns-in_err-key-clause-counts
returns-in_err-key-clause-counts c =
    let told : c.from_residual-in_err-key.result ≡ Err c.in_err-key.field-0.0 = search rules in
    let following : Counts (λ each. count_key each c.args.bytes.now) c.args.bytes.now c.args.count.now
    c.read_key.new.count (Err c.in_err-key.field-0.0) =
    counts_after_ids c.args.bytes.now (c.in_ok-aaguid.aaguid.0, c.in_ok-aaguid.id.now) c.in_ok-aaguid.rest.now
    c.args.count.now c.read_key.new.count (Err c.in_err-key.field-0.0) c.in_ok-aaguid.ensures.value
    c.in_err-key.ensures.counts in
    rw told (counts_failed (λ each. count_key each c.args.bytes.now) c.args.bytes.now c.args.count.now
    c.read_key.new.count c.in_err-key.field-0.0 following)

pub returns-in_err-from_slice-clause-counts : goal.returns-in_err-from_slice-clause-counts
returns-in_err-from_slice-clause-counts c =
    let told : c.from_residual-in_err-from_slice.result ≡ Err OutOfMemory = search rules in
    rw told (counts_refused (λ each. count_key each c.args.bytes.now) c.args.bytes.now c.args.count.now
    c.read_key.new.count (c.in_ok-key.key, c.in_ok-key.rest) OutOfMemory
    (counts_after_ids c.args.bytes.now (c.in_ok-aaguid.aaguid.0, c.in_ok-aaguid.id.now) c.in_ok-aaguid.rest.now
    c.args.count.now c.read_key.new.count (Ok (c.in_ok-key.key, c.in_ok-key.rest)) c.in_ok-aaguid.ensures.value
    c.in_ok-key.ensures.counts))

pub returns-clause-counts : goal.returns-clause-counts
returns-clause-counts c =
    counts_same (λ each. count_key each c.args.bytes.now) c.args.bytes.now c.args.count.now c.read_key.new.count
    c.in_ok-key.key _ c.in_ok-key.rest (counts_after_ids c.args.bytes.now (
      c.in_ok-aaguid.aaguid.0,
      c.in_ok-aaguid.id.now,
    ) c.in_ok-aaguid.rest.now c.args.count.now c.read_key.new.count
    (Ok (c.in_ok-key.key, c.in_ok-key.rest)) c.in_ok-aaguid.ensures.value c.in_ok-key.ensures.counts)
