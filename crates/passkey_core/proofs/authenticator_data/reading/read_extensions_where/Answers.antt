use Rattle.std.proofs.Common.{rules, ◌≡◌, ℕ, List, true, Option, Err, option_map, Bool, Bor}
use Rattle.passkey_cbor.specs.Reads.{HasGrowingLeadingItem}
use Rattle.passkey_cbor.specs.View.{item_of}
use Rattle.passkey_cbor.specs.declared.value.Value.{Value}
use Rattle.passkey_core.specs.DataFlags.{extensions_flag, has_flag}
use Rattle.passkey_core.specs.DataReading.{read_map, ReadsItem, ReadsWhere}
use Rattle.passkey_core.proofs.DataReadings.{gives_fault, part_stands, part_fails}
use Rattle.passkey_core.proofs.authenticator_data.reading.read_extensions_where.Goals as goal

pub returns-in_err-extensions-clause-value : goal.returns-in_err-extensions-clause-value
returns-in_err-extensions-clause-value c =
    let is_there : Bool = has_flag extensions_flag c.args.flags.0 in
    let there : is_there ≡ true = search rules in
    let told : c.from_residual.result ≡ Err c.in_err-extensions.field-0.0 = search rules in
    rw told (gives_fault (HasGrowingLeadingItem c.args.bytes.now) ((is_there ≡ true)
    × HasGrowingLeadingItem c.args.bytes.now) (λ (r : Value × Bor (List ℕ)). (item_of r.0, r.1.now))
    (λ (r : Option Value × Bor (List ℕ)). (option_map item_of r.0, r.1.now))
    (ReadsItem read_map c.args.bytes.now) (ReadsWhere is_there (ReadsItem read_map) c.args.bytes.now)
    (λ grows. (there, grows)) (part_fails (ReadsItem read_map) is_there c.args.bytes.now there)
    c.in_err-extensions.field-0.0 c.in_err-extensions.ensures.value)

pub returns-clause-value : goal.returns-clause-value
returns-clause-value c =
    let is_there : Bool = has_flag extensions_flag c.args.flags.0 in
    let there : is_there ≡ true = search rules in
    part_stands (ReadsItem read_map) is_there c.args.bytes.now (item_of c.in_ok-extensions.extensions)
    c.in_ok-extensions.rest.now there c.in_ok-extensions.ensures.value
