use Rattle.passkey_kinds.proofs.Steps.{◌≡◌, Option, Some, None, option_map, refl, ap, ByteMap, map_values, fields_of, map_values_same, sets_put}
use Rattle.passkey_extensions.specs.Prf.{prf_inputs, prf_values}
use Rattle.passkey_extensions.specs.declared.prf.AuthenticatorPrfInputs.{AuthenticatorPrfInputs}
use Rattle.passkey_extensions.specs.declared.prf.AuthenticatorPrfValues.{AuthenticatorPrfValues}
use Rattle.passkey_kinds.specs.Typed.{optional, map_from_bytes}
use Rattle.passkey_kinds.specs.RecordReading.{nested}
use Rattle.passkey_extensions.proofs.prf.AuthenticatorPrfInputsPlainRecord.put.Goals as goal

abbrev seen : Option (ByteMap AuthenticatorPrfValues) → Option (ByteMap AuthenticatorPrfValues)
seen o = option_map (λ (m : ByteMap AuthenticatorPrfValues). map_values (λ (v : AuthenticatorPrfValues). v) m) o

same : (o : Option (ByteMap AuthenticatorPrfValues)) → seen o ≡ o
same None = refl
same (Some m) = ap Some (map_values_same m)

pub returns-in-2-clause-puts : goal.returns-in-2-clause-puts
returns-in-2-clause-puts g c = λ i to at.
    let old = c.args.self.now in
    let set : Option (ByteMap AuthenticatorPrfValues) → AuthenticatorPrfInputs
    → AuthenticatorPrfInputs = λ x r. record r { eval_by_credential = x } in
    sets_put (fields_of prf_inputs) seen (optional (map_from_bytes (nested (fields_of prf_values)))) set c.args.number 2 i
    c.set-in-2.new.field old (set c.set-in-2.new.field old) c.set-in-2.result c.in-2.is refl refl refl
    (ap (λ o. set o old) (same c.set-in-2.new.field)) (c.set-in-2.ensures.sets i to at)
