use Rattle.passkey_kinds.proofs.Steps.{◌≡◌, Option, Some, None, option_map, refl, ap, ByteMap, map_values, fields_of, map_values_same, sets_put}
use Rattle.passkey_registered.specs.extensions.Prf.{prf_inputs, prf_values}
use Rattle.passkey_registered.specs.declared.extensions.prf.PrfInputs.{PrfInputs}
use Rattle.passkey_registered.specs.declared.extensions.prf.PrfValues.{PrfValues}
use Rattle.passkey_kinds.specs.Typed.{optional, map_from_bytes}
use Rattle.passkey_kinds.specs.RecordReading.{nested}
use Rattle.passkey_registered.proofs.extensions.prf.PrfInputsPlainRecord.put.Goals as goal

abbrev seen : Option (ByteMap PrfValues) → Option (ByteMap PrfValues)
seen o = option_map (λ (m : ByteMap PrfValues). map_values (λ (v : PrfValues). v) m) o

same : (o : Option (ByteMap PrfValues)) → seen o ≡ o
same None = refl
same (Some m) = ap Some (map_values_same m)

abbrev put : Option (ByteMap PrfValues) → PrfInputs → PrfInputs
put x r = record r { eval_by_credential = x }

pub returns-in-2-clause-puts : goal.returns-in-2-clause-puts
returns-in-2-clause-puts g c = λ i to at.
    let old = c.args.self.now in
    sets_put (fields_of prf_inputs) seen (optional (map_from_bytes (nested (fields_of prf_values)))) put c.args.number 2 i
    c.set-in-2.new.field old (put c.set-in-2.new.field old) c.set-in-2.result c.in-2.is refl refl refl
    (ap (λ o. put o old) (same c.set-in-2.new.field)) (c.set-in-2.ensures.sets i to at)
