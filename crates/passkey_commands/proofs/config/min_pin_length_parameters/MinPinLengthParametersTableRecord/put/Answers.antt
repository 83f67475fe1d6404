use Rattle.passkey_kinds.proofs.Steps.{Option, List, ℕ, option_map, map, refl, ap, each_same, sets_put}
use Rattle.passkey_kinds.specs.Numbered.{numbered_fields}
use Rattle.passkey_kinds.specs.Coded.{text}
use Rattle.passkey_kinds.specs.Typed.{optional, list}
use Rattle.passkey_commands.specs.config.MinPinLengthParameters.{min_pin_length_parameters}
use Rattle.passkey_commands.specs.declared.config.min_pin_length_parameters.MinPinLengthParameters.{MinPinLengthParameters}
use Rattle.passkey_commands.proofs.config.min_pin_length_parameters.MinPinLengthParametersTableRecord.put.Goals as goal

abbrev seen : Option (List (List ℕ)) → Option (List (List ℕ))
seen o = option_map (λ (xs : List (List ℕ)). map (λ (x : (List ℕ)). x) xs) o

pub returns-in-2-clause-puts : goal.returns-in-2-clause-puts
returns-in-2-clause-puts g c = λ i to at.
    let old = c.args.self.now in
    let set : Option (List (List ℕ)) → MinPinLengthParameters → MinPinLengthParameters = λ x r. record r { min_pin_length_rp_ids = x } in
    sets_put (numbered_fields min_pin_length_parameters) seen (optional (list text.typed)) set c.args.number 2 i c.set-in-2.new.field old
    (set c.set-in-2.new.field old) c.set-in-2.result c.in-2.is refl refl refl
    (ap (λ o. set o old) (each_same c.set-in-2.new.field)) (c.set-in-2.ensures.sets i to at)
