use Rattle.passkey_kinds.proofs.Steps.{Option, List, ℕ, option_map, map, refl, ap, each_same, sets_put}
use Rattle.passkey_kinds.specs.Placed.{fields_of}
use Rattle.passkey_kinds.specs.Coded.{bytes}
use Rattle.passkey_kinds.specs.Typed.{optional, list}
use Rattle.passkey_attestation.specs.Statements.{packed}
use Rattle.passkey_attestation.specs.declared.packed.PackedStatement.{PackedStatement}
use Rattle.passkey_attestation.proofs.packed.PackedStatementPlainRecord.put.Goals as goal

abbrev seen : Option (List (List ℕ)) → Option (List (List ℕ))
seen o = option_map (λ (xs : List (List ℕ)). map (λ (x : List ℕ). x) xs) o

pub returns-in-3-clause-puts : goal.returns-in-3-clause-puts
returns-in-3-clause-puts g c = λ i to at.
    let old = c.args.self.now in
    let set : Option (List (List ℕ)) → PackedStatement → PackedStatement = λ x r. record r { x5c = x } in
    sets_put (fields_of packed) seen (optional (list bytes.typed)) set c.args.number 3 i c.set-in-3.new.field old
    (set c.set-in-3.new.field old) c.set-in-3.result c.in-3.is refl refl refl
    (ap (λ o. set o old) (each_same c.set-in-3.new.field)) (c.set-in-3.ensures.sets i to at)
