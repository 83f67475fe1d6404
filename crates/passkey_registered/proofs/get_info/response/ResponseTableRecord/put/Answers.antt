use Rattle.passkey_registered.specs.get_info.Information.{information}
use Rattle.passkey_registered.specs.declared.get_info.response.Response.{Response}
use Rattle.passkey_kinds.proofs.Steps.{List, Option, ap, each_same, map, option_map, refl, sets_put, ℕ}
use Rattle.passkey_kinds.specs.Numbered.{numbered_fields}
use Rattle.passkey_kinds.specs.Coded.{text}
use Rattle.passkey_kinds.specs.Typed.{below, list, optional}
use Rattle.passkey_registered.proofs.get_info.response.ResponseTableRecord.put.Goals as goal

pub returns-in-2-clause-puts : goal.returns-in-2-clause-puts
returns-in-2-clause-puts g c = λ i to at.
    let old = c.args.self.now in
    let put : Option (List (List ℕ)) → Response → Response = λ x r. record r { extensions = x } in
    sets_put (numbered_fields information) (λ (o : Option (List (List ℕ))). option_map (λ (xs : List (List ℕ)). map (λ (x : (List ℕ)). x) xs) o)
    (optional (list text.typed)) put c.args.number 2 i c.set-in-2.new.field old (put c.set-in-2.new.field old)
    c.set-in-2.result c.in-2.is refl refl refl (ap (λ o. put o old) (each_same c.set-in-2.new.field))
    (c.set-in-2.ensures.sets i to at)

pub returns-in-6-clause-puts : goal.returns-in-6-clause-puts
returns-in-6-clause-puts g c = λ i to at.
    let old = c.args.self.now in
    let put : Option (List ℕ) → Response → Response = λ x r. record r { pin_uv_auth_protocols = x } in
    sets_put (numbered_fields information) (λ (o : Option (List ℕ)). option_map (λ (xs : List ℕ). map (λ (x : ℕ). x) xs) o)
    (optional (list (below 256))) put c.args.number 6 i c.set-in-6.new.field old (put c.set-in-6.new.field old)
    c.set-in-6.result c.in-6.is refl refl refl (ap (λ o. put o old) (each_same c.set-in-6.new.field))
    (c.set-in-6.ensures.sets i to at)
