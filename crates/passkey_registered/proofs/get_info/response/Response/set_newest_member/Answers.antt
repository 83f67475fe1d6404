use Rattle.passkey_registered.specs.get_info.Information.{information, newest_members}
use Rattle.passkey_registered.specs.declared.get_info.response.Response.{Response}
use Rattle.passkey_kinds.proofs.Steps.{List, Option, ap, each_same, map, option_map, refl, sets_put, true, ℕ}
use Rattle.passkey_kinds.specs.Placed.{fields_with}
use Rattle.passkey_kinds.specs.Typed.{below, list, optional}
use Rattle.passkey_registered.proofs.get_info.response.Response.set_newest_member.Goals as goal

pub returns-in-31-clause-puts : goal.returns-in-31-clause-puts
returns-in-31-clause-puts g c = λ i to at.
    let old = c.args.self.now in
    let put : Option (List ℕ) → Response → Response = λ x r. record r { authenticator_config_commands = x } in
    sets_put (fields_with true information.blank newest_members)
    (λ (o : Option (List ℕ)). option_map (λ (xs : List ℕ). map (λ (x : ℕ). x) xs) o)
    (optional (list (below 256))) put c.args.number 31 i c.set-in-31.new.field old (put c.set-in-31.new.field old)
    c.set-in-31.result c.in-31.is refl refl refl (ap (λ o. put o old) (each_same c.set-in-31.new.field))
    (c.set-in-31.ensures.sets i to at)
