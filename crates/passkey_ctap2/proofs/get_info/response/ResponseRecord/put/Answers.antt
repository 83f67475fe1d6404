use Rattle.passkey_kinds.proofs.Steps.{◌++◌, arith, true, ℕ, List, Option, map, option_map, refl, ap, each_same, sets_put}
use Rattle.passkey_ctap2.specs.GetInfo.{GetInfoParts, get_info_empty, get_info_fields, get_info_parts, extension, first_members, middle_members, last_members}
use Rattle.passkey_ctap2.specs.declared.get_info.extension.Extension.{Extension}
use Rattle.passkey_kinds.specs.Typed.{below, list, optional, text_as}
use Rattle.passkey_ctap2.proofs.Groups.{IsNone, puts_after}
use Rattle.passkey_ctap2.proofs.get_info.response.ResponseRecord.put.Goals as goal

pub returns-in-2-clause-puts : goal.returns-in-2-clause-puts
returns-in-2-clause-puts g c = λ i to at.
    let old = get_info_parts c.args.self.now in
    let set : Option (List Extension) → GetInfoParts → GetInfoParts = λ x r. record r { extensions = x } in
    sets_put get_info_fields (λ (o : Option (List Extension)). option_map
    (λ (xs : List Extension). map (λ (e : Extension). e) xs) o) (optional (list (text_as extension))) set
    c.args.number 2 i c.set-in-2.new.field old (set c.set-in-2.new.field old) c.set-in-2.result c.in-2.is refl
    refl refl (ap (λ o. set o old) (each_same c.set-in-2.new.field)) (c.set-in-2.ensures.sets i to at)

pub returns-in-6-clause-puts : goal.returns-in-6-clause-puts
returns-in-6-clause-puts g c = λ i to at.
    let old = get_info_parts c.args.self.now in
    let set : Option (List ℕ) → GetInfoParts → GetInfoParts = λ x r. record r { pin_protocols = x } in
    sets_put get_info_fields (λ (o : Option (List ℕ)). option_map (λ (xs : List ℕ). map (λ (n : ℕ). n) xs) o)
    (optional (list (below 256))) set c.args.number 6 i c.set-in-6.new.field old
    (set c.set-in-6.new.field old) c.set-in-6.result c.in-6.is refl refl refl
    (ap (λ o. set o old) (each_same c.set-in-6.new.field)) (c.set-in-6.ensures.sets i to at)

-- the number is that of none of the first members
pub returns-in_default-clause-puts : goal.returns-in_default-clause-puts
returns-in_default-clause-puts g c = λ i to at.
    let elsewhere : IsNone first_members c.args.number = grind arith in
    puts_after true get_info_empty first_members (middle_members ++ last_members) c.args.number i _ _
    c.set_middle_member.result elsewhere (c.set_middle_member.ensures.puts i to at)
