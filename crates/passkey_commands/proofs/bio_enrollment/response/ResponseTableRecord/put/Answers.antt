use Rattle.passkey_kinds.proofs.Steps.{Option, List, option_map, map, refl, ap, each_same, sets_put}
use Rattle.passkey_kinds.specs.Numbered.{numbered_fields}
use Rattle.passkey_kinds.specs.RecordReading.{nested}
use Rattle.passkey_kinds.specs.Typed.{optional, list}
use Rattle.passkey_commands.specs.bio_enrollment.BioResponse.{bio_response}
use Rattle.passkey_commands.specs.bio_enrollment.TemplateInfo.{template_info}
use Rattle.passkey_commands.specs.declared.bio_enrollment.template_info.TemplateInfo.{TemplateInfo}
use Rattle.passkey_commands.specs.declared.bio_enrollment.response.Response.{Response}
use Rattle.passkey_commands.proofs.bio_enrollment.response.ResponseTableRecord.put.Goals as goal

abbrev seen : Option (List TemplateInfo) → Option (List TemplateInfo)
seen o = option_map (λ (xs : List TemplateInfo). map (λ (x : TemplateInfo). x) xs) o

pub returns-in-7-clause-puts : goal.returns-in-7-clause-puts
returns-in-7-clause-puts g c = λ i to at.
    let old = c.args.self.now in
    let set : Option (List TemplateInfo) → Response → Response = λ x r. record r { template_infos = x } in
    sets_put (numbered_fields bio_response) seen (optional (list (nested (numbered_fields template_info)))) set c.args.number 7 i c.set-in-7.new.field old
    (set c.set-in-7.new.field old) c.set-in-7.result c.in-7.is refl refl refl
    (ap (λ o. set o old) (each_same c.set-in-7.new.field)) (c.set-in-7.ensures.sets i to at)
