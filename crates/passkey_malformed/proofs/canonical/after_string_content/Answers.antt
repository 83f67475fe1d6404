use Rattle.std.proofs.Common.{◌∙◌, ap}
use Rattle.passkey_malformed.specs.Breaks.{string_rule}
use Rattle.passkey_malformed.proofs.Breaking.{barred_by, string_broken, string_head_rule}
use Rattle.passkey_malformed.proofs.canonical.after_string_content.Goals as goal

pub returns-in-None : goal.returns-in-None
returns-in-None c = λ levels.
    barred_by levels c.requires (string_head_rule levels c.args.is_text c.args.len ∙ ap string_rule c.in-None.is)
    c.broken.ensures.rule c.broken.ensures.rest

pub returns-in-Err : goal.returns-in-Err
returns-in-Err c = λ levels.
    string_broken c.args.is_text c.args.len levels c.in-Some.is c.requires c.in-Err.ensures c.not_well_formed.ensures.rule
    c.not_well_formed.ensures.rest
