use Rattle.std.proofs.Common.{refl, true}
use Rattle.passkey_cose.proofs.SeenNames.{text_more}
use Rattle.passkey_explain_data.proofs.names.Names.insert_text.Goals as goal

pub returns-in-Ok-clause-held : goal.returns-in-Ok-clause-held
returns-in-Ok-clause-held c =
    let old = c.args.self.now in
    λ names held. text_more (record { numbers = old.numbers; texts = old.texts; is_whole = true })
    (record { numbers = old.numbers; texts = c.insert.new.self; is_whole = true }) c.args.text names
    c.in-Ok.ensures.updates refl held
