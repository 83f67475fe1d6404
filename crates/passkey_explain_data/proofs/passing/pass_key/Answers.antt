use Rattle.std.proofs.Common.{ℕ, List, sym, subst}
use Rattle.passkey_cbor.specs.View.{item_of}
use Rattle.passkey_core.specs.DataReading.{ReadsItem}
use Rattle.passkey_cose.specs.KeyReading.{read_key}
use Rattle.passkey_explain_data.specs.DataBlame.{ReadsTo}
use Rattle.passkey_explain_data.proofs.DataPassing.{key_read}
use Rattle.passkey_explain_data.proofs.passing.pass_key.Goals as goal

pub returns-in-Ok-None : goal.returns-in-Ok-None
returns-in-Ok-None c =
    subst (λ (bs : List ℕ). ReadsTo (ReadsItem read_key c.args.rest.now) bs) (sym c.split_at.ensures.back)
    (key_read c.args.rest.now (item_of c.in-Ok.front.0) c.in-Ok.front.1 c.in-Ok-None.field-0 c.in-Ok.ensures
    c.in-Ok-None.ensures.fault c.in-Ok-None.field-0-is)
