use Rattle.passkey_cbor.specs.View.{item_of}
use Rattle.passkey_cbor_text.proofs.Escapes.{escape_there}
use Rattle.passkey_cbor_text.proofs.values.exact.exact_json.Goals as goal

pub returns : goal.returns
returns g c = escape_there (g.R.Reading.means c.args.reading.now) (g.met.R.Reading.reads_escapes c.args.reading.now)
    (item_of c.args.value.now) c.escape_of_item.result c.escape_of_item.ensures
