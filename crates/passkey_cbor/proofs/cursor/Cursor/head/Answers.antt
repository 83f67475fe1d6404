use Rattle.passkey_cbor.proofs.skipping.Walks.{finds_head}
use Rattle.passkey_cbor.proofs.items.EncodedFrom.{opens}
use Rattle.passkey_cbor.proofs.building.Gathering.{moves_head}
use Rattle.passkey_cbor.specs.Found.{FindsHead}
use Rattle.passkey_cbor.proofs.cursor.Cursor.head.Goals as goal

pub returns : goal.returns
returns c =
    let found : FindsHead c.args.self.now c.decode.new.self c.decode.result =
    finds_head c.args.self.now c.decode.new.self c.decode.result c.decode.ensures.placed
    c.decode.ensures.counted c.decode.ensures.stays c.decode.ensures.reads in
    record {
      found = found;
      opens = λ x to l. opens c.args.self.now c.decode.new.self c.decode.result x to found l;
      moves = moves_head c.args.self.now c.decode.new.self c.decode.result c.decode.ensures.reads;
    }
