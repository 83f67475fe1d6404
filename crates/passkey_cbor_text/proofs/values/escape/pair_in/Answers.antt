use Rattle.std.proofs.Common.{arith}
use Rattle.passkey_cbor.proofs.building.Views.{item_of-Array}
use Rattle.passkey_cbor_text.proofs.Pairs.{not_two, two}
use Rattle.passkey_cbor_text.proofs.values.escape.pair_in.Goals as goal

pub returns-then-len-ne2 : goal.returns-then-len-ne2
returns-then-len-ne2 c = rw (c.in-Array.is, item_of-Array c.in-Array.elements)
    (not_two c.in-Array.elements.items (λ e. c.if-len-ne2.true (omega arith)))

pub returns : goal.returns
returns c = rw (c.in-Array.is, item_of-Array c.in-Array.elements)
    (two c.in-Array.elements.items c.index.result.now c.index-2.result.now (omega arith) c.index.ensures c.index-2.ensures)
