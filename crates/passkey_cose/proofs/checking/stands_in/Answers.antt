use Rattle.std.proofs.Common.{◌∙◌}
use Rattle.passkey_cbor.specs.Same.{item_eq}
use Rattle.passkey_cbor.specs.SameItems.{item_eq-equivalence}
use Rattle.passkey_cbor.specs.View.{item_of}
use Rattle.passkey_cose.proofs.Searching.{any_other_way}
use Rattle.passkey_cose.proofs.checking.stands_in.Goals as goal

pub returns : goal.returns
returns c =
    c.contains.ensures.value ∙ any_other_way item_eq item_eq-equivalence.symm item_of c.args.op.now c.args.ops.now
