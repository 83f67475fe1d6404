use Rattle.std.proofs.Common.{◌≡◌, ◌<◌, length, get_or}
use Rattle.passkey_cbor.specs.View.{item_of}
use Rattle.passkey_cose.specs.Pairs.{values_in}
use Rattle.passkey_cose.proofs.TakenPairs.{member_from}
use Rattle.passkey_cose.proofs.pairs.Pairs.take.Goals as goal

pub returns-in-Owned-clause-pair : goal.returns-in-Owned-clause-pair
returns-in-Owned-clause-pair c =
    let ms = c.in-Owned.pairs.items in
    let within : c.args.index < length ms = rw c.in-Owned.is at c.requires in
    rw (c.in-Owned.is, c.replace.ensures.value)
    (member_from ms c.args.index c.index_mut.result.now within c.index_mut.ensures.value)

pub returns-clause-pair : goal.returns-clause-pair
returns-clause-pair c =
    let ms = values_in c.args.self.now in
    let m = c.index-as_slice-index.result in
    let is : m ≡ get_or ms c.args.index m = rw c.as_slice.ensures at c.index-as_slice-index.is in
    let label : item_of c.in_ok-try_clone.field-0 ≡ item_of m.0 = c.in_ok-try_clone.ensures.same in
    let value : item_of c.in_ok-try_clone-2.field-0 ≡ item_of m.1 = c.in_ok-try_clone-2.ensures.same in
    rw (label, value) (member_from ms c.args.index m c.requires is)
