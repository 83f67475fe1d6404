use Rattle.std.proofs.Common.{◌∙◌, map, Some, ap}
use Rattle.passkey_cbor.proofs.building.Views.{item_of-Map}
use Rattle.passkey_cbor.specs.View.{item_of, pair_of}
use Rattle.passkey_explain_data.proofs.KeyVerdict.{blamed_pair, blamed_type, verdict_of}
use Rattle.passkey_explain_data.proofs.key.explain_key.Goals as goal

pub returns-in-Some-clause-blame : goal.returns-in-Some-clause-blame
returns-in-Some-clause-blame c =
    blamed_pair (item_of c.args.value.now) (map pair_of c.in-Map.members.items)
    (ap item_of c.in-Map.is ∙ item_of-Map c.in-Map.members) c.type_number-key_type.result
    (rw c.deref.ensures.value at c.type_number-key_type.ensures) c.in_ok-refusal-in-Map.field-0
    (rw c.deref-in-Map.ensures.value at c.in_ok-refusal-in-Map.ensures) c.in-Some.refusal c.in-Some.is

pub returns-in-Some-clause-fault : goal.returns-in-Some-clause-fault
returns-in-Some-clause-fault c =
    verdict_of (item_of c.args.value.now) (Some c.in-Some.refusal)
    (blamed_pair (item_of c.args.value.now) (map pair_of c.in-Map.members.items)
    (ap item_of c.in-Map.is ∙ item_of-Map c.in-Map.members) c.type_number-key_type.result
    (rw c.deref.ensures.value at c.type_number-key_type.ensures) c.in_ok-refusal-in-Map.field-0
    (rw c.deref-in-Map.ensures.value at c.in_ok-refusal-in-Map.ensures) c.in-Some.refusal c.in-Some.is)

pub returns-in-None-clause-blame : goal.returns-in-None-clause-blame
returns-in-None-clause-blame c =
    blamed_type (item_of c.args.value.now) (map pair_of c.in-Map.members.items)
    (ap item_of c.in-Map.is ∙ item_of-Map c.in-Map.members) c.type_number-key_type.result
    (rw c.deref.ensures.value at c.type_number-key_type.ensures) c.in_ok-refusal-in-Map.field-0
    (rw c.deref-in-Map.ensures.value at c.in_ok-refusal-in-Map.ensures) c.blame_type.result c.in-None.is
    (rw c.deref-in-None.ensures.value at c.blame_type.ensures)

pub returns-in-None-clause-fault : goal.returns-in-None-clause-fault
returns-in-None-clause-fault c =
    verdict_of (item_of c.args.value.now) c.blame_type.result
    (blamed_type (item_of c.args.value.now) (map pair_of c.in-Map.members.items)
    (ap item_of c.in-Map.is ∙ item_of-Map c.in-Map.members) c.type_number-key_type.result
    (rw c.deref.ensures.value at c.type_number-key_type.ensures) c.in_ok-refusal-in-Map.field-0
    (rw c.deref-in-Map.ensures.value at c.in_ok-refusal-in-Map.ensures) c.blame_type.result c.in-None.is
    (rw c.deref-in-None.ensures.value at c.blame_type.ensures))
