use Rattle.std.proofs.Common.{◌∙◌, map}
use Rattle.passkey_cbor.specs.View.{item_of, pair_of}
use Rattle.passkey_cose.specs.Seen.{labels_of}
use Rattle.passkey_cose.proofs.SeenNames.{not_new, has_label-labels_of}
use Rattle.passkey_cose.proofs.checking.is_repeated_label.Goals as goal

pub returns-in-Some-clause-value : goal.returns-in-Some-clause-value
returns-in-Some-clause-value c =
    let earlier = map pair_of c.args.earlier.now in
    let label = item_of c.args.label.now in
    not_new c.in-Some.is_new _ (c.in-Some.ensures.told (labels_of earlier) c.requires.held)
    ∙ has_label-labels_of earlier label
