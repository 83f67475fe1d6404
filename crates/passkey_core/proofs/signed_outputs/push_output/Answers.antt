use Rattle.std.proofs.Common.{refl}
use Rattle.std.proofs.lemmas.List.{map-append}
use Rattle.passkey_cbor.specs.View.{pair_of}
use Rattle.passkey_cbor.proofs.building.Views.{item_of-Text}
use Rattle.passkey_core.proofs.signed_outputs.push_output.Goals as goal

pub returns-clause-pushed : goal.returns-clause-pushed
returns-clause-pushed c =
    rw (
      c.in_ok-push.ensures.items,
      map-append pair_of c.args.outputs.now.items _,
      c.in-Some.is,
      ← c.in-Ok.ensures.ok,
      ← item_of-Text c.in-Ok.name,
    ) refl
