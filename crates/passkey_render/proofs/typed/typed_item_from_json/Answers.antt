use Rattle.std.proofs.Common.{refl}
use Rattle.passkey_kinds.specs.Look.{tested}
use Rattle.passkey_render.proofs.typed.typed_item_from_json.Goals as goal

pub returns : goal.returns
returns g c = c.item.ensures (tested g.M.FromCbor.typed) refl
