-- A key's other parameters, as members.
use Rattle.std.specs.Prelude.{List, [], map, Option, option_map, unwrap_or}
use Rattle.std.specs.declared.alloc.Global.{Global}
use Rattle.std.specs.declared.vec.Vec.{Vec}
use Rattle.passkey_cbor.specs.Item.{Item}
use Rattle.passkey_cbor.specs.View.{item_of}
use Rattle.passkey_cbor.specs.declared.value.Value.{Value}
use Rattle.passkey_cose.specs.KeyLabels.{Members}
use Rattle.passkey_cose.specs.Label.{label_item}
use Rattle.passkey_cose.specs.declared.label.Label.{Label}

abbrev pub param_of : Label × Value → Item × Item
param_of p = (label_item p.0, item_of p.1)

abbrev pub params_of : List (Label × Value) → Members
params_of ps = map param_of ps

-- the parameters in an optional vector
abbrev pub params_held : Option (Vec (Label × Value) Global) → Members
params_held ps = params_of (unwrap_or (option_map (λ v. v.items) ps) [])
