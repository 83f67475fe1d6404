use Rattle.std.proofs.Common.{◌≡◌, ◌∙◌, true, refl, sym}
use Rattle.passkey_well_known.proofs.Floats.{float_refused}
use Rattle.passkey_well_known.proofs.well_known.origins_of.Goals as goal
use Rattle.serde_json.specs.View.{view}
use Rattle.serde_json.specs.Written.{has_float}

pub returns-then-holds_float : goal.returns-then-holds_float
returns-then-holds_float g c =
    let float : has_float (view c.args.value.now) ≡ true = sym c.holds_float.ensures ∙ c.if-holds_float.true in
    rw (float_refused (view c.args.value.now) float, float) refl
