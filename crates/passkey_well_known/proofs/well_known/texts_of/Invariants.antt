use Rattle.std.proofs.Common.{◌≡◌, take, map}
use Rattle.passkey_well_known.proofs.well_known.texts_of.Given as goal
use Rattle.serde_json.specs.Data.{string}
use Rattle.serde_json.specs.View.{view}
use Rattle.url.specs.Parts.{serialize}

abbrev pub invariant-loop-url : goal.invariant-loop-url
invariant-loop-url l = map view l.texts.items ≡ map (λ u. string (serialize u)) (take l.url-index l.urls)
