-- A list that contains a float isn't a list of URLs.
use Rattle.std.proofs.Common.{◌≡◌, true, true≢false, Option, Some, None, List, ◌∷◌, option_map, refl, sym}
use Rattle.std.specs.Option.{option_and_then}
use Rattle.passkey_json.specs.Kind.{each, list}
use Rattle.passkey_well_known.specs.UrlKind.{url}
use Rattle.serde_json.specs.Data.{Data, string, array, Items, no_items, item}
use Rattle.serde_json.specs.Written.{has_float, items_have_float}
use Rattle.url.specs.Parts.{Parts}

none_after : (first : Option Parts) (rest : Option (List Parts)) → rest ≡ None
    → option_and_then (λ u. option_map (λ us. u ∷ us) rest) first ≡ None
none_after None rest none = refl
none_after (Some u) rest none = rw none refl

float_in_items : (ds : Items) → items_have_float ds ≡ true → each url ds ≡ None
float_in_items no_items float = absurd (true≢false (sym float))
float_in_items (item (string s) ds) float = none_after (url (string s)) (each url ds) (float_in_items ds float)
float_in_items _ float = refl

pub float_refused : (d : Data) → has_float d ≡ true → list url d ≡ None
float_refused (array ds) float = float_in_items ds float
float_refused _ float = refl
