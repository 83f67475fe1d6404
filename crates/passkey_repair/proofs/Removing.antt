-- Objects without a member.
use Rattle.std.proofs.Common.{◌≡◌, ℕ, List, [], ◌∷◌, Bool, true, false, cond, String, Global, string_bytes, bytes_eq, nat_cmp, refl, ap}
use Rattle.std.proofs.lemmas.Map.Text.{is_eq-slice_cmp}
use Rattle.std.specs.BTreeMap.{is_at}
use Rattle.std.specs.Cmp.Lexicographic.{slice_cmp}
use Rattle.std.specs.Map.{remove_entry}
use Rattle.passkey_repair.specs.json.Edits.{without}
use Rattle.serde_json.proofs.Views.{Entry}
use Rattle.serde_json.specs.Data.{member}
use Rattle.serde_json.specs.View.{members_view, view}

chosen : (b : Bool) (e : Entry) (es more : List Entry) (name : List ℕ)
    → members_view more ≡ without name (members_view es)
    → members_view (cond b es (e ∷ more))
    ≡ cond b (members_view es) (member (string_bytes e.0) (view e.1) (without name (members_view es)))
chosen true e es more name h = refl
chosen false e es more name h = ap (member (string_bytes e.0) (view e.1)) h

pub members_without : (name : List ℕ) (es : List Entry)
    → members_view (remove_entry (is_at (λ (k : String Global). slice_cmp nat_cmp name (string_bytes k))) es)
    ≡ without name (members_view es)
members_without name [] = refl
members_without name (e ∷ es) =
    rw (is_eq-slice_cmp name (string_bytes e.0))
    (chosen (bytes_eq name (string_bytes e.0)) e es _ name (members_without name es))
