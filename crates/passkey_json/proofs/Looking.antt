-- Looking up encoded members.
use Rattle.std.proofs.Common.{◌≡◌, ℕ, List, [], ◌∷◌, Option, Some, None, Bool, true, false, not, cond, refl, sym, subst, ◌∙◌, bytes_eq, true≢false}
use Rattle.std.proofs.lemmas.Bool.{and_parts, not-true, or_parts}
use Rattle.std.proofs.lemmas.Slice.Eq.{bytes_eq-Decides}
use Rattle.std.specs.List.{list_any}
use Rattle.passkey_json.specs.Written.{EncodedMember, put_if, put_rows, written, at_name, are_apart}
use Rattle.serde_json.proofs.Views.{get_member-put, get_member-put_other}
use Rattle.serde_json.specs.Data.{Data, Members, no_members}
use Rattle.serde_json.specs.Find.{get, get_member}

other_names : (a b : List ℕ) → bytes_eq a b ≡ false → a ≡ b → ⊥
other_names a b e same = true≢false (sym ((bytes_eq-Decides a b).1 same) ∙ e)

-- the value under a name where nothing was put
put_elsewhere : (name other : List ℕ) (o : Option Data) (ms : Members) → bytes_eq name other ≡ false
    → get_member name (put_if other o ms) ≡ get_member name ms
put_elsewhere name other None ms e = refl
put_elsewhere name other (Some d) ms e = get_member-put_other name other d ms (other_names name other e)

-- the value under the name where it was put
put_here : (name same : List ℕ) (o : Option Data) (ms : Members) → bytes_eq name same ≡ true
    → get_member name ms ≡ None → get_member name (put_if same o ms) ≡ o
put_here name same None ms e h = h
put_here name same (Some d) ms e h = rw ((bytes_eq-Decides name same).0 e) (get_member-put same d ms)

abbrev has_name : List ℕ → List EncodedMember → Bool
has_name name ws = list_any (λ (v : EncodedMember). bytes_eq name v.0) ws

looked_elsewhere : (name : List ℕ) (ws : List EncodedMember) (ms : Members) → has_name name ws ≡ false
    → get_member name (put_rows ms ws) ≡ get_member name ms
looked_elsewhere name [] ms e = refl
looked_elsewhere name (w ∷ ws) ms e =
    let parts = or_parts (bytes_eq name w.0) (has_name name ws) e in
    looked_elsewhere name ws (put_if w.0 w.1 ms) parts.1 ∙ put_elsewhere name w.0 w.1 ms parts.0

looked_at : (b : Bool) (name : List ℕ) (w : EncodedMember) (ws : List EncodedMember) (ms : Members) → bytes_eq name w.0 ≡ b
    → has_name w.0 ws ≡ false → get_member name ms ≡ None
    → (get_member name (put_if w.0 w.1 ms) ≡ None
    → get_member name (put_rows (put_if w.0 w.1 ms) ws) ≡ at_name ws name)
    → get_member name (put_rows (put_if w.0 w.1 ms) ws) ≡ cond b w.1 (at_name ws name)
looked_at true name w ws ms is apart none later =
    let same : name ≡ w.0 = (bytes_eq-Decides name w.0).0 is in
    looked_elsewhere name ws (put_if w.0 w.1 ms) (subst (λ (n : List ℕ). has_name n ws ≡ false) (sym same) apart)
    ∙ put_here name w.0 w.1 ms is none
looked_at false name w ws ms is apart none later = later (put_elsewhere name w.0 w.1 ms is ∙ none)

looked : (name : List ℕ) (ws : List EncodedMember) (ms : Members) → are_apart ws ≡ true → get_member name ms ≡ None
    → get_member name (put_rows ms ws) ≡ at_name ws name
looked name [] ms e none = none
looked name (w ∷ ws) ms e none =
    let parts = and_parts (not (has_name w.0 ws)) (are_apart ws) e in
    looked_at (bytes_eq name w.0) name w ws ms refl (not-true _ parts.0) none (looked name ws (put_if w.0 w.1 ms) parts.1)

looked_up : (ws : List EncodedMember) → are_apart ws ≡ true → (name : List ℕ) → get name (written ws) ≡ at_name ws name
looked_up ws e name = looked name ws no_members e refl

-- the value under each name of the object with these members
pub standing : (ws : List EncodedMember) → are_apart ws ≡ true → (λ (name : List ℕ). get name (written ws)) ≡ at_name ws
standing ws e = λ i name. looked_up ws e name i
