-- What is left out, part by part.
use Rattle.std.proofs.Common.{◌≡◌, ◌+◌, ◌≤◌, ℕ, add-one, length, drop, List, [], ◌∷◌, ◌++◌, map, append-nil, append_assoc, Option, Some, refl, sym, ap, subst}
use Rattle.std.specs.Prelude.{IfSome}
use Rattle.passkey_json.specs.Dropped.{Adds, AreDropped, LeftOut, Leaving, Told, dropped, dropped_elements, dropped_present, dropped_rows, told, told_under, under}
use Rattle.passkey_json.specs.Shape.{Entry, Shape, Step, element, present_in}
use Rattle.passkey_json.specs.Table.{JsonMember, rows_in, shape_from}
use Rattle.passkey_json.specs.declared.dropped.DroppedValue.{DroppedValue}
use Rattle.serde_json.specs.Data.{Data, Items, item}
use Rattle.serde_json.specs.View.{items_view}
use Rattle.serde_json.specs.declared.value.Value.{Value}
use Rattle.std.proofs.lemmas.List.{drop_all}

pub are_under : (os : List LeftOut) (s : Step) (vs : List Told) → AreDropped os vs
    → AreDropped (map (under s) os) (map (told_under s) vs)
are_under [] s [] h = tt
are_under (o ∷ os) s (v ∷ vs) h = ((ap (λ (ts : List Step). s ∷ ts) h.0.0, h.0.1), are_under os s vs h.1)
are_under [] s (v ∷ vs) h = absurd h
are_under (o ∷ os) s [] h = absurd h

-- ---- one part after another

-- what is listed so far is all but what is left
abbrev pub Lists : List LeftOut → List LeftOut → List DroppedValue → Type 0
Lists all left seen = (rest : List Told) → AreDropped left rest → AreDropped all (map told seen ++ rest)

part_and : (os left : List LeftOut) (vs rest : List Told) → AreDropped os vs → AreDropped left rest
    → AreDropped (os ++ left) (vs ++ rest)
part_and [] left [] rest h later = later
part_and (o ∷ os) left (v ∷ vs) rest h later = (h.0, part_and os left vs rest h.1 later)
part_and [] left (v ∷ vs) rest h later = absurd h
part_and (o ∷ os) left [] rest h later = absurd h

pub part_listed : (all os left : List LeftOut) (old new : List DroppedValue) → Lists all (os ++ left) old
    → Adds os old new → Lists all left new
part_listed all os left old new lists a rest later =
    subst (λ (ts : List Told). AreDropped all (ts ++ rest)) (sym a.1.1)
    (subst (λ (ts : List Told). AreDropped all ts) (sym (append_assoc (map told old) a.0 rest))
    (lists (a.0 ++ rest) (part_and os left a.0 rest a.1.0 later)))

pub all_listed : (all left : List LeftOut) (seen : List DroppedValue) → left ≡ [] → Lists all left seen
    → AreDropped all (map told seen)
all_listed all left seen none lists =
    subst (λ (ts : List Told). AreDropped all ts) (append-nil (map told seen)) (lists [] (rw none tt))

-- ---- elements, members and rows

pub next_elements : (of : Leaving) (n : ℕ) (ds : Items) (x : Data) (rest : Items) → ds ≡ item x rest
    → dropped_elements of n ds ≡ map (under (element n)) (of x) ++ dropped_elements of (n + 1) rest
next_elements of n ds x rest is = rw (is, add-one) refl

pub elements_end : (of : Leaving) (vs : List Value) (n : ℕ) → length vs ≤ n → dropped_elements of n (items_view (drop n vs)) ≡ []
elements_end of vs n h = ap (λ xs. dropped_elements of n (items_view xs)) (drop_all n vs h)

pub next_row : {P : Type 0} (ms : List (JsonMember P)) (n : ℕ) (m : JsonMember P) (d : Data) (e : Entry)
    → drop n ms ≡ m ∷ drop (n + 1) ms → e ≡ m.entry → shape_from ms m.entry.number ≡ Some m.shape → (old new : List DroppedValue)
    → Lists (dropped_rows (rows_in ms) d) (dropped_rows (rows_in (drop n ms)) d) old
    → IfSome (shape_from ms e.number) (λ s. Adds (dropped_present (dropped s) (present_in e d)) old new)
    → Lists (dropped_rows (rows_in ms) d) (dropped_rows (rows_in (drop (n + 1) ms)) d) new
next_row ms n m d e next is shape old new lists adds =
    let added : Adds (dropped_present (dropped m.shape) (present_in m.entry d)) old new =
    subst (λ (o : Option Shape). IfSome o (λ s. Adds (dropped_present (dropped s) (present_in m.entry d)) old new)) shape
    (subst (λ (x : Entry). IfSome (shape_from ms x.number) (λ s. Adds (dropped_present (dropped s) (present_in x d)) old new))
    is adds) in
    part_listed _ (dropped_present (dropped m.shape) (present_in m.entry d)) (dropped_rows (rows_in (drop (n + 1) ms)) d) old new
    (subst (λ xs. Lists (dropped_rows (rows_in ms) d) (dropped_rows (rows_in xs) d) old) next lists) added
