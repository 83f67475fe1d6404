-- Steps into JSON values.
use Rattle.std.proofs.Common.{Bor, Global, Vec, ◌≡◌, ◌∙◌, ℕ, ◌<◌, ◌≤◌, length, get_or, IfSome, List, map, MatchOption, Option, Some, None, option_map, slice_get, refl, sym, ap}
use Rattle.std.proofs.lemmas.Option.{slice_get-map, slice_get_past, slice_get_read}
use Rattle.json.proofs.Trees.{view-Array, view-Object}
use Rattle.json.specs.Json.{Json}
use Rattle.json.specs.Value.{value_view}
use Rattle.json.specs.declared.value.Value.{Value, Array, Object}
use Rattle.passkey_render.proofs.Parts.{items_again, members_again}
use Rattle.passkey_render.specs.NoItemText.{name_at, value_at}
use Rattle.passkey_render.specs.Parts.{Named, named_in}

element_of : (xs : List (Value Global)) (n : ℕ) (r : Option (Bor (Value Global))) (P : Bor (Value Global) → Type 0)
    → MatchOption r (length xs ≤ n) (λ x. (n < length xs) × P x) → IfSome r (λ x. x.now ≡ get_or xs n x.now)
    → option_map (λ (v : Bor (Value Global)). value_view v.now) r ≡ option_map value_view (slice_get xs n)
element_of xs n (Some x) P within is_it =
    ap (λ (o : Option (Value Global)). option_map value_view o) (sym (slice_get_read xs (length xs) n x.now refl within.0 is_it))
element_of xs n None P past is_it =
    ap (λ (o : Option (Value Global)). option_map value_view o) (sym (slice_get_past xs n past))

pub element_value : (v : Value Global) (a : Vec (Value Global) Global) (xs : List (Value Global)) (n : ℕ)
    (r : Option (Bor (Value Global))) (P : Bor (Value Global) → Type 0) → v ≡ Array a → xs ≡ a.items
    → MatchOption r (length xs ≤ n) (λ x. (n < length xs) × P x) → IfSome r (λ x. x.now ≡ get_or xs n x.now)
    → option_map (λ (v : Bor (Value Global)). value_view v.now) r ≡ value_at n (value_view v)
element_value v a xs n r P is same within is_it =
    element_of xs n r P within is_it ∙ sym (
    ap (value_at n) (ap value_view is ∙ view-Array a)
    ∙ ap (λ (js : List Json). slice_get js n) (items_again (map value_view a.items))
    ∙ slice_get-map value_view a.items n
    ∙ ap (λ (vs : List (Value Global)). option_map value_view (slice_get vs n)) (sym same))

abbrev Member : Type 0
Member = Bor (List ℕ) × Value Global

module _ (v : Value Global) (a : Vec Member Global) (xs : List Member) (n : ℕ) (is : v ≡ Object a) (same : xs ≡ a.items) where
  found : (o : Option Member) → slice_get xs n ≡ o → slice_get (map named_in a.items) n ≡ option_map named_in o
  found o there = slice_get-map named_in a.items n
      ∙ ap (λ (ms : List Member). option_map named_in (slice_get ms n)) (sym same)
      ∙ ap (λ (p : Option Member). option_map named_in p) there

  of_members : {A : Type 0} (f : Named → A) (o : Option Member) → slice_get xs n ≡ o
      → option_map f (option_map named_in o) ≡ option_map f (slice_get (map named_in a.items) n)
  of_members f o there = ap (λ (p : Option Named). option_map f p) (sym (found o there))

  named : name_at n (value_view v) ≡ option_map (λ (m : Named). m.0) (slice_get (map named_in a.items) n)
  named = ap (name_at n) (ap value_view is ∙ view-Object a)
      ∙ ap (λ (ms : List Named). option_map (λ (m : Named). m.0) (slice_get ms n)) (members_again a.items)

  valued : value_at n (value_view v) ≡ option_map (λ (m : Named). m.1) (slice_get (map named_in a.items) n)
  valued = ap (value_at n) (ap value_view is ∙ view-Object a)
      ∙ ap (λ (ms : List Named). option_map (λ (m : Named). m.1) (slice_get ms n)) (members_again a.items)

  pub member_name : (m : Member) → n < length xs → m ≡ get_or xs n m → Some m.0.now ≡ name_at n (value_view v)
  member_name m within is_it =
      of_members (λ (m : Named). m.0) (Some m) (slice_get_read xs (length xs) n m refl within is_it) ∙ sym named

  pub no_member_name : length xs ≤ n → None ≡ name_at n (value_view v)
  no_member_name past = of_members (λ (m : Named). m.0) None (slice_get_past xs n past) ∙ sym named

  pub member_value : (m : Member) → n < length xs → m ≡ get_or xs n m → Some (value_view m.1) ≡ value_at n (value_view v)
  member_value m within is_it =
      of_members (λ (m : Named). m.1) (Some m) (slice_get_read xs (length xs) n m refl within is_it) ∙ sym valued

  pub no_member_value : length xs ≤ n → None ≡ value_at n (value_view v)
  no_member_value past = of_members (λ (m : Named). m.1) None (slice_get_past xs n past) ∙ sym valued
