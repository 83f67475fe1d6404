-- The first pair with a label, as a member of a key.
use Rattle.std.specs.List.{find, list_any}
use Rattle.std.proofs.Common.{◌≡◌, ◌∙◌, ◌+◌, ◌<◌, ℕ, suc, length, get_or, drop, drop-cons, ◌||◌, Bool, true, false, List, [], ◌∷◌, map, cond, Option, Some, None, option_map, is_some, Bor, refl, sym, ap}
use Rattle.std.proofs.Math.Numerals.{add-one}
use Rattle.passkey_cbor.specs.Item.{Item}
use Rattle.passkey_cbor.specs.View.{item_of}
use Rattle.passkey_cbor.specs.declared.value.Value.{Value}

abbrev pub seen : {K : Type 0} → (K → Item) → K × Value → Item × Item
seen name p = (name p.0, item_of p.1)

map_twice : {X Y Z : Type 0} (f : X → Y) (g : Y → Z) (o : Option X)
    → option_map g (option_map f o) ≡ option_map (λ x. g (f x)) o
map_twice f g None = refl
map_twice f g (Some x) = refl

is_some-map : {X Y : Type 0} (f : X → Y) (o : Option X) → is_some (option_map f o) ≡ is_some o
is_some-map f None = refl
is_some-map f (Some x) = refl

is_some-cond : {X : Type 0} (b : Bool) (x : X) (o : Option X) → is_some (cond b (Some x) o) ≡ (b || is_some o)
is_some-cond true x o = refl
is_some-cond false x o = refl

is_some-find : {X : Type 0} (test : X → Bool) (xs : List X) → is_some (find test xs) ≡ list_any test xs
is_some-find test [] = refl
is_some-find test (x ∷ xs) = is_some-cond (test x) x (find test xs) ∙ ap (λ b. test x || b) (is_some-find test xs)

map-cond : {X Y : Type 0} (f : X → Y) (b : Bool) (x : X) (o : Option X)
    → option_map f (cond b (Some x) o) ≡ cond b (Some (f x)) (option_map f o)
map-cond f true x o = refl
map-cond f false x o = refl

module _ {K : Type 0} (name : K → Item) (test : Item × Item → Bool) (used : K → Bool)
    (same : (p : K × Value) → used p.0 ≡ test (seen name p)) where
  found : (ps : List (K × Value))
      → option_map (seen name) (find (λ p. used p.0) ps) ≡ find test (map (seen name) ps)
  found [] = refl
  found (p ∷ ps) =
      map-cond (seen name) (used p.0) p (find (λ p. used p.0) ps)
      ∙ ap (λ b. cond b (Some (seen name p)) (option_map (seen name) (find (λ p. used p.0) ps))) (same p)
      ∙ ap (cond (test (seen name p)) (Some (seen name p))) (found ps)

  -- the value that was found is that of the first member with the label
  pub value_found : (ps : List (K × Value)) (r : Option (Bor Value)) → option_map (λ (v : Bor Value). v.now) r
      ≡ option_map (λ (p : K × Value). p.1) (find (λ p. used p.0) ps) → option_map
      (λ (v : Bor Value). item_of v.now) r ≡ option_map (λ (m : Item × Item). m.1) (find test (map (seen name) ps))
  value_found ps r e =
      sym (map_twice (λ (v : Bor Value). v.now) item_of r)
      ∙ ap (option_map item_of) e
      ∙ map_twice (λ (p : K × Value). p.1) item_of (find (λ p. used p.0) ps)
      ∙ sym (map_twice (seen name) (λ (m : Item × Item). m.1) (find (λ p. used p.0) ps))
      ∙ ap (option_map (λ (m : Item × Item). m.1)) (found ps)

  -- a value is found exactly if there is a member with the label
  pub any_found : (ps : List (K × Value)) (r : Option (Bor Value))
      → option_map (λ (v : Bor Value). v.now) r ≡ option_map (λ (p : K × Value). p.1) (find (λ p. used p.0) ps)
      → is_some r ≡ list_any test (map (seen name) ps)
  any_found ps r e =
      sym (is_some-map (λ (v : Bor Value). v.now) r)
      ∙ ap is_some e
      ∙ is_some-map (λ (p : K × Value). p.1) (find (λ p. used p.0) ps)
      ∙ sym (is_some-map (seen name) (find (λ p. used p.0) ps))
      ∙ ap is_some (found ps)
      ∙ is_some-find test (map (seen name) ps)

-- equality in either direction
pub any_other_way : {X : Type 0} (E : X → X → Bool) (symm : (x y : X) → E x y ≡ E y x) {V : Type 0} (f : V → X)
    (v : V) (vs : List V) → list_any (λ w. E (f w) (f v)) vs ≡ list_any (E (f v)) (map f vs)
any_other_way E symm f v [] = refl
any_other_way E symm f v (w ∷ ws) = ap (λ b. b || list_any (λ w. E (f w) (f v)) ws) (symm (f w) (f v))
    ∙ ap (λ b. E (f v) (f w) || b) (any_other_way E symm f v ws)

-- the first pair with a label, from an index on
pub find_from : {L V : Type 0} (test : L → Bool) (ps : List (L × V)) (i : ℕ) (p : L × V) → i < length ps
    → p ≡ get_or ps i p
    → find (λ q. test q.0) (drop i ps) ≡ cond (test p.0) (Some p) (find (λ q. test q.0) (drop (i + 1) ps))
find_from test ps i p within is =
    rw (add-one i) (ap (find (λ q. test q.0)) (drop-cons ps i p within)
    ∙ ap (λ q. cond (test q.0) (Some q) (find (λ q. test q.0) (drop (suc i) ps))) (sym is))
