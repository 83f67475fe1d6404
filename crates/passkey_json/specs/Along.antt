-- What is blamed is in the JSON value, and a value there is refused whatever surrounds it.
use Rattle.std.specs.Prelude.{◌≡◌, ◌⊎◌, ℕ, zero, suc, ◌+◌, Bool, true, false, if◌then◌else◌, List, [], ◌∷◌, Option, Some, None, is_some, option_map, refl}
use Rattle.std.specs.Option.{option_and_then}
use Rattle.std.specs.FinMap as fin
use Rattle.std.specs.Ordering.{nat_cmp, match_ordering}
use Rattle.std.specs.Cmp.Lexicographic.{slice_cmp}
use Rattle.std.specs.declared.cmp.Ordering.{Ordering}
use Rattle.std.specs.declared.cmp.Ordering.TheVariants.{Less, Equal, Greater}
use Rattle.std.proofs.Common.{sym, subst, ◌∙◌, arith, inl, inr, true≢false, zero-add}
use Rattle.passkey_bytes.specs.Map.{ByteMap}
use Rattle.passkey_json.specs.Kind.{Kind, accepted, optional, each, list}
use Rattle.passkey_json.specs.MapKind.{with_members, map_from_texts}
use Rattle.passkey_json.specs.Shape.{Shape, leaf, list as list_of, record_of, tolerant, Rows, no_rows, row, Tested, Step, named, element, part_at, Part, part, first_element, first_member, within}
use Rattle.passkey_json.specs.Shape as shape
use Rattle.passkey_json.specs.declared.wanted.WantedJson.{WantedJson}
use Rattle.serde_json.specs.Data.{Data, null, boolean, number, string, array, object, Items, no_items, item, Members, no_members, member}
use Rattle.serde_json.specs.Find.{get, get_member, get_item, at}

-- whether the kind accepts a JSON value
abbrev pub accepts : {A : Type 0} → Kind A → Data → Bool
accepts kind d = is_some (kind d)

-- any value, of which the accepted ones are kept; an array of values that are all accepted; an array of any values, of
-- which these are kept; and an object of accepted values
abbrev pub tolerant_shape : {A : Type 0} → Kind A → Shape → Shape
tolerant_shape kind s = tolerant (accepts kind) s

abbrev pub list_shape : {A : Type 0} → Kind A → Shape → Shape
list_shape kind s = shape.list (accepts kind) s

abbrev pub accepted_shape : {A : Type 0} → Kind A → Shape → Shape
accepted_shape kind s = shape.list (λ d. true) (tolerant_shape kind s)

abbrev pub map_shape : {A : Type 0} → Kind A → Shape → Shape
map_shape kind s = shape.map (accepts kind) s

-- ---- the law

-- the value that the steps lead to, if there is one
abbrev pub value_along : List Step → Data → Option Data
value_along [] d = Some d
value_along (s ∷ ss) d = option_and_then (value_along ss) (part_at s d)

-- The steps lead to a value in d, and every JSON value in which they lead to that value is refused.
pub record IsRefusedAt (accepts : Data → Bool) (d : Data) (path : List Step) : Type 0 where
  pub part : Data
  pub there : value_along path d ≡ Some part
  pub refused : (e : Data) → value_along path e ≡ Some part → accepts e ≡ false

-- each name stands once in an object, as in all of `serde_json`'s
abbrev pub HasMember : List ℕ → Data → Members → Type 0
HasMember name d no_members = ⊥
HasMember name d (member l e ms) = ((name ≡ l) × (d ≡ e)) ⊎ HasMember name d ms

-- each member is found by its name
abbrev pub FindsEach : Members → Type 0
FindsEach ms = (name : List ℕ) (d : Data) → HasMember name d ms → get_member name ms ≡ Some d

-- in each object inside, too
abbrev pub IsOnce : Data → Type 0
IsOnce d = (path : List Step) (ms : Members) → value_along path d ≡ Some (object ms) → FindsEach ms

-- The path goes where the shape finds something to blame, step by step.
abbrev pub Leads : List Step → Shape → Data → Type 0
Leads [] s d = Unit {0}
Leads (t ∷ ts) s d = (p : Part) × ((within s d ≡ Some p) × ((p.step ≡ t) × Leads ts p.as_part.shape p.value))

-- Where that is in a JSON value that is refused, a value is refused whatever surrounds it.
abbrev pub Holds : Tested → Type 0
Holds t = (d : Data) (path : List Step) → IsOnce d → t.accepts d ≡ false → Leads path t.shape d
    → IsRefusedAt t.accepts d path

-- The part is there and refused, and so is every JSON value with a refused value at its place.
pub record IsWithin (accepts : Data → Bool) (d : Data) (p : Part) : Type 0 where
  pub leads : part_at p.step d ≡ Some p.value
  pub refused : p.as_part.accepts p.value ≡ false
  pub holds : Holds p.as_part
  pub outer : (e x : Data) → part_at p.step e ≡ Some x → p.as_part.accepts x ≡ false → accepts e ≡ false

-- What the shape blames within a JSON value that is refused is to blame.
abbrev pub Strict : (Data → Bool) → Shape → Type 0
Strict accepts s = (d : Data) (p : Part) → IsOnce d → accepts d ≡ false → within s d ≡ Some p → IsWithin accepts d p

-- The same where any value is tolerated, of the values that are kept.
abbrev mutual
  pub Sound : Shape → Type 0
  Sound (leaf w) = Unit {0}
  Sound (list_of a s) = Sound s
  Sound (shape.map a s) = Sound s
  Sound (record_of fault rows) = AreSound rows
  Sound (tolerant keeps s) = Strict keeps s × Sound s

  pub AreSound : Rows → Type 0
  AreSound no_rows = Unit {0}
  AreSound (row e a s rs) = Sound s × AreSound rs

-- ---- step by step

itself : (accepts : Data → Bool) (d : Data) → accepts d ≡ false → IsRefusedAt accepts d []
itself accepts d bad = record {
  part = d;
  there = refl;
  refused = λ e same. let is : e ≡ d = cc in subst (λ (x : Data). accepts x ≡ false) (sym is) bad;
}

once_in : (s : Step) (d part : Data) → part_at s d ≡ Some part → IsOnce d → IsOnce part
once_in s d part here once path ms e = once (s ∷ path) ms (rw here e)

inside : (outer inner : Data → Bool) (s : Step) (d part : Data) (path : List Step) → part_at s d ≡ Some part
    → IsRefusedAt inner part path → ((e x : Data) → part_at s e ≡ Some x → inner x ≡ false → outer e ≡ false)
    → IsRefusedAt outer d (s ∷ path)
inside outer inner s d part path here b implies =
    record { part = b.part; there = rw here b.there; refused = λ e same. by_part e (part_at s e) refl same } where
      by_part : (e : Data) (o : Option Data) → part_at s e ≡ o → option_and_then (value_along path) o ≡ Some b.part
          → outer e ≡ false
      by_part e None at same = absurd cc
      by_part e (Some x) at same = implies e x at (b.refused x same)

pub holds : (t : Tested) → Strict t.accepts t.shape → Holds t
holds t strict d [] once bad leads = itself t.accepts d bad
holds t strict d (s ∷ ss) once bad leads =
    let p = leads.0 in
    let w = strict d p once bad leads.1.0 in
    let b = w.holds p.value ss (once_in p.step d p.value w.leads once) w.refused leads.1.1.1 in
    subst (λ (x : Step). IsRefusedAt t.accepts d (x ∷ ss)) leads.1.1.0
    (inside t.accepts p.as_part.accepts p.step d p.value ss w.leads b w.outer)

-- ---- types without parts, and those that accept every value

pub leaf_strict : (a : Data → Bool) (w : WantedJson) → Strict a (leaf w)
leaf_strict a w d p once bad e = absurd cc

pub any_strict : (s : Shape) → Strict (λ d. true) s
any_strict s d p once bad e = absurd (true≢false bad)

-- ---- options

some_as : {A : Type 0} (o : Option A) → is_some (option_map (λ x. Some x) o) ≡ is_some o
some_as None = refl
some_as (Some x) = refl

module _ {A : Type 0} (kind : Kind A) where
  option_refuses : (d : Data) → accepts (optional kind) d ≡ false → accepts kind d ≡ false
  option_refuses null bad = absurd (true≢false bad)
  option_refuses (boolean b) bad = sym (some_as (kind (boolean b))) ∙ bad
  option_refuses (number n) bad = sym (some_as (kind (number n))) ∙ bad
  option_refuses (string s) bad = sym (some_as (kind (string s))) ∙ bad
  option_refuses (array ds) bad = sym (some_as (kind (array ds))) ∙ bad
  option_refuses (object ms) bad = sym (some_as (kind (object ms))) ∙ bad

  nothing_there : (s : Step) (x : Data) → part_at s null ≡ Some x → ⊥
  nothing_there (named name) x e = absurd cc
  nothing_there (element n) x e = absurd cc

  option_fails : (s : Step) (e x : Data) → part_at s e ≡ Some x → accepts kind e ≡ false
      → accepts (optional kind) e ≡ false
  option_fails s null x there bad = absurd (nothing_there s x there)
  option_fails s (boolean b) x there bad = some_as (kind (boolean b)) ∙ bad
  option_fails s (number n) x there bad = some_as (kind (number n)) ∙ bad
  option_fails s (string t) x there bad = some_as (kind (string t)) ∙ bad
  option_fails s (array ds) x there bad = some_as (kind (array ds)) ∙ bad
  option_fails s (object ms) x there bad = some_as (kind (object ms)) ∙ bad

  pub option_strict : (s : Shape) → Strict (accepts kind) s → Strict (accepts (optional kind)) s
  option_strict s strict d p once bad e =
      let w = strict d p once (option_refuses d bad) e in
      record {
        leads = w.leads;
        refused = w.refused;
        holds = w.holds;
        outer = λ e x there no. option_fails p.step e x there (w.outer e x there no);
      }

-- ---- elements and members

-- the part is there, and refused as this
pub record IsFound (t : Tested) (d : Data) (p : Part) : Type 0 where
  pub leads : part_at p.step d ≡ Some p.value
  pub refused : t.accepts p.value ≡ false
  pub is : p.as_part ≡ t

pub found_within : (a : Data → Bool) (t : Tested) (d : Data) (p : Part) → Holds t → IsFound t d p
    → ((e x : Data) → part_at p.step e ≡ Some x → t.accepts x ≡ false → a e ≡ false) → IsWithin a d p
found_within a t d p h f fails = record {
  leads = f.leads;
  refused = subst (λ (u : Tested). u.accepts p.value ≡ false) (sym f.is) f.refused;
  holds = subst (λ (u : Tested). Holds u) (sym f.is) h;
  outer = λ e x there bad. fails e x there (subst (λ (u : Tested). u.accepts x ≡ false) f.is bad);
}

element_found : (t : Tested) (whole : Data) (n : ℕ) (ds : Items) (p : Part)
    → ((k j : ℕ) → j ≡ n + k → get_item k ds ≡ at j whole) → first_element t n ds ≡ Some p → IsFound t whole p
element_found t whole n no_items p finds e = absurd cc
element_found t whole n (item x xs) p finds e =
    by_test (element_found t whole (suc n) xs p (λ k j is. finds (suc k) j (omega arith))) (t.accepts x) refl e where
      by_test : (first_element t (suc n) xs ≡ Some p → IsFound t whole p) → (b : Bool) → t.accepts x ≡ b
          → (if b then first_element t (suc n) xs else Some (part (element n) x t)) ≡ Some p → IsFound t whole p
      by_test later true a e = later e
      by_test later false a e =
          let same : part (element n) x t ≡ p = cc in
          subst (λ (q : Part). IsFound t whole q) same
          (record { leads = sym (finds 0 n (omega arith)); refused = a; is = refl })

member_found : (t : Tested) (whole : Data) (ms : Members) (p : Part)
    → ((name : List ℕ) (x : Data) → HasMember name x ms → get name whole ≡ Some x) → first_member t ms ≡ Some p
    → IsFound t whole p
member_found t whole no_members p finds e = absurd cc
member_found t whole (member l x ms) p finds e =
    by_test (member_found t whole ms p (λ name y has. finds name y (inr has))) (t.accepts x) refl e where
      by_test : (first_member t ms ≡ Some p → IsFound t whole p) → (b : Bool) → t.accepts x ≡ b
          → (if b then first_member t ms else Some (part (named l) x t)) ≡ Some p → IsFound t whole p
      by_test later true a e = later e
      by_test later false a e =
          let same : part (named l) x t ≡ p = cc in
          subst (λ (q : Part). IsFound t whole q) same
          (record { leads = finds l x (inl (refl, refl)); refused = a; is = refl })

-- ---- lists

head_fails : {A : Type 0} (o : Option A) (all : Option (List A)) → is_some o ≡ false
    → is_some (option_and_then (λ y. option_map (λ ys. y ∷ ys) all) o) ≡ false
head_fails None all f = refl
head_fails (Some y) all f = absurd cc

tail_fails : {A : Type 0} (o : Option A) (all : Option (List A)) → is_some all ≡ false
    → is_some (option_and_then (λ y. option_map (λ ys. y ∷ ys) all) o) ≡ false
tail_fails None all f = refl
tail_fails (Some y) None f = refl
tail_fails (Some y) (Some ys) f = absurd cc

module _ {A : Type 0} (kind : Kind A) where
  each_fails : (ds : Items) (n : ℕ) (x : Data) → get_item n ds ≡ Some x → accepts kind x ≡ false
      → is_some (each kind ds) ≡ false
  each_fails no_items n x e bad = absurd cc
  each_fails (item d ds) zero x e bad =
      let is : d ≡ x = cc in
      head_fails (kind d) (each kind ds) (subst (λ (y : Data). accepts kind y ≡ false) (sym is) bad)
  each_fails (item d ds) (suc n) x e bad = tail_fails (kind d) (each kind ds) (each_fails ds n x e bad)

  list_fails : (s : Step) (e x : Data) → part_at s e ≡ Some x → accepts kind x ≡ false → accepts (list kind) e ≡ false
  list_fails (element n) (array ds) x here bad = each_fails ds n x here bad
  list_fails (named name) (array ds) x here bad = absurd cc
  list_fails s _ x here bad = refl

  pub list_strict : (s : Shape) → Strict (accepts kind) s → Strict (accepts (list kind)) (list_shape kind s)
  list_strict s strict (array ds) p once bad e =
      let t : Tested = record { accepts = accepts kind; shape = s } in
      let f = element_found t (array ds) 0 ds p (λ k j is. rw (is, zero-add) refl) e in
      found_within (accepts (list kind)) t (array ds) p (holds t strict) f (list_fails p.step)
  list_strict s strict _ p once bad e = absurd cc

  -- no element is refused
  pub accepted_strict : (s : Shape) → Strict (accepts (accepted kind)) (accepted_shape kind s)
  accepted_strict s (array ds) p once bad e = absurd (true≢false bad)
  accepted_strict s _ p once bad e = absurd cc

-- ---- maps

module _ {A : Type 0} (kind : Kind A) (l : List ℕ) (m : ByteMap A) (ms : Members) where
  later_fails : ((y : A) → is_some (with_members kind (fin.insert m l y) ms) ≡ false) → (o : Option A)
      → is_some (option_and_then (λ y. with_members kind (fin.insert m l y) ms) o) ≡ false
  later_fails f None = refl
  later_fails f (Some y) = f y

  here_fails : (o : Option A) → is_some o ≡ false
      → is_some (option_and_then (λ y. with_members kind (fin.insert m l y) ms) o) ≡ false
  here_fails None f = refl
  here_fails (Some y) f = absurd cc

  member_fails : (name : List ℕ) (d x : Data) → accepts kind x ≡ false
      → (get_member name ms ≡ Some x → (y : A) → is_some (with_members kind (fin.insert m l y) ms) ≡ false)
      → (o : Ordering) → match_ordering o (get_member name ms) (Some d) (get_member name ms) ≡ Some x
      → is_some (option_and_then (λ y. with_members kind (fin.insert m l y) ms) (kind d)) ≡ false
  member_fails name d x bad later Less f = later_fails (later f) (kind d)
  member_fails name d x bad later Equal f =
      let is : d ≡ x = cc in here_fails (kind d) (subst (λ (y : Data). accepts kind y ≡ false) (sym is) bad)
  member_fails name d x bad later Greater f = later_fails (later f) (kind d)

module _ {A : Type 0} (kind : Kind A) where
  members_fail : (ms : Members) (name : List ℕ) (x : Data) → get_member name ms ≡ Some x → accepts kind x ≡ false
      → (m : ByteMap A) → is_some (with_members kind m ms) ≡ false
  members_fail no_members name x e bad m = absurd cc
  members_fail (member l d ms) name x e bad m =
      member_fails kind l m ms name d x bad (λ f y. members_fail ms name x f bad (fin.insert m l y))
      (slice_cmp nat_cmp name l) e

  map_fails : (s : Step) (e x : Data) → part_at s e ≡ Some x → accepts kind x ≡ false
      → accepts (map_from_texts kind) e ≡ false
  map_fails (named name) (object ms) x here bad = members_fail ms name x here bad fin.empty
  map_fails (element n) (object ms) x here bad = absurd cc
  map_fails s _ x here bad = refl

  pub map_strict : (s : Shape) → Strict (accepts kind) s → Strict (accepts (map_from_texts kind)) (map_shape kind s)
  map_strict s strict (object ms) p once bad e =
      let t : Tested = record { accepts = accepts kind; shape = s } in
      let f = member_found t (object ms) ms p (λ name x has. once [] ms refl name x has) e in
      found_within (accepts (map_from_texts kind)) t (object ms) p (holds t strict) f (map_fails p.step)
  map_strict s strict _ p once bad e = absurd cc
