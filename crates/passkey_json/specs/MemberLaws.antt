-- Each way to decode a member gives the value that was encoded, and its faults are those of the member.
use Rattle.std.specs.Option.{option_and_then}
use Rattle.std.specs.Prelude.{◌≡◌, ℕ, Bool, true, false, cond, List, ◌∷◌, Option, Some, None, is_some, option_map, Result, Ok, Err, is_ok, refl}
use Rattle.std.specs.Option.{ok_or}
use Rattle.std.proofs.Common.{sym, ap, ◌∙◌}
use Rattle.passkey_json.specs.Along.{accepts}
use Rattle.passkey_json.specs.Fault.{Fault, missing, refused, float, fault_name}
use Rattle.passkey_json.specs.Kind.{Kind, optional, each, list, accepted, accepted_of, kept}
use Rattle.passkey_json.specs.Members.{Member, under, fault_of, required, required_tolerated, or_default, if_present, tolerated, accepted_list}
use Rattle.passkey_json.specs.Written.{ReadsBack, ReadsBackIf}
use Rattle.serde_json.specs.Data.{Data, array, Items, no_items, item}
use Rattle.serde_json.specs.Written.{has_float}

module _ {A : Type 0} {kind : Kind A} {x : A} {d : Data} (back : ReadsBack kind x d) (name : List ℕ) where
  pub required_back : required kind (under name (Some d)) ≡ Ok x
  unfolding required
  required_back = rw back.plain refl

  pub or_default_back : (default : A) → or_default default kind (under name (Some d)) ≡ Ok x
  unfolding or_default
  or_default_back default = rw back.plain refl

  pub tolerated_back : (default : A) → tolerated default kind (under name (Some d)) ≡ Ok x
  unfolding tolerated
  tolerated_back default = rw back.plain refl

  pub required_tolerated_back : (default : A) → required_tolerated default kind (under name (Some d)) ≡ Ok x
  unfolding required_tolerated
  required_tolerated_back default = rw back.plain refl

-- ---- lists of which all elements are accepted

kept_all : {A : Type 0} (o : Option A) (all : Option (List A)) (rest xs : List A) → ((ys : List A) → all ≡ Some ys
    → rest ≡ ys) → option_and_then (λ x. option_map (λ ys. x ∷ ys) all) o ≡ Some xs → kept o rest ≡ xs
kept_all None all rest xs h e = cc
kept_all (Some x) None rest xs h e = cc
kept_all (Some x) (Some ys) rest xs h e = let same = h ys refl in cc

accepted_all : {A : Type 0} (kind : Kind A) (ds : Items) (xs : List A) → each kind ds ≡ Some xs
    → accepted_of kind ds ≡ xs
accepted_all kind no_items xs e = cc
accepted_all kind (item d ds) xs e =
    kept_all (kind d) (each kind ds) (accepted_of kind ds) xs (accepted_all kind ds) e

accepted_back : {A : Type 0} (kind : Kind A) (d : Data) (xs : List A) → list kind d ≡ Some xs
    → accepted kind d ≡ Some xs
accepted_back kind (array ds) xs e = rw (accepted_all kind ds xs e) refl
accepted_back kind _ xs e = cc

pub required_list_back : {A : Type 0} (kind : Kind A) (xs : List A) (d : Data) → ReadsBack (list kind) xs d
    → (name : List ℕ) → required (accepted kind) (under name (Some d)) ≡ Ok xs
unfolding required
required_list_back kind xs d back name = rw (accepted_back kind d xs back.plain) refl

-- ---- members that may be absent

module _ {A : Type 0} (kind : Kind A) (json : A → Data) (name : List ℕ) where
  pub optional_back : (o : Option A) → ReadsBackIf kind json o
      → or_default None (optional kind) (under name (option_map json o)) ≡ Ok o
  unfolding or_default
  optional_back None back = refl
  optional_back (Some x) back = rw back.there.some refl

  pub present_back : (o : Option A) → ReadsBackIf kind json o → if_present kind (under name (option_map json o)) ≡ Ok o
  unfolding if_present
  present_back None back = refl
  present_back (Some x) back = rw back.there.plain refl

  pub tolerated_optional_back : (o : Option A) → ReadsBackIf kind json o
      → tolerated None (optional kind) (under name (option_map json o)) ≡ Ok o
  unfolding tolerated
  tolerated_optional_back None back = refl
  tolerated_optional_back (Some x) back = rw back.there.some refl

pub accepted_list_back : {A : Type 0} (kind : Kind A) (json : List A → Data) (name : List ℕ) (o : Option (List A))
    → ReadsBackIf (list kind) json o → accepted_list kind (under name (option_map json o)) ≡ Ok o
unfolding accepted_list
accepted_list_back kind json name None back = refl
accepted_list_back kind json name (Some xs) back = rw (accepted_back kind (json xs) xs back.there.plain) refl

-- ---- faults

-- The member's value is accepted exactly if the test accepts it, whatever the member's name is; and each fault names the
-- member.
pub record Judges {A : Type 0} (read : Member → Result A Fault) (test : Data → Bool) : Type 0 where
  pub says : (name : List ℕ) (d : Data) → is_ok (read (under name (Some d))) ≡ test d
  pub names : (name : List ℕ) (o : Option Data) (f : Fault) → read (under name o) ≡ Err f → fault_name f ≡ Some name

named_fault : (name : List ℕ) (d : Data) → fault_name (fault_of name d) ≡ Some name
named_fault name d = by_float (has_float d) where
  by_float : (b : Bool) → fault_name (cond b (float name) (refused name)) ≡ Some name
  by_float true = refl
  by_float false = refl

judged_names : {A : Type 0} (o : Option A) (name : List ℕ) (d : Data) (f : Fault) → ok_or o (fault_of name d) ≡ Err f
    → fault_name f ≡ Some name
judged_names (Some x) name d f e = absurd cc
judged_names None name d f e = let is : fault_of name d ≡ f = cc in ap fault_name (sym is) ∙ named_fault name d

judged_ok : {A : Type 0} (o : Option A) (f : Fault) → is_ok (ok_or o f) ≡ is_some o
judged_ok (Some x) f = refl
judged_ok None f = refl

missing_name : (A : Type 0) (name : List ℕ) (f : Fault) (r : Result A Fault) → r ≡ Err (missing name) → r ≡ Err f
    → fault_name f ≡ Some name
missing_name A name f r e g = let is : missing name ≡ f = cc in ap fault_name (sym is)

mapped : {A : Type 0} (o : Option A) → is_some (option_map (λ x. Some x) o) ≡ is_some o
mapped (Some x) = refl
mapped None = refl

module _ {A : Type 0} (kind : Kind A) where
  pub required_judges : Judges (required kind) (accepts kind)
  unfolding required
  required_judges = record { says = λ name d. judged_ok (kind d) (fault_of name d); names = names } where
    names : (name : List ℕ) (o : Option Data) (f : Fault) → required kind (under name o) ≡ Err f → fault_name f ≡ Some name
    names name (Some d) f e = judged_names (kind d) name d f e
    names name None f e = missing_name A name f (Err (missing name)) refl e

  pub or_default_judges : (default : A) → Judges (or_default default kind) (accepts kind)
  unfolding or_default
  or_default_judges default = record { says = λ name d. judged_ok (kind d) (fault_of name d); names = names } where
    names : (name : List ℕ) (o : Option Data) (f : Fault) → or_default default kind (under name o) ≡ Err f
        → fault_name f ≡ Some name
    names name (Some d) f e = judged_names (kind d) name d f e
    names name None f e = absurd cc

  pub present_judges : Judges (if_present kind) (accepts kind)
  unfolding if_present
  present_judges = record {
    says = λ name d. judged_ok (option_map (λ x. Some x) (kind d)) (fault_of name d) ∙ mapped (kind d);
    names = names;
  } where
    names : (name : List ℕ) (o : Option Data) (f : Fault) → if_present kind (under name o) ≡ Err f
        → fault_name f ≡ Some name
    names name (Some d) f e = judged_names (option_map (λ x. Some x) (kind d)) name d f e
    names name None f e = absurd cc

  pub tolerated_judges : (default : A) → Judges (tolerated default kind) (λ d. true)
  unfolding tolerated
  tolerated_judges default = record { says = λ name d. refl; names = λ name o f e. absurd cc }

  pub accepted_list_judges : Judges (accepted_list kind) (λ d. true)
  unfolding accepted_list
  accepted_list_judges = record { says = λ name d. refl; names = λ name o f e. absurd cc }

  pub required_tolerated_judges : (default : A) → Judges (required_tolerated default kind) (λ d. true)
  unfolding required_tolerated
  required_tolerated_judges default = record { says = λ name d. refl; names = names } where
    names : (name : List ℕ) (o : Option Data) (f : Fault) → required_tolerated default kind (under name o) ≡ Err f
        → fault_name f ≡ Some name
    names name (Some d) f e = absurd cc
    names name None f e = missing_name A name f (Err (missing name)) refl e
