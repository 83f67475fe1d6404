-- Turns of the loops over the elements of arrays.
use Rattle.std.proofs.Common.{◌≡◌, ◌∙◌, ℕ, suc, ◌+◌, ◌<◌, ◌≤◌, Bool, false, IsTrue, List, [], ◌∷◌, ◌++◌, length, take, drop, map, get_or, Option, Some, None, option_map, Result, Err, Vec, Global, refl, sym, ap, append_assoc, append-nil, add-one, drop-cons}
use Rattle.std.proofs.lemmas.List.{at_drop_all, drop_all, map-append, take_all, take_more}
use Rattle.std.proofs.lemmas.Result.{err_from_is_err_and}
use Rattle.std.specs.Result.{IsErrAnd}
use Rattle.passkey_json.specs.Kind.{Kind, Answers, list, each, is_array, accepted, accepted_of}
use Rattle.passkey_json.specs.declared.json_refusal.JsonRefusal.{JsonRefusal}
use Rattle.passkey_json.specs.declared.json_refusal.JsonRefusal.TheVariants.{Refused, OutOfMemory}
use Rattle.passkey_json.specs.Written.{ReadsBack, list_json}
use Rattle.serde_json.specs.Data.{Data, Items, item, array}
use Rattle.serde_json.specs.View.{items_of, items_view, view}
use Rattle.serde_json.specs.Written.{has_float, items_have_float}
use Rattle.serde_json.specs.declared.value.Value.{Value, Array}
use Rattle.serde_json.proofs.Views.{view-Array}

-- the elements from one on
pub next_item : (vs : List Value) (i : ℕ) (v : Value) → v ≡ get_or vs i v → i < length vs
    → items_view (drop i vs) ≡ item (view v) (items_view (drop (i + 1) vs))
next_item vs i v is within =
    rw add-one (ap items_view (drop-cons vs i v within)
    ∙ ap (λ (w : Value). item (view w) (items_view (drop (suc i) vs))) (sym is))

pub array_view : (w : Value) (v : Vec Value Global) (vs : List Value) → w ≡ Array v → vs ≡ v.items
    → view w ≡ array (items_view vs)
array_view w v vs is same = rw (is, same) (view-Array v)

array_takes : (w : Value) (v : Vec Value Global) → w ≡ Array v → IsTrue (is_array (view w))
array_takes w v is = rw (is, view-Array v) refl

pub no_memory : {A : Type 0} (kind : Kind A) (r : Result A JsonRefusal) (w : Value) (v : Vec Value Global)
    → w ≡ Array v → IsErrAnd r (λ e. e ≡ OutOfMemory) → Answers kind is_array (view w) r
no_memory kind r w v is lacks =
    let p = err_from_is_err_and r lacks in
    rw (p.1, p.2) (array_takes w v is)

module _ {A : Type 0} (kind : Kind A) where
  joined : (read : List A) (x : A) (o : Option (List A))
      → option_map (λ xs. read ++ xs) (option_map (λ xs. x ∷ xs) o)
      ≡ option_map (λ xs. (read ++ x ∷ []) ++ xs) o
  joined read x (Some xs) = ap Some (sym (append_assoc read (x ∷ []) xs))
  joined read x None = refl

  -- one more element has a value
  pub each_more : (read new : List A) (x : A) (left rest : Items) (d : Data) → left ≡ item d rest
      → kind d ≡ Some x → new ≡ read ++ x ∷ []
      → option_map (λ xs. new ++ xs) (each kind rest) ≡ option_map (λ xs. read ++ xs) (each kind left)
  each_more read new x left rest d next has grown = rw (grown, next, has) (sym (joined read x (each kind rest)))

  -- an element has none
  each_fails : (read : List A) (vs : List Value) (left rest : Items) (d e : Data) → left ≡ item d rest
      → kind d ≡ None → option_map (λ xs. read ++ xs) (each kind left) ≡ each kind (items_view vs)
      → e ≡ array (items_view vs) → list kind e ≡ None
  each_fails read vs left rest d e next none all is =
      let fails : option_map (λ xs. read ++ xs) (each kind left) ≡ None = rw (next, none) refl in
      rw is (sym all ∙ fails)

  -- an element isn't decoded
  pub element_fails : (e : JsonRefusal) (takes : Data → Bool) (read : List A) (left rest : Items) (d : Data)
      (r : Result (List A) JsonRefusal) (w : Value) (v : Vec Value Global) (vs : List Value)
      → left ≡ item d rest → Answers kind takes d (Err e)
      → option_map (λ xs. read ++ xs) (each kind left) ≡ each kind (items_view vs) → w ≡ Array v → vs ≡ v.items
      → IsErrAnd r (λ x. x ≡ e) → Answers (list kind) is_array (view w) r
  element_fails Refused takes read left rest d r w v vs next none all is same fails =
      let p = err_from_is_err_and r fails in
      rw (p.1, p.2) (each_fails read vs left rest d (view w) next none all (array_view w v vs is same))
  element_fails OutOfMemory takes read left rest d r w v vs next lacks all is same fails =
      no_memory (list kind) r w v is fails

  -- all elements have values
  pub each_read : (read result : List A) (vs : List Value) (i : ℕ) (d : Data) → length vs ≤ i
      → option_map (λ xs. read ++ xs) (each kind (items_view (drop i vs))) ≡ each kind (items_view vs)
      → d ≡ array (items_view vs) → result ≡ read → list kind d ≡ Some result
  each_read read result vs i d end all is same =
      let left : List Value → Option (List A) = λ us. option_map (λ xs. read ++ xs) (each kind (items_view us)) in
      rw (is, same) (sym all ∙ at_drop_all left vs i end ∙ ap Some (append-nil read))

  -- one more element is accepted
  pub accepted_more : (read new : List A) (x : A) (left rest : Items) (d : Data) → left ≡ item d rest
      → kind d ≡ Some x → new ≡ read ++ x ∷ [] → new ++ accepted_of kind rest ≡ read ++ accepted_of kind left
  accepted_more read new x left rest d next has grown =
      rw (grown, next, has) (append_assoc read (x ∷ []) (accepted_of kind rest))

  -- one more element is skipped
  pub accepted_less : (read new : List A) (left rest : Items) (d : Data) → left ≡ item d rest → kind d ≡ None
      → new ≡ read → new ++ accepted_of kind rest ≡ read ++ accepted_of kind left
  accepted_less read new left rest d next none same = rw (same, next, none) refl

  -- no element is left
  pub accepted_read : (read result : List A) (vs : List Value) (i : ℕ) (d : Data) → length vs ≤ i
      → read ++ accepted_of kind (items_view (drop i vs)) ≡ accepted_of kind (items_view vs)
      → d ≡ array (items_view vs) → result ≡ read → accepted kind d ≡ Some result
  accepted_read read result vs i d end all is same =
      let left : List Value → List A = λ us. read ++ accepted_of kind (items_view us) in
      rw (is, same) (ap Some (sym all ∙ at_drop_all left vs i end ∙ append-nil read))

-- ---- elements that are encoded one after the other

module _ {A : Type 0} (json : A → Data) where
  -- one more element is encoded
  pub written_more : (xs : List A) (i : ℕ) (x : A) (new old : List Data) (d : Data) → x ≡ get_or xs i x
      → i < length xs → new ≡ old ++ d ∷ [] → d ≡ json x → old ≡ map json (take i xs) → new ≡ map json (take (i + 1) xs)
  written_more xs i x new old d is within grown same so_far =
      rw (grown, same, so_far, take_more xs i x within, map-append, ← is) refl

  pub written_all : (xs : List A) (i : ℕ) (v : Vec Value Global) → length xs ≤ i
      → map view v.items ≡ map json (take i xs) → view (Array v) ≡ list_json json xs
  written_all xs i v end all =
      view-Array v ∙ ap (λ (ds : List Data). array (items_of ds)) (all ∙ ap (map json) (take_all i xs end))

  module _ (kind : Kind A) where
    pub back_more : (xs : List A) (i : ℕ) (x : A) → x ≡ get_or xs i x → i < length xs
        → ReadsBack kind x (json x)
        → each kind (items_of (map json (drop (i + 1) xs))) ≡ Some (drop (i + 1) xs)
        → each kind (items_of (map json (drop i xs))) ≡ Some (drop i xs)
    back_more xs i x is within here later =
        let next : drop i xs ≡ x ∷ drop (i + 1) xs = rw (add-one, drop-cons xs i x within, ← is) refl in
        rw (next, here.plain, later) refl

    pub back_all : (xs : List A) (i : ℕ) → length xs ≤ i
        → (each kind (items_of (map json (drop i xs))) ≡ Some (drop i xs)
        → each kind (items_of (map json xs)) ≡ Some xs) → ReadsBack (list kind) xs (list_json json xs)
    back_all xs i end back =
        let e = back (rw (drop_all i xs end) refl) in
        record { plain = e; some = ap (λ (o : Option (List A)). option_map Some o) e }

pub array_free : (v : Vec Value Global) → items_have_float (items_of (map view v.items)) ≡ false
    → has_float (view (Array v)) ≡ false
array_free v free = ap has_float (view-Array v) ∙ free
