-- What is to blame in a JSON value from which no client data is decoded.
use Rattle.std.proofs.Common.{◌≡◌, ◌∙◌, ℕ, Bool, true, false, not, ◌&&◌, ◌||◌, if◌then◌else◌, List, [], ◌∷◌, Option, Some, None, Result, Ok, Err, is_some, is_ok, inl, inr, refl, sym, ap, subst}
use Rattle.std.specs.Prelude.{codes}
use Rattle.std.specs.Result.{result_ok}
use Rattle.std.specs.Ordering.{nat_cmp, match_ordering}
use Rattle.std.specs.Cmp.Lexicographic.{slice_cmp}
use Rattle.std.specs.Option.{option_and_then}
use Rattle.std.proofs.lemmas.Map.Lookups.{exact_bytes}
use Rattle.std.specs.declared.cmp.Ordering.{Ordering}
use Rattle.std.specs.declared.cmp.Ordering.TheVariants.{Less, Equal, Greater}
use Rattle.passkey_webauthn_json.specs.client_data.ClientData.{ClientData, client_data_in, fixed_members}
use Rattle.passkey_webauthn_json.specs.client_data.ExtraData.{is_fixed, is_unknown}
use Rattle.passkey_webauthn_json.specs.client_data.MemberLists.{members_where}
use Rattle.passkey_webauthn_json.specs.declared.client_data.client_data.FixedMembers.{FixedMembers}
use Rattle.passkey_json.specs.Fault.{Fault, Gives, no_object, float}
use Rattle.passkey_json.specs.Members.{in_object, record_kind}
use Rattle.passkey_json.specs.Table.{members_in}
use Rattle.passkey_json.specs.declared.json_fault.JsonFault.{JsonFault}
use Rattle.serde_json.specs.Data.{Data, object, Members, no_members, member}
use Rattle.serde_json.specs.Find.{get, get_member}
use Rattle.serde_json.specs.Written.{has_float, members_have_float}
use Rattle.passkey_json.specs.Along.{accepts, HasMember, IsOnce, IsRefusedAt, value_along}
use Rattle.passkey_json.specs.Shape.{Step, named}
use Rattle.passkey_json.specs.Blame.{path_of, reason_of, wanted}
use Rattle.passkey_explain_json.specs.ClientDataBlame.{plain_client_data, is_client_data, none_known, nothing_read, first_float, IsBlamedOrFloat, IsClientDataExplained, ExplainsUnknown}
use Rattle.passkey_explain_json.proofs.Explained.{not_ok}
use Rattle.passkey_explain_json.specs.Explains.{IsExplained}
use Rattle.passkey_json.specs.declared.blame.JsonBlame.{JsonBlame}
use Rattle.passkey_json.specs.declared.json_fault.JsonFault.TheVariants as fault
use Rattle.passkey_json.specs.declared.wanted.WantedJson.TheVariants as want

abbrev fixed_in : Data → Result FixedMembers Fault
fixed_in = in_object (members_in fixed_members)

-- ---- the members that all client data has

fixed_fault : (d : Data) (f : Fault) → fixed_in d ≡ Err f → plain_client_data d ≡ Err f
unfolding client_data_in
fixed_fault (object ms) f e = rw e refl
fixed_fault _ f e = let is : no_object ≡ f = cc in ap (λ k. Err k) is

fixed_given : (d : Data) (g : JsonFault) → Gives ⊥ (fixed_in d) (Err g) → Gives ⊥ (plain_client_data d) (Err g)
fixed_given d fault.OutOfMemory h = h
fixed_given d fault.NotAnObject h = fixed_fault d _ h
fixed_given d (fault.Missing name) h = fixed_fault d _ h
fixed_given d (fault.Refused name) h = fixed_fault d _ h
fixed_given d (fault.Float name) h = fixed_fault d _ h
fixed_given d (fault.Repeated name) h = fixed_fault d _ h

fixed_case : (d : Data) (r : Result FixedMembers Fault) → fixed_in d ≡ r → is_some (result_ok r) ≡ false
    → is_client_data d ≡ false
fixed_case d (Ok x) e bad = absurd cc
fixed_case d (Err f) e bad = rw (fixed_fault d f e) refl

fixed_fails : (d : Data) → accepts (record_kind (members_in fixed_members)) d ≡ false → is_client_data d ≡ false
fixed_fails d bad = fixed_case d (fixed_in d) refl bad

pub fixed_explained : (d : Data) (f : JsonFault) (b : JsonBlame) → IsExplained fixed_members d f b
    → IsClientDataExplained d f b
fixed_explained d f b h = record {
  given = fixed_given d f h.given;
  blamed = subst (λ (c : Bool). IsBlamedOrFloat c d b) (sym (not_ok (fixed_in d) f h.given)) h.blamed;
  to_blame = λ once.
      let r = h.to_blame once in
      record { part = r.part; there = r.there; refused = λ e same. fixed_fails e (r.refused e same) };
}

-- ---- the unknown members

abbrev unknown : Members → Members
unknown ms = members_where (is_unknown none_known) ms

nothing_known : (ms : Members) → members_where none_known ms ≡ no_members
nothing_known no_members = refl
nothing_known (member name d ms) = nothing_known ms

-- an unknown member that contains a float
pub record FloatIn (ms : Members) (name : List ℕ) : Type 0 where
  pub value : Data
  pub there : HasMember name value ms
  pub unfixed : is_fixed name ≡ false
  pub floats : has_float value ≡ true

float_case : (l name : List ℕ) (d : Data) (ms : Members) → (first_float ms ≡ Some name → FloatIn ms name) → (f g : Bool)
    → is_fixed l ≡ f → has_float d ≡ g → (if not f && g then Some l else first_float ms) ≡ Some name
    → FloatIn (member l d ms) name
float_case l name d ms later true g a b e =
    let h = later e in record { value = h.value; there = inr h.there; unfixed = h.unfixed; floats = h.floats }
float_case l name d ms later false false a b e =
    let h = later e in record { value = h.value; there = inr h.there; unfixed = h.unfixed; floats = h.floats }
float_case l name d ms later false true a b e =
    let is : l ≡ name = cc in
    record {
      value = d;
      there = inl (sym is, refl);
      unfixed = subst (λ (n : List ℕ). is_fixed n ≡ false) is a;
      floats = b;
    }

float_in : (ms : Members) (name : List ℕ) → first_float ms ≡ Some name → FloatIn ms name
float_in no_members name e = absurd cc
float_in (member l d ms) name e = float_case l name d ms (float_in ms name) (is_fixed l) (has_float d) refl refl e

none_case : (l : List ℕ) (d : Data) (ms : Members) → (first_float ms ≡ None → members_have_float (unknown ms) ≡ false)
    → (f g : Bool) → is_fixed l ≡ f → has_float d ≡ g → (if not f && g then Some l else first_float ms) ≡ None
    → members_have_float (unknown (member l d ms)) ≡ false
none_case l d ms later true g a b e = rw a (later e)
none_case l d ms later false false a b e = rw (a, b) (later e)
none_case l d ms later false true a b e = absurd cc

no_float : (ms : Members) → first_float ms ≡ None → members_have_float (unknown ms) ≡ false
no_float no_members e = refl
no_float (member l d ms) e = none_case l d ms (no_float ms) (is_fixed l) (has_float d) refl refl e

or_true : (b : Bool) → b || true ≡ true
or_true true = refl
or_true false = refl

following : (l : List ℕ) (d : Data) (ms : Members) → members_have_float (unknown ms) ≡ true → (f : Bool) → is_fixed l ≡ f
    → members_have_float (unknown (member l d ms)) ≡ true
following l d ms later true a = rw a later
following l d ms later false a = rw (a, later) (or_true (has_float d))

here : (l : List ℕ) (d : Data) (ms : Members) → is_fixed l ≡ false → has_float d ≡ true
    → members_have_float (unknown (member l d ms)) ≡ true
here l d ms a b = rw (a, b) refl

order_case : (name l : List ℕ) (x d : Data) (ms : Members) → is_fixed name ≡ false → has_float x ≡ true
    → (get_member name ms ≡ Some x → members_have_float (unknown ms) ≡ true) → (o : Ordering)
    → slice_cmp nat_cmp name l ≡ o → match_ordering o (get_member name ms) (Some d) (get_member name ms) ≡ Some x
    → members_have_float (unknown (member l d ms)) ≡ true
order_case name l x d ms a b later Less c e = following l d ms (later e) (is_fixed l) refl
order_case name l x d ms a b later Greater c e = following l d ms (later e) (is_fixed l) refl
order_case name l x d ms a b later Equal c e =
    let same : name ≡ l = exact_bytes name l c in
    let is : d ≡ x = cc in
    here l d ms (subst (λ (n : List ℕ). is_fixed n ≡ false) same a) (ap has_float is ∙ b)

found_float : (ms : Members) (name : List ℕ) (x : Data) → get_member name ms ≡ Some x → is_fixed name ≡ false
    → has_float x ≡ true → members_have_float (unknown ms) ≡ true
found_float no_members name x e a b = absurd cc
found_float (member l d ms) name x e a b =
    order_case name l x d ms a b (λ h. found_float ms name x h a b) (slice_cmp nat_cmp name l) refl e

listed_float : (name : List ℕ) (x : Data) → is_fixed name ≡ false → has_float x ≡ true → (ms : Members)
    → HasMember name x ms → members_have_float (unknown ms) ≡ true
listed_float name x a b no_members h = absurd h
listed_float name x a b (member l d ms) (inl h) =
    here l d ms (subst (λ (n : List ℕ). is_fixed n ≡ false) h.0 a) (sym (ap has_float h.1) ∙ b)
listed_float name x a b (member l d ms) (inr h) = following l d ms (listed_float name x a b ms h) (is_fixed l) refl

-- ---- what client data with these members is

ok_there : {A : Type 0} (r : Result A Fault) → is_ok r ≡ true → (x : A) × (r ≡ Ok x)
ok_there (Ok x) e = (x, refl)
ok_there (Err f) e = absurd cc

float_at : (ms : Members) (x : FixedMembers) → members_in fixed_members (λ name. get_member name ms) ≡ Ok x
    → members_have_float (unknown ms) ≡ true
    → client_data_in none_known nothing_read ms ≡ Err (float (codes "unknown_keys"))
unfolding client_data_in
float_at ms x e b = rw (e, nothing_known ms, b) refl

good_at : (ms : Members) (x : FixedMembers) → members_in fixed_members (λ name. get_member name ms) ≡ Ok x
    → members_have_float (unknown ms) ≡ false → is_ok (client_data_in none_known nothing_read ms) ≡ true
unfolding client_data_in
good_at ms x e b = rw (e, nothing_known ms, b) refl

fails_case : (ms : Members) → members_have_float (unknown ms) ≡ true → (r : Result FixedMembers Fault)
    → fixed_in (object ms) ≡ r → is_client_data (object ms) ≡ false
fails_case ms b (Ok x) e = rw (float_at ms x e b) refl
fails_case ms b (Err f) e = rw (fixed_fault (object ms) f e) refl

-- a value under an unknown name that contains a float is refused, whatever surrounds it
float_refused : (name : List ℕ) (x e : Data) → is_fixed name ≡ false → has_float x ≡ true → get name e ≡ Some x
    → is_client_data e ≡ false
float_refused name x (object ms) a b h = fails_case ms (found_float ms name x h a b) (fixed_in (object ms)) refl
float_refused name x _ a b h = absurd cc

part_case : (name : List ℕ) (x e : Data) → is_fixed name ≡ false → has_float x ≡ true → (o : Option Data) → get name e ≡ o
    → option_and_then (value_along []) o ≡ Some x → is_client_data e ≡ false
part_case name x e a b None at same = absurd cc
part_case name x e a b (Some y) at same =
    let is : y ≡ x = cc in float_refused name x e a b (at ∙ ap (λ (z : Data). Some z) is)

module _ (d : Data) (ms : Members) (is : d ≡ object ms) where
  fixed_there : is_ok (fixed_in d) ≡ true
      → (x : FixedMembers) × (members_in fixed_members (λ name. get_member name ms) ≡ Ok x)
  fixed_there fixed =
      ok_there (members_in fixed_members (λ name. get_member name ms)) (subst (λ (e : Data). is_ok (fixed_in e) ≡ true) is fixed)

  pub no_float_left : first_float ms ≡ None → ExplainsUnknown d None
  no_float_left e = λ fixed.
      let x = fixed_there fixed in
      subst (λ (f : Data). is_client_data f ≡ true) (sym is) (good_at ms x.0 x.1 (no_float ms e))

  module _ (name : List ℕ) (e : first_float ms ≡ Some name) where
    found : FloatIn ms name
    found = float_in ms name e

    float_told : is_ok (fixed_in d) ≡ true → plain_client_data d ≡ Err (float (codes "unknown_keys"))
    float_told fixed =
        let x = fixed_there fixed in
        let b = listed_float name found.value found.unfixed found.floats ms found.there in
        ap plain_client_data is ∙ float_at ms x.0 x.1 b

    float_there : IsOnce d → get name d ≡ Some found.value
    float_there once =
        ap (get name) is ∙ once [] ms (ap (λ (x : Data). Some x) is) name found.value found.there

    pub float_explained : (f : JsonFault) (b : JsonBlame) → is_ok (fixed_in d) ≡ true
        → Gives {A = ClientData (Unit {0})} ⊥ (Err (float (codes "unknown_keys"))) (Err f)
        → path_of b ≡ named name ∷ [] → reason_of b.reason ≡ wanted want.NoFloat → IsClientDataExplained d f b
    float_explained f b fixed given path reason = record {
      given = subst (λ (r : Result (ClientData (Unit {0})) Fault). Gives ⊥ r (Err f)) (sym (float_told fixed)) given;
      blamed = rw (fixed, is, e) (path, reason);
      to_blame = λ once. subst (λ (x : List Step). IsRefusedAt is_client_data d x) (sym path) (record {
        part = found.value;
        there = rw (float_there once) refl;
        refused = λ x same. part_case name found.value x found.unfixed found.floats (get name x) refl same;
      });
    }
