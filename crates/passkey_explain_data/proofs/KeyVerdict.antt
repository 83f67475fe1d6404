-- What is to blame in a data item that is no key has the error with which it isn't read as one, and is in it.
use Rattle.std.specs.List.{list_any, find}
use Rattle.std.specs.Option.{option_or, option_and_then}
use Rattle.std.specs.Result.{result_map_both}
use Rattle.std.proofs.Common.{◌≡◌, ◌∙◌, ◌<◌, ◌+◌, ℕ, ℤ, [], ◌∷◌, ◌++◌, length, Bool, true, false, if◌then◌else◌, Option, Some, None, option_map, Result, Ok, Err, get_or, arith, refl, sym, ap, subst}
use Rattle.std.proofs.lemmas.Option.{slice_get-get_or}
use Rattle.passkey_cbor.proofs.items.Items.{members-pairs_of}
use Rattle.passkey_cbor.specs.Item.{Item, number, byte_string, text_string, array, map, tagged, boolean, null, simple, float, Pairs, members, pairs_of}
use Rattle.passkey_cbor.specs.Same.{item_eq}
use Rattle.passkey_iana.specs.Iana.{key_type_named}
use Rattle.passkey_iana.specs.declared.key_type.KeyType.{KeyType}
use Rattle.passkey_cose.specs.KeyFaults.{name_fault, value_fault, member_fault, first_fault}
use Rattle.passkey_cose.specs.KeyLabels.{Members, is_label}
use Rattle.passkey_cose.specs.KeyReading.{key_type, name_in, under, key_from, key_or_fault, read_key}
use Rattle.passkey_cose.specs.Registered.{Named}
use Rattle.passkey_cose.specs.Seen.{labels_of}
use Rattle.passkey_cose.specs.declared.error.CoseError.{CoseError}
use Rattle.passkey_cose.specs.declared.error.CoseError.TheVariants.{DuplicateMapKey}
use Rattle.passkey_cose.proofs.SeenNames.{has_label-labels_of}
use Rattle.passkey_explain.specs.Blame.{item_along}
use Rattle.passkey_explain_data.specs.KeyBlame.{refused, number_in, type_number, name_fault_after, pair_blame, pairs_blame, error_in, type_fault, type_blame, members_blame, key_blame, IsVerdict, key_path}
use Rattle.passkey_explain_data.specs.declared.key.KeyBlame.{KeyBlame}
use Rattle.passkey_explain_data.specs.declared.key.KeyBlame.TheVariants.{NotAMap, NoType, Label, Value}
use Rattle.passkey_explain_data.specs.declared.key.KeyRefusal.{KeyRefusal}

-- ---- the error

pub key_blame-map : (ms : Members) → key_blame (map (pairs_of ms)) ≡ members_blame ms
key_blame-map ms = ap members_blame (members-pairs_of ms)

-- one pair: its label's error, whether the label is repeated, its value's error
one_fault : (kty : Option ℤ) (n : ℕ) (label : Option ℤ) (name value : Option CoseError) (repeated : Bool)
    → option_map (λ (r : KeyRefusal). r.fault) (option_or (option_map (λ e. refused kty e (Label n label)) (option_or name
    (if repeated then Some DuplicateMapKey else None))) (option_map (λ e. refused kty e (Value n label)) value))
    ≡ option_or name (if repeated then Some DuplicateMapKey else value)
one_fault kty n label (Some e) value repeated = refl
one_fault kty n label None (Some e) true = refl
one_fault kty n label None (Some e) false = refl
one_fault kty n label None None true = refl
one_fault kty n label None None false = refl

pair_fault : (kty : Option ℤ) (n : ℕ) (earlier : Members) (m : Item × Item)
    → option_map (λ (r : KeyRefusal). r.fault) (pair_blame kty n earlier m) ≡ member_fault earlier m
pair_fault kty n earlier m =
    one_fault kty n (number_in m.0) (name_fault m.0) (value_fault m.0 m.1) (list_any (item_eq m.0) (labels_of earlier))
    ∙ ap (λ (b : Bool). option_or (name_fault m.0) (if b then Some DuplicateMapKey else value_fault m.0 m.1))
    (has_label-labels_of earlier m.0)

or_fault : (a b : Option KeyRefusal) → option_map (λ (r : KeyRefusal). r.fault) (option_or a b)
    ≡ option_or (option_map (λ (r : KeyRefusal). r.fault) a) (option_map (λ (r : KeyRefusal). r.fault) b)
or_fault (Some r) b = refl
or_fault None b = refl

pairs_fault : (kty : Option ℤ) (n : ℕ) (earlier ms : Members)
    → option_map (λ (r : KeyRefusal). r.fault) (pairs_blame kty n earlier ms) ≡ first_fault earlier ms
pairs_fault kty n earlier [] = refl
pairs_fault kty n earlier (m ∷ ms) =
    let later : Members = earlier ++ m ∷ [] in
    or_fault (pair_blame kty n earlier m) (pairs_blame kty (n + 1) later ms)
    ∙ ap (λ (f : Option CoseError). option_or f (option_map (λ (r : KeyRefusal). r.fault) (pairs_blame kty (n + 1) later ms)))
    (pair_fault kty n earlier m)
    ∙ ap (λ (f : Option CoseError). option_or (member_fault earlier m) f) (pairs_fault kty (n + 1) later ms)

type_judged : (all : Members) (kty : Option ℤ) (n : ℕ) (label : Option ℤ) (k : Result (Named KeyType) CoseError)
    → IsVerdict (result_map_both (key_from all) (λ e. e) k)
    (option_map (λ e. refused kty e (Value n label)) (error_in k))
type_judged all kty n label (Ok t) = refl
type_judged all kty n label (Err e) = refl

type_verdict : (all : Members) (kty : Option ℤ) (n : ℕ) (ms : Members)
    → IsVerdict (result_map_both (key_from all) (λ e. e) (key_type (option_and_then (name_in key_type_named) (under 1 ms))))
    (type_blame kty n ms)
type_verdict all kty n [] = refl
type_verdict all kty n (m ∷ ms) =
    elim (is_label 1 m.0) as (λ (b : Bool). IsVerdict (result_map_both (key_from all) (λ e. e) (key_type (option_and_then
    (name_in key_type_named) (option_map (λ (m : Item × Item). m.1) (if b then Some m else find (λ (m : Item × Item).
    is_label 1 m.0) ms))))) (if b then option_map (λ e. refused kty e (Value n (number_in m.0))) (type_fault m.1)
    else type_blame kty (n + 1) ms)) [
      | true ↦ type_judged all kty n (number_in m.0) (key_type (name_in key_type_named m.1))
      | false ↦ type_verdict all kty (n + 1) ms
    ]

joined : (ms : Members) (f : Option CoseError) (a b : Option KeyRefusal)
    → option_map (λ (r : KeyRefusal). r.fault) a ≡ f → IsVerdict (key_or_fault ms None) b
    → IsVerdict (key_or_fault ms f) (option_or a b)
joined ms f (Some r) b e v = subst (λ (g : Option CoseError). key_or_fault ms g ≡ Err r.fault) e refl
joined ms f None b e v = subst (λ (g : Option CoseError). IsVerdict (key_or_fault ms g) b) e v

members_verdict : (ms : Members) → IsVerdict (key_or_fault ms (first_fault [] ms)) (members_blame ms)
members_verdict ms =
    joined ms (first_fault [] ms) (pairs_blame (type_number ms) 0 [] ms) (type_blame (type_number ms) 0 ms)
    (pairs_fault (type_number ms) 0 [] ms) (type_verdict ms (type_number ms) 0 ms)

pub key_verdict : (i : Item) → IsVerdict (read_key i) (key_blame i)
key_verdict (map ps) = members_verdict (members ps)
key_verdict (number z) = refl
key_verdict (byte_string s) = refl
key_verdict (text_string s) = refl
key_verdict (array xs) = refl
key_verdict (tagged n x) = refl
key_verdict (boolean b) = refl
key_verdict null = refl
key_verdict (simple n) = refl
key_verdict (float f) = refl

-- what the first bad pair blames, or else the key type
module _ (i : Item) (ms : Members) (is : i ≡ map (pairs_of ms)) (kty : Option ℤ) (numbered : kty ≡ type_number ms)
    (b : Option KeyRefusal) (pairs : b ≡ pairs_blame kty 0 [] ms) where
  whole : key_blame i ≡ members_blame ms
  whole = ap key_blame is ∙ key_blame-map ms

  pub blamed_pair : (r : KeyRefusal) → b ≡ Some r → Some r ≡ key_blame i
  blamed_pair r e =
      let first : pairs_blame (type_number ms) 0 [] ms ≡ Some r =
      subst (λ (k : Option ℤ). pairs_blame k 0 [] ms ≡ Some r) numbered (sym pairs ∙ e) in
      sym (whole ∙ ap (λ (p : Option KeyRefusal). option_or p (type_blame (type_number ms) 0 ms)) first)

  pub blamed_type : (t : Option KeyRefusal) → b ≡ None → t ≡ type_blame kty 0 ms → t ≡ key_blame i
  blamed_type t e typed =
      let first : pairs_blame (type_number ms) 0 [] ms ≡ None =
      subst (λ (k : Option ℤ). pairs_blame k 0 [] ms ≡ None) numbered (sym pairs ∙ e) in
      let second : t ≡ type_blame (type_number ms) 0 ms =
      subst (λ (k : Option ℤ). t ≡ type_blame k 0 ms) numbered typed in
      second ∙ sym (whole ∙ ap (λ (p : Option KeyRefusal). option_or p (type_blame (type_number ms) 0 ms)) first)

pub verdict_of : (i : Item) (b : Option KeyRefusal) → b ≡ key_blame i → IsVerdict (read_key i) b
verdict_of i b e = subst (IsVerdict (read_key i)) (sym e) (key_verdict i)

-- ---- where it is

-- a pair that is blamed is one of so many
abbrev IsAmong : ℕ → KeyBlame → Type 0
IsAmong count (Label n label) = n < count
IsAmong count (Value n label) = n < count
IsAmong count _ = Unit {0}

abbrev AreAmong : ℕ → Option KeyRefusal → Type 0
AreAmong count None = Unit {0}
AreAmong count (Some r) = IsAmong count r.blame

or_among : (count : ℕ) (a b : Option KeyRefusal) → AreAmong count a → AreAmong count b → AreAmong count (option_or a b)
or_among count (Some r) b h g = h
or_among count None b h g = g

label_among : (count : ℕ) (kty : Option ℤ) (n : ℕ) (label : Option ℤ) (f : Option CoseError) → n < count
    → AreAmong count (option_map (λ e. refused kty e (Label n label)) f)
label_among count kty n label (Some e) h = h
label_among count kty n label None h = tt

value_among : (count : ℕ) (kty : Option ℤ) (n : ℕ) (label : Option ℤ) (f : Option CoseError) → n < count
    → AreAmong count (option_map (λ e. refused kty e (Value n label)) f)
value_among count kty n label (Some e) h = h
value_among count kty n label None h = tt

pairs_among : (count : ℕ) (kty : Option ℤ) (n : ℕ) (earlier ms : Members) → n + length ms ≡ count
    → AreAmong count (pairs_blame kty n earlier ms)
pairs_among count kty n earlier [] e = tt
pairs_among count kty n earlier (m ∷ ms) e =
    let here : n < count = omega arith in
    let later : (n + 1) + length ms ≡ count = omega arith in
    or_among count (pair_blame kty n earlier m) (pairs_blame kty (n + 1) (earlier ++ m ∷ []) ms)
    (or_among count _ _
    (label_among count kty n (number_in m.0) (name_fault_after DuplicateMapKey (labels_of earlier) m.0) here)
    (value_among count kty n (number_in m.0) (value_fault m.0 m.1) here))
    (pairs_among count kty (n + 1) (earlier ++ m ∷ []) ms later)

type_among : (count : ℕ) (kty : Option ℤ) (n : ℕ) (ms : Members) → n + length ms ≡ count
    → AreAmong count (type_blame kty n ms)
type_among count kty n [] e = tt
type_among count kty n (m ∷ ms) e =
    let here : n < count = omega arith in
    let later : (n + 1) + length ms ≡ count = omega arith in
    elim (is_label 1 m.0) as (λ (b : Bool). AreAmong count (if b then option_map (λ e. refused kty e (Value n
    (number_in m.0))) (type_fault m.1) else type_blame kty (n + 1) ms)) [
      | true ↦ value_among count kty n (number_in m.0) (type_fault m.1) here
      | false ↦ type_among count kty (n + 1) ms later
    ]

members_among : (ms : Members) → AreAmong (length ms) (members_blame ms)
members_among ms =
    or_among (length ms) (pairs_blame (type_number ms) 0 [] ms) (type_blame (type_number ms) 0 ms)
    (pairs_among (length ms) (type_number ms) 0 [] ms (omega arith))
    (type_among (length ms) (type_number ms) 0 ms (omega arith))

-- the steps lead to something in the item
abbrev Leads : Item → KeyBlame → Type 0
Leads i b = (x : Item) × (item_along (key_path b) i ≡ Some x)

abbrev AllLead : Item → Option KeyRefusal → Type 0
AllLead i None = Unit {0}
AllLead i (Some r) = Leads i r.blame

leads_map : (ps : Pairs) (b : KeyBlame) → IsAmong (length (members ps)) b → Leads (map ps) b
leads_map ps NotAMap h = (map ps, refl)
leads_map ps NoType h = (map ps, refl)
leads_map ps (Label n label) h =
    let none : Item × Item = (null, null) in
    let there = slice_get-get_or (members ps) n none h in (
      (get_or (members ps) n none).0,
      ap (λ (o : Option (Item × Item)). option_and_then (λ (x : Item). Some x) (option_map (λ (m : Item × Item). m.0) o)) there,
    )
leads_map ps (Value n label) h =
    let none : Item × Item = (null, null) in
    let there = slice_get-get_or (members ps) n none h in (
      (get_or (members ps) n none).1,
      ap (λ (o : Option (Item × Item)). option_and_then (λ (x : Item). Some x) (option_map (λ (m : Item × Item). m.1) o)) there,
    )

led : (ps : Pairs) (b : Option KeyRefusal) → AreAmong (length (members ps)) b → AllLead (map ps) b
led ps None h = tt
led ps (Some r) h = leads_map ps r.blame h

all_lead : (i : Item) → AllLead i (key_blame i)
all_lead (map ps) = led ps (members_blame (members ps)) (members_among (members ps))
all_lead (number z) = (number z, refl)
all_lead (byte_string s) = (byte_string s, refl)
all_lead (text_string s) = (text_string s, refl)
all_lead (array xs) = (array xs, refl)
all_lead (tagged n x) = (tagged n x, refl)
all_lead (boolean b) = (boolean b, refl)
all_lead null = (null, refl)
all_lead (simple n) = (simple n, refl)
all_lead (float f) = (float f, refl)

pub key_leads : (i : Item) (r : KeyRefusal) → key_blame i ≡ Some r → Leads i r.blame
key_leads i r e = subst (AllLead i) e (all_lead i)
