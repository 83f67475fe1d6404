-- How a cursor moves, what it spends, and values of one head or of one string.
use Rattle.passkey_kinds.proofs.Common.{front_long, SkipsLeadingItem, Bool, CountsHeads, content_len, counts_then, counts_stay, counts_skip, counts_string, counts_head, lies_size, head_again, follows_item, low_simple, head_long, encoded_long, IsEncodedAt, Opens, FindsHead, IsEncodingOfHead, PairWithin, Within, Inside, Item, byte_string, boolean, null, text_string, number, max_depth, Region, PassesString, item_within, PassesLeadingItem, CursorState, ahead, MovesForward, Head, members-pairs_of, elements-items_of, aaguid_from, number_from, truth_from, Kind, optional_from, text_from, name_from, FailsAs, size_from, AnswersAs, MayGrow, scalar_in, ReadsScalar, head_scalar, head_array, head_map, elements_in, members_in, OpensAt, Further, Decodes, Spends, Onward, named, Refused, OutOfMemory, Refusal, ◌≡◌, ◌∙◌, ◌<◌, ◌+◌, ℕ, arith, true, false, List, [], ◌++◌, length, Option, Some, None, option_map, refl, sym, ap, rules, ◌≤◌, Result, subst, ◌-◌, Ok, Err, OnOk, unwrap_or, Language, IfSome, is_ok, mul-le-mul_left, nat_tests, cases_lt, cases_eq, length-append, option_and_then}
use Rattle.passkey_kinds.proofs.Lists.{answers_from, never_grows}
use Rattle.passkey_cbor.specs.declared.head.Head.TheVariants as head
use Rattle.passkey_cbor.specs.Item as item
pub use Rattle.passkey_cbor.proofs.building.Gathering.{on_ok}

-- ---- moving on

pub onward_of : (a b : CursorState) → MovesForward a b → Onward a b
onward_of a b w = grind arith

pub onward_then : (a b c : CursorState) → Onward a b → Onward b c → Onward a c
onward_then a b c p q = grind arith

-- ---- past it

item_long : (x : Item) (t : List ℕ) → Within max_depth x t → 0 < length t
item_long x t e = encoded_long (Within max_depth) (item_within max_depth) (follows_item max_depth) x t e

pub stands_long : (x : Item) {bytes : List ℕ} {from to : ℕ} → IsEncodedAt x bytes from to → from < to
stands_long x {bytes} {from} {to} l =
    omega (arith, item_long x l.text l.encoded, lies_size (Within max_depth x) bytes from to l)

head_encoded_long : (h : Head) (t : List ℕ) → IsEncodingOfHead h t → 0 < length t
head_encoded_long h t s = omega (arith, head_long (t ++ []) h [] (head_again h t [] s), length-append t [])

-- a head that no content follows
head_further : (a b : CursorState) (h : Head) → content_len h ≡ 0 → FindsHead a b (Some h) → Further a b
head_further a b h none p = record {
  forward = omega (arith, p.place, head_encoded_long h p.text p.encoded);
  counts = counts_head a b h none p;
}

pub string_further : (is_text : _) (a b : CursorState) (r : Region) → PassesString is_text a b r → Further a b
string_further is_text a b r p = record {
  forward = omega (arith, p.place, front_long _ (ahead a) p.len p.front);
  counts = counts_string is_text a b r p;
}

pub skip_further : (a b : CursorState) → PassesLeadingItem a b → Further a b
skip_further a b p = record {
  forward = omega (arith, p.place, front_long p.item (ahead a) p.len p.front);
  counts = counts_skip a b p;
}

pub value_further : (a b : CursorState) → a.place < b.place → CountsHeads a b → Further a b
value_further a b moved counts = record { forward = moved; counts = counts }

pub further_then : (a b c : CursorState) → Further a b → CountsHeads b c → b.place ≤ c.place → Further a c
further_then a b c p q on =
    record { forward = omega (arith, p.forward, on); counts = counts_then a b c p.counts q }

-- from the same place on, after more heads were counted
pub further_from : (a b c : CursorState) → Onward a b → b.place ≡ a.place → Further b c → Further a c
further_from a b c on at p = record {
  forward = omega (arith, p.forward, at);
  counts = counts_then a b c (counts_stay a b on.same at on.heads) p.counts;
}

pub further_on : {a b c : CursorState} → Further a b → Further b c → Further a c
further_on {a} {b} {c} p q = further_then a b c p q.counts (omega (arith, q.forward))

-- what holds anyway also holds if something was found
pub if_some : {X : Type 0} {P : Type 0} (o : Option X) → P → IfSome o (λ x. P)
if_some None h = tt
if_some (Some x) h = h

if_found : {X : Type 0} {P : Type 0} (o : Option X) → ((x : X) → o ≡ Some x → P) → IfSome o (λ x. P)
if_found None h = tt
if_found (Some x) h = h x refl

-- a head that says something was decoded
pub head_moves : {X : Type 0} (a b : CursorState) (g : Head → Option X) (head : Option Head) (result : Option X)
    → ((h : Head) (x : X) → g h ≡ Some x → content_len h ≡ 0) → FindsHead a b head
    → result ≡ option_and_then g head → IfSome result (λ x. Further a b)
head_moves a b g None result flat p e = rw e tt
head_moves a b g (Some h) result flat p e = if_found result (λ x is. head_further a b h (flat h x (sym e ∙ is)) p)

-- no content follows the head of an array or a map
pub array_flat : (h : Head) (left : Option ℕ) → head_array h ≡ Some left → content_len h ≡ 0
array_flat (head.Bytes len) left e = absurd cc
array_flat (head.Text len) left e = absurd cc
array_flat _ left e = refl

pub map_flat : (h : Head) (left : Option ℕ) → head_map h ≡ Some left → content_len h ≡ 0
map_flat (head.Bytes len) left e = absurd cc
map_flat (head.Text len) left e = absurd cc
map_flat _ left e = refl

-- ---- spending

-- a decoded head
pub head_spends : (a b : CursorState) (found : Option Head) (x : Item) (to : ℕ) → FindsHead a b found → Opens x to b found
    → IsEncodedAt x a.bytes a.place to → Spends 1 0 to a b
head_spends a b None x to p o l = absurd o
head_spends a b (Some h) x to p o l = search (rules, stands_long)

dearer : (c e kept more to : ℕ) (a b : CursorState) → a.place ≤ to → Spends c kept to a b
    → Spends (c + e) (kept + more) to a b
dearer c e kept more to a b le p = grind (arith, mul-le-mul_left)

-- a lower cost is within a higher one
pub eased : {c d kept more to : ℕ} {a b : CursorState} → c ≤ d → kept ≤ more → a.place ≤ to → Spends c kept to a b
    → Spends d more to a b
eased {c} {d} {kept} {more} {to} {a} {b} le few within p =
    subst (λ (n : ℕ). Spends n more to a b) (omega (arith, le))
    (subst (λ (k : ℕ). Spends (c + (d - c)) k to a b) (omega (arith, few))
    (dearer c (d - c) kept (more - kept) to a b within p))

-- the item is still encoded at the place that the cursor went back to
pub stands_back : (i : Item) (b : CursorState) {bytes : List ℕ} {place to : ℕ} → b.bytes ≡ bytes → b.place ≡ place
    → IsEncodedAt i bytes place to → IsEncodedAt i b.bytes b.place to
stands_back i b same at l = rw (same, at) l

-- the cursor went back to the place where it was, and the item was decoded again
module _ {a b d : CursorState} {n : ℕ} (on : Onward a b) (back : d ≡ record b { place = n }) (at : n ≡ a.place) where
  pub stands_again : (i : Item) {to : ℕ} → IsEncodedAt i a.bytes a.place to → IsEncodedAt i d.bytes d.place to
  stands_again i l = grind (arith, stands_back)

  pub further_again : {f : CursorState} → Further d f → Further a f
  further_again {f} p =
      let there : d.place ≡ a.place = omega (arith, at, ap (λ (w : CursorState). w.place) back) in
      let rises : a.heads ≤ d.heads = omega (arith, on.heads, ap (λ (w : CursorState). w.heads) back) in
      let same : d.bytes ≡ a.bytes = ap (λ (w : CursorState). w.bytes) back ∙ on.same in
      record {
        forward = omega (arith, p.forward, there);
        counts = counts_then a d f (counts_stay a d same there rises) p.counts;
      }

  pub spends_again : {c e kept more to : ℕ} {f : CursorState} → Spends c kept to a b → Spends e more to d f
      → Spends (c + e) (kept + more) to a f
  spends_again q r = grind arith

-- ---- integers and booleans

scalar_says : (h : Head) (i : Item) (t : List ℕ) → Inside h i t → head_scalar h ≡ scalar_in i
scalar_says (head.Simple n) i t w = grind (arith, nat_tests, cases_lt, cases_eq, low_simple)
scalar_says _ i t w = grind arith

-- their heads are all of them
nothing_left : (h : Head) (i : Item) (t : List ℕ) → (head_scalar h ≡ item.null → ⊥) → Inside h i t → t ≡ []
nothing_left (head.Simple n) i t is w = w.1
nothing_left _ i t is w = grind arith

module _ (a b : CursorState) where
  pub scalar_read : (head : Option Head) (i : Item) (to : ℕ) (found : Item)
      → found ≡ unwrap_or (option_map head_scalar head) item.null → FindsHead a b head → Opens i to b head
      → IsEncodedAt i a.bytes a.place to → ReadsScalar i to a b found
  scalar_read None i to found e p o l = absurd o
  scalar_read (Some h) i to found e p o l = record {
    is = e ∙ scalar_says h i o.text o.encoded;
    spends = head_spends a b (Some h) i to p o l;
    ends = λ is. omega (
      arith,
      lies_size (Inside h i) b.bytes b.place to o,
      ap length (nothing_left h i o.text (λ other. is (e ∙ other)) o.encoded),
    );
  }

  scalar_flat : (h : Head) → (head_scalar h ≡ item.null → ⊥) → content_len h ≡ 0
  scalar_flat (head.Bytes len) is = absurd (is refl)
  scalar_flat (head.Text len) is = absurd (is refl)
  scalar_flat _ is = refl

  pub scalar_moves : (head : Option Head) (found : Item) → FindsHead a b head
      → found ≡ unwrap_or (option_map head_scalar head) item.null → (found ≡ item.null → ⊥) → Further a b
  scalar_moves None found p e is = absurd (is e)
  scalar_moves (Some h) found p e is = head_further a b h (scalar_flat h (λ null. is (e ∙ null))) p

-- a value is decoded only from an item that isn't refused
pub scalar_ends : {A M : Type 0} (view : A → M) (kind : Kind M) (x : Item) (result : Result A Refusal) {Q : Type 0}
    → kind item.null ≡ None → AnswersAs view (kind x) (MayGrow false x) result → ((x ≡ item.null → ⊥) → Q)
    → OnOk result Q
scalar_ends view kind x (Err e) refused h ends = tt
scalar_ends view kind x (Ok y) refused h ends =
    ends (λ is. absurd (cc (ap kind is ∙ refused, h)))

-- The value that the item's head has.
pub scalar_decodes : {A M : Type 0} {view : A → M} (kind : Kind M) {wanted : Option M} {may : Type 0} (i : Item)
    {x : Item} {to : ℕ} {a b : CursorState} {result : Result A Refusal} → kind item.null ≡ None → wanted ≡ kind (scalar_in i)
    → ReadsScalar i to a b x → AnswersAs view (kind x) (MayGrow false x) result
    → Decodes view wanted may 1 0 to a b result
scalar_decodes {view = view} kind i {x} {result = result} refused same r h = record {
  answers = answers_from view result (same ∙ ap kind (sym r.is)) (λ grows. absurd (never_grows x grows)) h;
  spends = r.spends;
  ends = scalar_ends view kind x result refused h r.ends;
}

pub below_scalar : (limit : ℕ) (i : Item) → number_from limit i ≡ number_from limit (scalar_in i)
below_scalar limit (item.number z) = refl
below_scalar limit _ = refl

pub truth_scalar : (i : Item) → truth_from i ≡ truth_from (scalar_in i)
truth_scalar (item.boolean b) = refl
truth_scalar _ = refl

pub size_scalar : (i : Item) → size_from i ≡ size_from (scalar_in i)
size_scalar (item.number z) = refl
size_scalar _ = refl

-- ---- heads of arrays and maps

pub array_opened : (h : Head) (i : Item) (to : ℕ) (b : CursorState) → Opens i to b (Some h)
    → OpensAt elements_in (Within max_depth) i to b (head_array h)
array_opened (head.Array left) i to b o = grind (arith, elements-items_of)
array_opened _ i to b o = grind (arith, nat_tests, cases_lt, cases_eq, o.encoded)

pub map_opened : (h : Head) (i : Item) (to : ℕ) (b : CursorState) → Opens i to b (Some h)
    → OpensAt members_in (PairWithin max_depth) i to b (head_map h)
map_opened (head.Map left) i to b o = grind (arith, members-pairs_of)
map_opened _ i to b o = grind (arith, nat_tests, cases_lt, cases_eq, o.encoded)

pub parts_open : {X : Type 0} (parts : Item → Option (List X)) (Encoded : X → Language)
    (len : Head → Option (Option ℕ))
    → ((h : Head) (i : Item) (to : ℕ) (b : CursorState) → Opens i to b (Some h) → OpensAt parts Encoded i to b (len h))
    → (head : Option Head) (i : Item) (to : ℕ) (b : CursorState) (result : Option (Option ℕ))
    → result ≡ option_and_then len head → Opens i to b head → OpensAt parts Encoded i to b result
parts_open parts Encoded len opened None i to b result e o = absurd o
parts_open parts Encoded len opened (Some h) i to b result e o =
    subst (OpensAt parts Encoded i to b) (sym e) (opened h i to b o)

pub ruleset heads = (onward_of)

-- ---- values of one head or of one string, decoded at a cursor

-- past it after one part, and after a second one that was decoded
pub further_counted : {T E : Type 0} {a b : CursorState} (c : CursorState) (r : Result T E) → Further a b → b.place ≤ c.place
    → OnOk r (CountsHeads b c) → OnOk r (Further a c)
further_counted {a = a} {b} c (Ok x) p on h = further_then a b c p h on
further_counted c (Err e) p on h = tt

pub further_twice : {T E : Type 0} {a b : CursorState} (c : CursorState) (r : Result T E) → Further a b → OnOk r (Further b c)
    → OnOk r (Further a c)
further_twice c (Ok x) p h = further_on p h
further_twice c (Err e) p h = tt

-- after a success the cursor was at the same place before
pub further_ok : {T E : Type 0} {a b : CursorState} (c : CursorState) (r : Result T E) → Onward a b → b.place ≡ a.place
    → OnOk r (Further b c) → OnOk r (Further a c)
further_ok {a = a} {b} c (Ok x) on at h = further_from a b c on at h
further_ok c (Err e) on at h = tt

pub skipped_further : (a b : CursorState) (found : Bool) → SkipsLeadingItem a b found → found ≡ true → Further a b
skipped_further a b true p e = skip_further a b p
skipped_further a b false p e = absurd cc

-- an error of a part is one of the whole
pub failed : {M N : Type 0} {one : Option M} {wanted : Option N} {takes may : Type 0} (e : Refusal)
    → (one ≡ None → wanted ≡ None) → (takes → may) → FailsAs one takes e → FailsAs wanted may e
failed Refused none grows h = none h
failed OutOfMemory none grows h = grows h

-- what holds after a success holds if it is known that there was one
pub ok_ends : {A E P : Type 0} (r : Result A E) → OnOk r P → is_ok r ≡ true → P
ok_ends (Ok x) h e = h
ok_ends (Err x) h e = absurd cc

pub ends_ok : {A E P : Type 0} (r : Result A E) → (is_ok r ≡ true → P) → OnOk r P
ends_ok (Ok x) h = h refl
ends_ok (Err e) h = tt

-- ---- texts and null

pub no_text : (i : Item) → ((s : List ℕ) → i ≡ item.text_string s → ⊥) → text_from i ≡ None
no_text (item.text_string s) h = absurd (h s refl)
no_text _ h = refl

pub named_text : {T : Type 0} (named : List ℕ → Option T) (i : Item)
    → name_from named i ≡ option_and_then named (text_from i)
named_text named (item.number n) = refl
named_text named _ = refl

pub null_item : {M : Type 0} (kind : Kind M) (i : Item) → i ≡ item.null → optional_from kind i ≡ Some None
null_item kind item.null e = refl
null_item kind _ e = absurd cc

pub other_item : {M : Type 0} (kind : Kind M) (i : Item) → (i ≡ item.null → ⊥)
    → optional_from kind i ≡ option_map Some (kind i)
other_item kind item.null other = absurd (other refl)
other_item kind _ other = refl

-- ---- byte strings

pub no_aaguid : (i : Item) → ((s : List ℕ) → i ≡ item.byte_string s → ⊥) → aaguid_from i ≡ None
no_aaguid (item.byte_string s) h = absurd (h s refl)
no_aaguid _ h = refl

-- an error is the same for any view of the value
pub fails_as : {A B M N : Type 0} {view : A → M} {seen : B → N} {wanted : Option M} {given : Option N}
    {takes may : Type 0} {cost kept more to : ℕ} {a b : CursorState} (e : Refusal) → kept ≡ more
    → (wanted ≡ None → given ≡ None) → (takes → may) → Decodes view wanted takes cost kept to a b (Err e)
    → Decodes seen given may cost more to a b (Err e)
fails_as {cost = cost} {to = to} {a = a} {b} e few none grows r = grind (arith, failed)
