-- Looking for a key among the members of a map.
use Rattle.std.proofs.Common.{◌≡◌, ◌↔◌, ℕ, ◌-◌, ◌≤◌, Bool, true, false, List, [], ◌∷◌, ◌++◌, length, drop, Option, Some, None, IsTrue, refl, sym, ap, subst, ◌∙◌, append_assoc, append-nil, arith}
use Rattle.std.proofs.lemmas.List.Elements.{All-append, All-cons, All-nil}
use Rattle.std.specs.List.{All}
use Rattle.std.proofs.lemmas.Bool.Decides.{nat_tests}
use Rattle.std.specs.Prelude.{MatchOption}
use Rattle.passkey_cbor.specs.Item.{Item, map, members, pairs_of}
use Rattle.passkey_cbor.specs.Languages.{Language, Each}
use Rattle.passkey_cbor.specs.LeadingItem.{max_depth}
use Rattle.passkey_cbor.specs.Inside.{Within, PairWithin, Inside}
use Rattle.passkey_cbor.specs.CursorState.{CursorState}
use Rattle.passkey_cbor.specs.EncodedAt.{Lies, IsEncodedAt, PairsAreEncodedAt, Walks, Looks, Passes}
use Rattle.passkey_cbor.specs.declared.head.Head.{Head}
use Rattle.passkey_cbor.specs.declared.head.Head.TheVariants as head
use Rattle.passkey_cbor.proofs.items.EncodedFrom.{only_one, stands_front}
use Rattle.passkey_cbor.proofs.items.Items.{members-pairs_of}
use Rattle.passkey_cbor.proofs.items.Lists.{each_and_one}
use Rattle.passkey_cbor.proofs.items.More.{split}
use Rattle.passkey_view.specs.declared.item_view.ItemView.{ItemView}
use Rattle.passkey_view.specs.ItemView.{IsViewOf, HasItemAt, HasNoItemAt, IsOpened}
use Rattle.passkey_view.specs.Member.{Members, PassedKey, PassesKey, HasNoKey, IsFirstAmong, FindsAmong, HasMember, HasNoMember}

-- ---- one more element after the others

lies_and_one : {A : Type 0} (P : A → Language) (xs : List A) (x : A) (bytes : List ℕ) (from middle to : ℕ)
    → Lies (Each P xs) bytes from middle → Lies (P x) bytes middle to → Lies (Each P (xs ++ x ∷ [])) bytes from to
lies_and_one P xs x bytes from middle to l m = record {
  text = l.text ++ m.text;
  encoded = each_and_one P xs x l.text m.text l.encoded m.encoded;
  parts = l.parts ∙ ap (λ (r : List ℕ). l.text ++ r) m.parts ∙ sym (append_assoc l.text m.text (drop to bytes));
  forward = omega (arith, l.forward, m.forward);
  within = m.within;
}

pub none_yet : {A : Type 0} (P : A → Language) (bytes : List ℕ) (from : ℕ) → from ≤ length bytes
    → Lies (Each P []) bytes from from
none_yet P bytes from inside =
    record { text = []; encoded = refl; parts = refl; forward = omega arith; within = inside }

-- ---- one data item at a place

pub same_item : (x y : Item) (bytes : List ℕ) (from to end : ℕ) → IsEncodedAt x bytes from to
    → IsEncodedAt y bytes from end → y ≡ x
same_item x y bytes from to end l m = (only_one x y bytes from to (end - from) l (stands_front y bytes from end m)).0

is_true : {P : Type 0} → IsTrue true ↔ P → P
is_true e = grind arith

is_false : {P : Type 0} → IsTrue false ↔ P → P → ⊥
is_false e p = grind arith

-- ---- from member to member

-- Members without the key were passed, and the others are left.
pub record LooksOn (key : Item) (ms : Members) (bytes : List ℕ) (from to : ℕ) (left : Option ℕ) (now : CursorState) :
    Type 0 where
  pub passed : Members
  pub rest : Members
  pub whole : ms ≡ passed ++ rest
  pub none : HasNoKey key passed
  pub earlier : Lies (Each (PairWithin max_depth) passed) bytes from now.place
  pub ahead : PairsAreEncodedAt left rest now.bytes now.place to
  pub same : now.bytes ≡ bytes

-- The cursor passed the next member's key, and the result says whether it is the one that is looked for.
pub record PassedNext (key : Item) (ms : Members) (bytes : List ℕ) (from to : ℕ) (left : Option ℕ)
    (found : Option Bool) (old now : CursorState) : Type 0 where
  pub passed : Members
  pub label : Item
  pub value : Item
  pub others : Members
  pub key_at : ℕ
  pub key_end : ℕ
  pub value_end : ℕ
  pub whole : ms ≡ passed ++ (label, value) ∷ others
  pub none : HasNoKey key passed
  pub earlier : Lies (Each (PairWithin max_depth) passed) bytes from key_at
  pub pair : Lies (PairWithin max_depth (label, value)) bytes key_at value_end
  pub here : IsEncodedAt label bytes key_at key_end
  pub there : IsEncodedAt value bytes key_end value_end
  pub after : PairsAreEncodedAt left others bytes value_end to
  pub reads : PassesKey key label key_end old now found
  pub same : old.bytes ≡ bytes

pub passed_next : (key : Item) (ms : Members) (bytes : List ℕ) (from to : ℕ) {before after : Option ℕ} {a b k : CursorState}
    {found : Option Bool} → LooksOn key ms bytes from to before a
    → Walks (PairWithin max_depth) before after a b true → Looks before after a b true
    → ((x : Item) (end : ℕ) → IsEncodedAt x b.bytes b.place end → PassesKey key x end b k found)
    → PassedNext key ms bytes from to after found b k
passed_next key ms bytes from to {b = b} e walks looks reads =
    let m = walks e.rest to e.ahead in
    let same : b.bytes ≡ bytes = looks.bytes ∙ e.same in
    let s = split (Within max_depth m.first.0) (Within max_depth m.first.1) b.bytes b.place m.middle m.here in
    record {
      passed = e.passed;
      label = m.first.0;
      value = m.first.1;
      others = m.others;
      key_at = b.place;
      key_end = s.middle;
      value_end = m.middle;
      whole = e.whole ∙ ap (λ (r : Members). e.passed ++ r) m.whole;
      none = e.none;
      earlier = rw (looks.stays refl) e.earlier;
      pair = rw same at m.here;
      here = subst (λ (l : List ℕ). IsEncodedAt m.first.0 l b.place s.middle) same s.front;
      there = subst (λ (l : List ℕ). IsEncodedAt m.first.1 l s.middle m.middle) same s.back;
      after = rw same at m.after;
      reads = reads m.first.0 s.middle s.front;
      same = same;
    }

module _ {key : Item} {ms : Members} {bytes : List ℕ} {from to : ℕ} {left : Option ℕ} {b k : CursorState} where
  pub not_read : PassedNext key ms bytes from to left None b k → ⊥
  not_read n = n.reads

  pub value_there : {found : Bool} (n : PassedNext key ms bytes from to left (Some found) b k)
      → IsEncodedAt n.value k.bytes k.place n.value_end
  value_there n = rw (n.reads.bytes, n.same, n.reads.place) n.there

  pub looks_on : {d : CursorState} {found : Bool} → found ≡ false
      → (n : PassedNext key ms bytes from to left (Some found) b k) → Passes n.value_end k d true
      → LooksOn key ms bytes from to left d
  looks_on {d} is_not n p =
      let same : d.bytes ≡ bytes = p.bytes ∙ n.reads.bytes ∙ n.same in
      let other : n.label ≡ key → ⊥ = is_false (rw is_not at n.reads.is) in
      record {
        passed = n.passed ++ (n.label, n.value) ∷ [];
        rest = n.others;
        whole = n.whole ∙ sym (append_assoc n.passed ((n.label, n.value) ∷ []) n.others);
        none = All-append (λ (m : Item × Item). m.0 ≡ key → ⊥) n.passed ((n.label, n.value) ∷ []) n.none
            (All-cons (λ (m : Item × Item). m.0 ≡ key → ⊥) (n.label, n.value) [] other (All-nil _));
        earlier = rw p.place (lies_and_one (PairWithin max_depth) n.passed (n.label, n.value) bytes from n.key_at
            n.value_end n.earlier n.pair);
        ahead = rw (same, p.place) n.after;
        same = same;
      }

  first_among : {found : Bool} → found ≡ true → (n : PassedNext key ms bytes from to left (Some found) b k)
      → (v : ItemView) → HasItemAt k.bytes k.place v → IsFirstAmong key ms bytes from v
  first_among is_key n v h =
      let is : n.label ≡ key = is_true (rw is_key at n.reads.is) in
      let view = rw (n.reads.bytes, n.same, n.reads.place) at h.1 in
      let value : h.0 ≡ n.value = same_item n.value h.0 bytes n.key_end n.value_end v.end n.there view.whole in
      let from_is : v.from ≡ n.key_end = view.from_is in
      record {
        before = n.passed;
        following = n.others;
        value = n.value;
        key_at = n.key_at;
        whole = rw is at n.whole;
        first = n.none;
        earlier = n.earlier;
        here = rw (from_is, ← is) n.here;
        value_is = subst (λ (x : Item). IsViewOf x bytes v.from v) value (rw (← from_is) at view);
      }

  pub finds_first : {found : Bool} → found ≡ true → PassedNext key ms bytes from to left (Some found) b k
      → (view : Option ItemView) → MatchOption view (HasNoItemAt k.bytes k.place) (HasItemAt k.bytes k.place)
      → FindsAmong key ms bytes from view
  finds_first is_key n None h = absurd (h n.value n.value_end (value_there n))
  finds_first is_key n (Some v) h = first_among is_key n v h

-- no member is left
pub none_has_it : {key : Item} {ms : Members} {bytes : List ℕ} {from to : ℕ} {before : Option ℕ} {a : CursorState}
    (after : Option ℕ) (b : CursorState) → LooksOn key ms bytes from to before a
    → Walks (PairWithin max_depth) before after a b false → HasNoKey key ms
none_has_it {key} {to = to} after b e walks =
    let done = walks e.rest to e.ahead in
    subst (HasNoKey key) (sym (e.whole ∙ ap (λ (r : Members). e.passed ++ r) done.0 ∙ append-nil e.passed)) e.none

pub looks_first : (key : Item) (ms : Members) (to : ℕ) (left : Option ℕ) (a : CursorState) → PairsAreEncodedAt left ms a.bytes a.place to → LooksOn key ms a.bytes a.place to left a
looks_first key ms to left a l = record {
  passed = [];
  rest = ms;
  whole = refl;
  none = All-nil _;
  earlier = none_yet (PairWithin max_depth) a.bytes a.place (omega (arith, l.forward, l.within));
  ahead = l;
  same = refl;
}

-- ---- the map around the members

members_same : (ms others : Members) → map (pairs_of ms) ≡ map (pairs_of others) → ms ≡ others
members_same ms others e = let p : pairs_of ms ≡ pairs_of others = cc in
    sym (members-pairs_of ms) ∙ ap members p ∙ members-pairs_of others

found_among : (key x : Item) (ms : Members) (bytes : List ℕ) (offset : ℕ) (view : ItemView)
    → IsViewOf x bytes offset view → x ≡ map (pairs_of ms) → (found : Option ItemView)
    → FindsAmong key ms bytes view.content found
    → MatchOption found (HasNoMember key bytes offset) (HasMember key bytes offset)
found_among key x ms bytes offset view v e None f = λ others to l.
    subst (HasNoKey key) (members_same ms others (sym e ∙ sym (same_item x (map (pairs_of others)) bytes offset view.end to
    v.whole l))) f
found_among key x ms bytes offset view v e (Some w) f = record {
  members = ms;
  container = view;
  is_map = subst (λ (y : Item). IsViewOf y bytes offset view) e v;
  is_first = f;
}

-- what is found after the head of the map is found in the map
pub found_in_map : (key x : Item) (left : Option ℕ) (view : ItemView) (found : Option ItemView) (a b : CursorState)
    → IsViewOf x a.bytes a.place view → view.head ≡ head.Map left → IsOpened a b view
    → ((ms : Members) (to : ℕ) → PairsAreEncodedAt left ms b.bytes b.place to
    → FindsAmong key ms b.bytes b.place found)
    → MatchOption found (HasNoMember key a.bytes a.place) (HasMember key a.bytes a.place)
found_in_map key x left view found a b v is o finds =
    let r : Lies (Inside (head.Map left) x) a.bytes view.content view.end =
    subst (λ (h : Head). Lies (Inside h x) a.bytes view.content view.end) is v.rest in
    let ms : Members = r.encoded.0 in
    let l : PairsAreEncodedAt left ms a.bytes view.content view.end = record {
      text = r.text;
      encoded = r.encoded.1.1;
      parts = r.parts;
      forward = r.forward;
      within = r.within;
    } in
    found_among key x ms a.bytes a.place view v r.encoded.1.0 found
    (rw (o.bytes, o.place) at (finds ms view.end (rw (o.bytes, o.place) l)))

map_headed : (h : Head) (x : Item) (ms : Members) (t : List ℕ) → Inside h x t → x ≡ map (pairs_of ms)
    → ((left : Option ℕ) → h ≡ head.Map left → ⊥) → ⊥
map_headed (head.Map left) x ms t i e other = other left refl
map_headed (head.Simple n) x ms t i e other = grind (arith, nat_tests, i.0)
map_headed _ x ms t i e other = grind arith

-- an item with another head is no map
pub no_map : (x : Item) (bytes : List ℕ) (offset : ℕ) (view : ItemView) (ms : Members) (to : ℕ)
    → IsViewOf x bytes offset view → ((left : Option ℕ) → view.head ≡ head.Map left → ⊥)
    → IsEncodedAt (map (pairs_of ms)) bytes offset to → ⊥
no_map x bytes offset view ms to v other l =
    map_headed view.head x ms v.rest.text v.rest.encoded
    (sym (same_item x (map (pairs_of ms)) bytes offset view.end to v.whole l)) other
