-- Iterating over the elements of a list that is encoded in bytes.
use Rattle.std.proofs.Common.{◌≡◌, ℕ, ◌+◌, ◌-◌, ◌<◌, ◌≤◌, Bool, true, false, not, nat_lt, List, [], ◌∷◌, ◌++◌, length, drop, Option, Some, None, refl, sym, ap, subst, ◌∙◌, append_assoc, arith}
use Rattle.std.proofs.lemmas.List.{length-append, length-drop, drop_at, drop-drop}
use Rattle.std.proofs.lemmas.Bool.{lt-ltb, ne_eqb}
use Rattle.passkey_cbor.specs.Item.{Item}
use Rattle.passkey_cbor.specs.Languages.{Language, Is, Then}
use Rattle.passkey_cbor.specs.Heads.{break}
use Rattle.passkey_cbor.specs.LeadingItem.{max_depth}
use Rattle.passkey_cbor.specs.HeadReading.{head_at}
use Rattle.passkey_cbor.specs.Reading.{Reader, is_break, pair_by, item_within}
use Rattle.passkey_cbor.specs.Inside.{Within, PairWithin, Left}
use Rattle.passkey_cbor.specs.HeadEncoding.{IsEncodingOfHead}
use Rattle.passkey_cbor.specs.Found.{PassesHead}
use Rattle.passkey_cbor.specs.CursorState.{CursorState, ahead, raised, IsInside, IsPlaced}
use Rattle.passkey_cbor.specs.Steps.{HeadRead, NoHead}
use Rattle.passkey_cbor.specs.EncodedAt.{Lies, Next, Walks, Looks, WalksOn, goes_on, left_after}
use Rattle.passkey_cbor.specs.declared.head.Head.{Head}
use Rattle.passkey_cbor.specs.declared.head.Head.TheVariants as head
use Rattle.passkey_cbor.proofs.items.Binds.{some_is, none_is_some, bind_some}
use Rattle.passkey_cbor.proofs.heads.HeadAgain.{head_again}
use Rattle.passkey_cbor.proofs.items.Lists.{Follows}
use Rattle.passkey_cbor.proofs.items.Items.{follows_item, follows_pair}
use Rattle.passkey_cbor.proofs.items.EncodedFrom.{lies_size}
use Rattle.passkey_cbor.proofs.skipping.Walks.{head_passed}

-- ---- one after the other

pub record Split (P Q : Language) (bytes : List ℕ) (from to : ℕ) : Type 0 where
  pub middle : ℕ
  pub front : Lies P bytes from middle
  pub back : Lies Q bytes middle to

-- two consecutive parts, and the offset between them
pub split : (P Q : Language) (bytes : List ℕ) (from to : ℕ) → Lies (Then P Q) bytes from to
    → Split P Q bytes from to
split P Q bytes from to l =
    let s = l.encoded in
    let rest = drop to bytes in
    let parts : drop from bytes ≡ s.front ++ (s.back ++ rest) =
    l.parts ∙ ap (λ (t : List ℕ). t ++ rest) s.whole ∙ append_assoc s.front s.back rest in
    let following : drop (from + length s.front) bytes ≡ s.back ++ rest = sym (drop-drop (length s.front) from bytes)
    ∙ ap (drop (length s.front)) parts ∙ drop_at s.front (s.back ++ rest) (length s.front) refl in
    let size : from + length s.front + length s.back ≡ to =
    omega (arith, lies_size (Then P Q) bytes from to l, ap length s.whole, length-append s.front s.back) in
    record {
      middle = from + length s.front;
      front = record {
        text = s.front;
        encoded = s.first;
        parts = parts ∙ ap (λ (t : List ℕ). s.front ++ t)
            (sym following);
        forward = omega arith;
        within = omega (arith, size, l.within);
      };
      back = record {
        text = s.back;
        encoded = s.second;
        parts = following;
        forward = omega (arith, size);
        within = l.within;
      };
    }

lies_as : (P Q : Language) (bytes : List ℕ) (from to : ℕ) (l : Lies P bytes from to) → Q l.text
    → Lies Q bytes from to
lies_as P Q bytes from to l q =
    record { text = l.text; encoded = q; parts = l.parts; forward = l.forward; within = l.within }

lies_empty : (bytes : List ℕ) (from to : ℕ) → Lies (Is []) bytes from to → from ≡ to
lies_empty bytes from to l = omega (arith, lies_size (Is []) bytes from to l, ap length l.encoded)

-- the next element of a list, and the others
next_of : {A : Type 0} (P : A → Language) (left : Option ℕ) (x : A) (xs : List A) (bytes : List ℕ) (from to : ℕ)
    → Lies (Then (P x) (Left P left xs)) bytes from to → Next P left (x ∷ xs) bytes from to
next_of P left x xs bytes from to l =
    let s = split (P x) (Left P left xs) bytes from to l in
    record { first = x; others = xs; whole = refl; middle = s.middle; here = s.front; after = s.back }

-- ---- a definite length

pub next_known : {A : Type 0} (P : A → Language) (n : ℕ) (xs : List A) (bytes : List ℕ) (from to : ℕ) → 0 < n
    → Lies (Left P (Some n) xs) bytes from to → Next P (Some (n - 1)) xs bytes from to
next_known P n [] bytes from to some l = absurd (omega (arith, l.encoded.0))
next_known P n (x ∷ xs) bytes from to some l =
    let e = l.encoded.1 in
    let fewer : n - 1 ≡ length xs = omega (arith, l.encoded.0) in
    next_of P (Some (n - 1)) x xs bytes from to
    (lies_as (Left P (Some n) (x ∷ xs)) (Then (P x) (Left P (Some (n - 1)) xs)) bytes from to l
    (record { front = e.front; back = e.back; first = e.first; second = (fewer, e.second); whole = e.whole }))

pub none_known : {A : Type 0} (P : A → Language) (n : ℕ) (xs : List A) (bytes : List ℕ) (from to : ℕ) → n ≡ 0
    → Lies (Left P (Some n) xs) bytes from to → (xs ≡ []) × (from ≡ to)
none_known P n [] bytes from to none l =
    (refl, lies_empty bytes from to (lies_as (Left P (Some n) []) (Is []) bytes from to l l.encoded.1))
none_known P n (x ∷ xs) bytes from to none l = absurd (omega (arith, l.encoded.0, none))

-- ---- an indefinite length, up to a break

pub next_unknown : {A : Type 0} (P : A → Language) (x : A) (xs : List A) (bytes : List ℕ) (from to : ℕ)
    → Lies (Left P None (x ∷ xs)) bytes from to → Next P None (x ∷ xs) bytes from to
next_unknown P x xs bytes from to l =
    let s = l.encoded in
    let e = s.first in
    next_of P None x xs bytes from to
    (lies_as (Left P None (x ∷ xs)) (Then (P x) (Left P None xs)) bytes from to l (record {
      front = e.front;
      back = e.back ++ s.back;
      first = e.first;
      second = record { front = e.back; back = s.back; first = e.second; second = s.second; whole = refl };
      whole = s.whole ∙ ap (λ (t : List ℕ). t ++ s.back) e.whole ∙ append_assoc e.front e.back s.back;
    }))

-- the next head in such a list: the break exactly if no element is left
pub record HeadThere {A : Type 0} (xs : List A) (bytes : List ℕ) (from to : ℕ) (h : Head) (r : List ℕ) : Type 0
  where
    pub reads : head_at (drop from bytes) ≡ Some (h, r)
    pub ends : is_break h ≡ true → (xs ≡ []) × (r ≡ drop to bytes)
    pub goes_on : is_break h ≡ false → xs ≡ [] → ⊥

head_there : {A : Type 0} (P : A → Language) (read : Reader A) (f : Follows P read) (xs : List A) (bytes : List ℕ)
    (from to : ℕ) → Lies (Left P None xs) bytes from to
    → (h : Head) × ((r : List ℕ) × HeadThere xs bytes from to h r)
head_there P read f [] bytes from to l =
    let parts : drop from bytes ≡ (break ∷ []) ++ drop to bytes = l.parts ∙ ap (λ (t : List ℕ). t ++ drop to bytes)
    (l.encoded.whole ∙ ap (λ (t : List ℕ). t ++ l.encoded.back) l.encoded.first ∙ l.encoded.second) in (
      head.Break,
      (
        drop to bytes,
        record {
          reads = ap head_at parts ∙ head_again head.Break (break ∷ []) (drop to bytes) refl;
          ends = λ e. (refl, refl);
          goes_on = λ e n. absurd cc;
        },
      ),
    )
head_there {A = A} P read f (x ∷ xs) bytes from to l =
    let e = l.encoded.first in
    let rest = (e.back ++ l.encoded.back) ++ drop to bytes in
    let parts : drop from bytes ≡ e.front ++ rest =
    l.parts ∙ ap (λ (t : List ℕ). t ++ drop to bytes) (l.encoded.whole
    ∙ ap (λ (t : List ℕ). t ++ l.encoded.back) e.whole ∙ append_assoc e.front e.back l.encoded.back)
    ∙ append_assoc e.front (e.back ++ l.encoded.back) (drop to bytes) in
    let b = bind_some (head_at (e.front ++ rest)) (λ h. read h.0 h.1) (x, rest) (f.again x e.front rest e.first) in
    let no : is_break b.0.0 ≡ false = f.no_break b.0.0 b.0.1 (x, rest) b.2 in (
      b.0.0,
      (
        b.0.1,
        record {
          reads = ap head_at parts ∙ b.1;
          ends = λ is. absurd (not_both (is_break b.0.0) is no);
          goes_on = λ is n. not_nil x xs n;
        },
      ),
    ) where
      not_both : (b : Bool) → b ≡ true → b ≡ false → ⊥
      not_both b p q = absurd cc

      not_nil : (x : A) (xs : List A) → x ∷ xs ≡ [] → ⊥
      not_nil x xs e = absurd cc

-- ---- the result of `more`, by what it decoded

follows_items : Follows (Within max_depth) (item_within max_depth)
follows_items = follows_item max_depth

follows_pairs : Follows (PairWithin max_depth) (pair_by (item_within max_depth))
follows_pairs = follows_pair (Within max_depth) (item_within max_depth) follows_items

-- items and pairs alike
both_walk : (before after : Option ℕ) (a b : CursorState) (found : Bool)
    → ((A : Type 0) (P : A → Language) (read : Reader A) → Follows P read → Walks P before after a b found)
    → Looks before after a b found → WalksOn before after a b found
both_walk before after a b found walks looks = record {
  items = walks Item (Within max_depth) (item_within max_depth) follows_items;
  pairs = walks (Item × Item) (PairWithin max_depth) (pair_by (item_within max_depth)) follows_pairs;
  looks = looks;
}

-- with a definite length, the cursor doesn't move
known_looks : (n : ℕ) (a : CursorState) (found : Bool) → IsInside a → found ≡ nat_lt 0 n
    → Looks (Some n) (left_after (Some n) found) a a found
known_looks n a found inside is = record {
  answer = is;
  left = refl;
  stays = λ e. refl;
  passes = λ e. omega arith;
  within = inside;
  heads = refl;
  nodes = refl;
  bytes = refl;
}

pub none_left : (before : Option ℕ) (n : ℕ) (a : CursorState) → IsInside a → before ≡ Some n → n ≡ 0
    → WalksOn before before a a false
none_left before n a inside is none =
    both_walk before before a a false (λ A P read f xs to l. none_known P n xs a.bytes a.place to none
    (subst (λ (left : Option ℕ). Lies (Left P left xs) a.bytes a.place to) is l)) (subst (λ (left : Option ℕ).
    Looks left left a a false) (sym is) (known_looks n a false inside (sym (ap (nat_lt 0) none))))

pub some_left : (before : Option ℕ) (n : ℕ) (a : CursorState) → IsInside a → before ≡ Some n → 0 < n
    → WalksOn before (Some (n - 1)) a a true
some_left before n a inside is some =
    both_walk before (Some (n - 1)) a a true (λ A P read f xs to l. next_known P n xs a.bytes a.place to some
    (subst (λ (left : Option ℕ). Lies (Left P left xs) a.bytes a.place to) is l)) (subst (λ (left : Option ℕ).
    Looks left (Some (n - 1)) a a true) (sym is) (known_looks n a true inside (sym (lt-ltb 0 n some))))

-- ---- whether a break follows

break_head : (h : Head) → is_break h ≡ true → h ≡ head.Break
break_head head.Break e = refl
break_head _ e = absurd cc

break_read : (bytes : List ℕ) → head_at (break ∷ bytes) ≡ Some (head.Break, bytes)
break_read bytes = head_again head.Break (break ∷ []) bytes refl

-- no break follows, as decoding shows
no_break_ahead : (bytes : List ℕ) → ((rest : List ℕ) → head_at bytes ≡ Some (head.Break, rest) → ⊥)
    → goes_on None bytes ≡ true
no_break_ahead [] none = refl
no_break_ahead (b ∷ bytes) none = ap not
    (ne_eqb b break (λ (e : b ≡ break). none bytes (ap (λ (n : ℕ). head_at (n ∷ bytes)) e ∙ break_read bytes)))

another_head : (bytes rest : List ℕ) (h : Head) (r : List ℕ) → head_at bytes ≡ Some (h, r) → is_break h ≡ false
    → head_at bytes ≡ Some (head.Break, rest) → ⊥
another_head bytes rest h r e other f =
    let same : head.Break ≡ h = ap (λ (q : Head × List ℕ). q.0) (some_is (head.Break, rest) (h, r) (sym f ∙ e)) in
    not_both (is_break h) (ap is_break (sym same)) other where
      not_both : (b : Bool) → b ≡ true → b ≡ false → ⊥
      not_both b p q = absurd cc

record BreakPassed (a b : CursorState) : Type 0 where
  pub ahead_is : goes_on None (ahead a) ≡ false
  pub place : b.place ≡ a.place + 1

break_passed : (a b : CursorState) (h : Head) → is_break h ≡ true → PassesHead a b h → BreakPassed a b
break_passed a b h ends p =
    let text_is : p.text ≡ break ∷ [] =
    subst (λ (g : Head). IsEncodingOfHead g p.text) (break_head h ends) p.encoded in
    record {
      ahead_is = ap (goes_on None) (p.parts ∙ ap (λ (t : List ℕ). t ++ ahead b) text_is);
      place = omega (arith, p.place, ap length text_is);
    }

looks_unknown : (before : Option ℕ) (a b : CursorState) (found : Bool) → before ≡ None → found ≡ goes_on None (ahead a)
    → (found ≡ true → b.place ≡ a.place) → (found ≡ false → b.place ≡ a.place + 1) → b.place ≤ length b.bytes
    → b.heads ≡ raised a.heads 1 → b.nodes ≡ a.nodes → b.bytes ≡ a.bytes → Looks before before a b found
looks_unknown before a b found is answer stays passes within heads nodes bytes =
    subst (λ (left : Option ℕ). Looks left left a b found) (sym is) (record {
      answer = answer;
      left = refl;
      stays = stays;
      passes = passes;
      within = within;
      heads = heads;
      nodes = nodes;
      bytes = bytes;
    })

-- a break follows
pub break_there : (before : Option ℕ) (a b : CursorState) (h : Head) → IsPlaced a.bytes a.place → before ≡ None
    → is_break h ≡ true → HeadRead a b h → WalksOn before before a b false
break_there before a b h placed is ends r =
    let passed = break_passed a b h ends (head_passed a b placed r.counted h r) in
    both_walk before before a b false (λ A P read f xs to l.
    let t = head_there P read f xs a.bytes a.place to
    (subst (λ (left : Option ℕ). Lies (Left P left xs) a.bytes a.place to) is l) in
    let same = some_is (t.0, t.1.0) (h, ahead b) (sym t.1.1.reads ∙ r.reads) in
    let e = t.1.1.ends (ap (λ (q : Head × List ℕ). is_break q.0) same ∙ ends) in
    let at_end : ahead b ≡ drop to a.bytes = sym (ap (λ (q : Head × List ℕ). q.1) same) ∙ e.1 in
    let long : length b.bytes ≡ length a.bytes = ap length r.passed.same in (
      e.0,
      omega (
        arith,
        long,
        ap length at_end,
        r.passed.within,
        l.within,
        length-drop b.place b.bytes,
        length-drop to a.bytes,
      ),
    )) (looks_unknown before a b false is (sym passed.ahead_is) (λ e. absurd cc)
    (λ e. passed.place) r.passed.within r.counted r.passed.nodes r.passed.same)

some_element : {A : Type 0} (P : A → Language) (xs : List A) (bytes : List ℕ) (from to : ℕ) → (xs ≡ [] → ⊥)
    → Lies (Left P None xs) bytes from to → Next P None xs bytes from to
some_element P [] bytes from to some l = absurd (some refl)
some_element P (x ∷ xs) bytes from to some l = next_unknown P x xs bytes from to l

-- the same, by the cursor's offset
at_place : {A : Type 0} (P : A → Language) (before : Option ℕ) (xs : List A) (a c : CursorState) (to : ℕ)
    → c.place ≡ a.place → c.bytes ≡ a.bytes → before ≡ None → Next P None xs a.bytes a.place to
    → Next P before xs c.bytes c.place to
at_place P before xs a c to place bytes is n = rw (place, bytes, is) n

-- another head follows, and the cursor went back
pub element_there : (before : Option ℕ) (a b c : CursorState) (h : Head) → IsInside a → before ≡ None → is_break h ≡ false
    → HeadRead a b h → c ≡ record b { place = a.place } → WalksOn before before a c true
element_there before a b c h inside is other r back =
    both_walk before before a c true (λ A P read f xs to l.
    let left_is = subst (λ (left : Option ℕ). Lies (Left P left xs) a.bytes a.place to) is l in
    let t = head_there P read f xs a.bytes a.place to left_is in
    let same = some_is (t.0, t.1.0) (h, ahead b) (sym t.1.1.reads ∙ r.reads) in
    at_place P before xs a c to (ap (λ (w : CursorState). w.place) back) (ap (λ (w : CursorState). w.bytes) back ∙ r.passed.same)
    is (some_element P xs a.bytes a.place to
    (t.1.1.goes_on (ap (λ (q : Head × List ℕ). is_break q.0) same ∙ other)) left_is))
    (looks_unknown before a c true is
    (sym (no_break_ahead (ahead a) (λ rest e. another_head (ahead a) rest h (ahead b) r.reads other e)))
    (λ e. ap (λ (w : CursorState). w.place) back)
    (λ e. absurd cc)
    (omega (
      arith,
      inside,
      ap (λ (w : CursorState). w.place) back,
      ap (λ (w : CursorState). length w.bytes) back,
      ap length r.passed.same,
    ))
    (ap (λ (w : CursorState). w.heads) back ∙ r.counted)
    (ap (λ (w : CursorState). w.nodes) back ∙ r.passed.nodes)
    (ap (λ (w : CursorState). w.bytes) back ∙ r.passed.same))

-- no well-formed head follows, so no list is left
pub no_head_there : (before : Option ℕ) (a b : CursorState) → before ≡ None → b.heads ≡ raised a.heads 1
    → b.place ≡ a.place → NoHead (head_at (ahead a)) a b → WalksOn before before a b true
no_head_there before a b is one stays n =
    both_walk before before a b true (λ A P read f xs to l.
    let t = head_there P read f xs a.bytes a.place to
    (subst (λ (left : Option ℕ). Lies (Left P left xs) a.bytes a.place to) is l) in
    absurd (none_is_some (t.0, t.1.0) (sym n.reads ∙ t.1.1.reads)))
    (looks_unknown before a b true is
    (sym (no_break_ahead (ahead a) (λ rest e. none_is_some (head.Break, rest) (sym n.reads ∙ e))))
    (λ e. stays)
    (λ e. absurd cc)
    n.stopped.within
    one
    n.stopped.nodes
    n.stopped.same)
