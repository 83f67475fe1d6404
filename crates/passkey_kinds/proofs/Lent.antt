-- Strings that are lent at a cursor.
use Rattle.passkey_kinds.proofs.Common.{SpendsLess, counts_stay, raised-le, head_again, head_long, each_long, lends_start, lends_on, lends_all, AChunk, follows_chunk, IsEncodedAt, Definite, Content, Item, byte_string, text_string, Each, Region, HoldsString, PassesString, LooksOnce, IsRegion, heads_in, LendsFrom, LooksAtAll, LooksAtSome, LentWhole, string_head, string_item, Kind, LooksFor, heads_until, heads_sought, LendsPiece, LendsNoPiece, LooksAhead, LendsUpTo, chunk, CursorState, ahead, raised, DataGrows, data_parts, AuthenticatorData, algorithm_from, data_from, authenticator_data_nodes, CountsData, AnswersAs, bytes_from, MayGrow, number_from, list_from, Answers, scalar_in, Further, Decodes, LooksAtMost, Spends, names, Refused, Refusal, IsOf, whole_64, NumberState, ◌≡◌, ◌∙◌, ◌<◌, ◌+◌, ℕ, suc, arith, Bool, true, false, List, [], ◌∷◌, ◌++◌, length, Option, Some, None, option_map, refl, sym, ap, rules, ◌≤◌, Result, subst, ◌-◌, Err, cond, ℤ, ◌^◌, zero, length-append, length-take, concat, ok_or, algorithm_named, option_and_then, signed_in, Algorithm}
use Rattle.passkey_core.specs.DataReading.{fixed_at}
use Rattle.passkey_kinds.proofs.Cursor.{stands_long, eased, on_ok, stands_back, string_further, further_then}
use Rattle.passkey_cbor.specs.Item as item
use Rattle.passkey_kinds.specs.Coded.{authenticator_data}

-- ---- no more heads than bytes

chunks_long : (is_text : Bool) (s bytes : List ℕ) (c : Content is_text None s bytes)
    → length c.first.0 + 1 ≤ length bytes
chunks_long is_text s bytes c =
    let long = each_long (AChunk is_text) (chunk is_text) (follows_chunk is_text) c.first.0 c.front c.first.1.1 in
    grind (arith, length-append, long)

heads_few : (is_text : Bool) (len : Option ℕ) (s bytes : List ℕ) (c : Content is_text len s bytes)
    → heads_in is_text len s bytes c ≤ length bytes
heads_few is_text (Some n) s bytes c = omega arith
heads_few is_text None s bytes c = chunks_long is_text s bytes c

either_few : (b : Bool) (n k : ℕ) → n ≤ k → cond b n 0 ≤ k
either_few true n k h = h
either_few false n k h = omega arith

until_few : (names : List (List ℕ)) (joined : List ℕ) (cs : List (List ℕ))
    → heads_until names joined cs ≤ length cs + 1
until_few names joined [] = omega arith
until_few names joined (c ∷ cs) = grind (arith, either_few, until_few names (joined ++ c) cs)

sought_few : (is_text : Bool) (names : List (List ℕ)) (len : Option ℕ) (s bytes : List ℕ)
    (c : Content is_text len s bytes) → heads_sought is_text names len s bytes c ≤ length bytes
sought_few is_text names (Some n) s bytes c = omega arith
sought_few is_text names None s bytes c = omega (arith, until_few names [] c.first.0, chunks_long is_text s bytes c)

-- ---- looking again

module _ {r : Region} {a b : CursorState} (rises : a.heads ≤ b.heads) where
  looked : b.heads ≤ a.heads + length r.bytes → b.place ≡ a.place → b.nodes ≡ a.nodes → b.bytes ≡ a.bytes
      → LooksAtMost r a b
  looked heads place nodes bytes = grind (arith)

  pub looks_all : (is_text : Bool) → IsRegion is_text r → LooksAtAll is_text r a b → LooksAtMost r a b
  looks_all is_text t l =
      let few = heads_few is_text r.len t.0 r.bytes t.1 in
      looked (omega (arith, l.heads t.0 t.1, raised-le, few)) l.place l.nodes l.bytes

  pub looks_some : (is_text : Bool) → IsRegion is_text r → LooksAtSome is_text r a b → LooksAtMost r a b
  looks_some is_text t l =
      looked (omega (arith, l.heads t.0 t.1, heads_few is_text r.len t.0 r.bytes t.1)) l.place l.nodes l.bytes

  pub looks_names : (is_text : Bool) (names : List (List ℕ)) → IsRegion is_text r → LooksFor is_text names r a b
      → LooksAtMost r a b
  looks_names is_text names t l =
      let few = sought_few is_text names r.len t.0 r.bytes t.1 in
      looked (omega (arith, l.heads t.0 t.1, raised-le, few)) l.place l.nodes l.bytes

pub looks_none : (r : Region) (a : CursorState) → LooksAtMost r a a
looks_none r a = record { heads = omega arith; rises = omega arith; place = refl; nodes = refl; bytes = refl }

-- ---- what a string costs

-- what follows a string's head is shorter than the string
region_shorter : (is_text : Bool) (a b : CursorState) (r : Region) → PassesString is_text a b r
    → a.place + length r.bytes < b.place
region_shorter is_text a b r p =
    let h = p.headed in
    let long = head_long (h.front ++ []) _ [] (head_again (string_head is_text r.len) h.front [] h.first) in
    omega (arith, long, length-take p.len (ahead a), length-append {A = ℕ}, ap length h.whole, ap length h.second)

-- The string that is encoded there is lent, and then looked at again at most once.
pub lent_spends : {is_text : Bool} {a b d : CursorState} {r : Region} (i : Item) {to : ℕ}
    → IsEncodedAt i a.bytes a.place to → PassesString is_text a b r → LendsFrom is_text i to a b (Some r)
    → LooksAtMost r b d → Spends 2 0 to a d × (d.place ≡ to)
lent_spends i l p f looks = search (rules, region_shorter)

-- one head to spare, since the string's own head isn't looked at again
pub lent_less : {is_text : Bool} {a b d : CursorState} {r : Region} (i : Item) {to : ℕ}
    → IsEncodedAt i a.bytes a.place to → PassesString is_text a b r → LendsFrom is_text i to a b (Some r)
    → LooksAtMost r b d → SpendsLess 2 0 to a d × (d.place ≡ to)
lent_less {is_text} {a} {b} {d} {r} i {to} l p f looks =
    let short = region_shorter is_text a b r p in
    let at : d.place ≡ to = omega (arith, looks.place, f.1.1.place) in (
      record {
        within = omega (arith, at);
        heads = omega (arith, looks.heads, f.1.1.heads, f.1.1.place, short);
        nodes = omega (arith, looks.nodes, f.1.1.nodes);
      },
      at,
    )

-- no string of this type is encoded there, and one head was decoded
pub not_lent_spends : (is_text : Bool) (a b : CursorState) (i : Item) (to : ℕ) → IsEncodedAt i a.bytes a.place to
    → LendsFrom is_text i to a b None → Spends 1 0 to a b
not_lent_spends is_text a b i to l f = search (rules, stands_long)

-- The result for a string that is lent, and then looked at again at most once: that of the string in memory.
pub lent_decodes : {A M : Type 0} {view : A → M} (kind : Kind M) (takes : Bool) {cost kept : ℕ} {is_text : Bool}
    {a b d : CursorState} {r : Region} (i : Item) {to : ℕ} {result : Result A Refusal} → 2 ≤ cost
    → IsEncodedAt i a.bytes a.place to → PassesString is_text a b r → (f : LendsFrom is_text i to a b (Some r))
    → LooksAtMost r b d
    → AnswersAs view (kind (string_item is_text f.0)) (MayGrow takes (string_item is_text f.0)) result
    → Decodes view (kind i) (MayGrow takes i) cost kept to a d result
lent_decodes {view = view} kind takes i {result = result} dear l p f looks h =
    let spent = lent_spends i l p f looks in
    record {
      answers = subst (λ (x : Item). AnswersAs view (kind x) (MayGrow takes x) result) (sym f.1.0) h;
      spends = eased dear (omega arith) (omega (arith, l.forward)) spent.0;
      ends = on_ok result spent.1;
    }

-- a byte string takes memory, unless it is empty
pub bytes_grow : (s : List ℕ) → 0 < length s → MayGrow true (byte_string s)
bytes_grow [] some = absurd (omega (arith, some))
bytes_grow (x ∷ s) some = (refl, tt)

-- The result if no string of this type is encoded there.
pub not_lent_decodes : {A M : Type 0} (view : A → M) (wanted : Option M) (takes : Type 0) (is_text : Bool)
    (cost kept : ℕ) (a b : CursorState) (i : Item) (to : ℕ) → 1 ≤ cost → IsEncodedAt i a.bytes a.place to
    → LendsFrom is_text i to a b None → wanted ≡ None → Decodes view wanted takes cost kept to a b (Err Refused)
not_lent_decodes view wanted takes is_text cost kept a b i to one l f none = record {
  answers = none;
  spends = eased one (omega arith) (omega (arith, stands_long i l))
      (not_lent_spends is_text a b i to l f);
  ends = tt;
}

-- ---- strings that are lent at a cursor and looked at again: what they are, and where the cursor is then

whole_is : (is_text : Bool) (len : Option ℕ) (bytes t s : List ℕ) → Some t ≡ option_map (λ (n : ℕ). bytes) len
    → Content is_text len s bytes → t ≡ s
whole_is is_text None bytes t s e c = absurd cc
whole_is is_text (Some n) bytes t s e c = grind arith

-- what is lent of a string in one piece is the whole string
pub lent_is : (is_text : Bool) (r : Region) (t s : List ℕ) → LentWhole r (Some t) → HoldsString is_text r s → t ≡ s
lent_is is_text r t s e tells = whole_is is_text r.len r.bytes t s e tells

-- a text that was passed is the item there
pub text_there : (s : List ℕ) {a b : CursorState} (i : Item) {to : ℕ}
    → LendsFrom true i to a b (Some (record { len = Some (length s); bytes = s })) → i ≡ text_string s
text_there s i f = f.1.0 ∙ ap text_string
    (sym (lent_is true (record { len = Some (length s); bytes = s }) s f.0 refl f.1.1.tells))

module _ (a b d : CursorState) (r : Region) where
  pub looked_further : (is_text : Bool) → PassesString is_text a b r → LooksAtMost r b d → Further a d
  looked_further is_text p looks = further_then a b d (string_further is_text a b r p)
      (counts_stay b d looks.bytes looks.place looks.rises) (omega (arith, looks.place))

  pub copied_further : (is_text : Bool) → PassesString is_text a b r → LooksAtAll is_text r b d → b.heads ≤ d.heads
      → Further a d
  copied_further is_text p looks rises = further_then a b d (string_further is_text a b r p)
      (counts_stay b d looks.bytes looks.place rises) (omega (arith, looks.place))

-- ---- results

-- the value, or a refusal if there is none
pub or_refused : {X : Type 0} (wanted found : Option X) (result : Result X Refusal) (takes : Type 0)
    → wanted ≡ found → result ≡ ok_or found Refused → AnswersAs (λ x. x) wanted takes result
or_refused wanted (Some x) result takes e r = grind arith
or_refused wanted None result takes e r = grind arith

-- the item is still encoded there after one head that isn't its string's
pub stands_missed : (i : Item) {a b : CursorState} {to : ℕ} → LooksOnce a b → IsEncodedAt i a.bytes a.place to
    → IsEncodedAt i b.bytes b.place to
stands_missed i {b = b} p l = stands_back i b p.bytes p.place l

-- what is spent after one head that isn't the item's
pub missed_spends : {cost kept to : ℕ} {a b d : CursorState} → LooksOnce a b → a.place < to → Spends cost kept to b d
    → Spends (suc cost) kept to a d
missed_spends p less s = grind arith

-- decoded after one head that isn't its string's
pub missed_then : {A M : Type 0} {view : A → M} {wanted : Option M} {takes : Type 0} {cost kept to : ℕ}
    {a b d : CursorState} {result : Result A Refusal} → LooksOnce a b → a.place < to
    → Decodes view wanted takes cost kept to b d result → Decodes view wanted takes (suc cost) kept to a d result
missed_then p less r = grind arith

-- ---- byte strings

pub bytes_are : (i : Item) → ((s : List ℕ) → i ≡ item.byte_string s → ⊥) → ((s : List ℕ) → i ≡ item.text_string s → ⊥)
    → bytes_from i ≡ list_from (number_from 256) i
bytes_are (item.byte_string s) b t = absurd (b s refl)
bytes_are (item.text_string s) b t = absurd (t s refl)
bytes_are _ b t = refl

-- ---- texts of numbers whose pieces are lent one after the other, and other items that decode to an
-- algorithm

-- a raised count doesn't fall, if it was at most the greatest number
raised_rises : (n k : ℕ) → n ≤ 2 ^ 128 - 1 → n ≤ raised n k
raised_rises n zero h = omega arith
raised_rises n (suc k) h = omega arith

-- ---- a loop over the pieces

-- The pieces lent so far were added to the text of the number.
pub record AddsUpTo (whole left : Region) (old now : CursorState) (number : NumberState) : Type 0 where
  pub bytes : List ℕ
  pub lent : LendsUpTo true whole left old now bytes
  pub is_of : IsOf number bytes

pub adds_none : {whole left : Region} (a : CursorState) (n : NumberState) → left ≡ whole → IsOf n []
    → AddsUpTo whole left a a n
adds_none {whole} a n e h = record { bytes = []; lent = rw e (lends_start true whole a); is_of = h }

module _ {whole left next : Region} {a b d : CursorState} {n : NumberState} (u : AddsUpTo whole left a b n)
    (looks : LooksAhead left b d) where
  pub adds_one : (m : NumberState) {piece : List ℕ} →
      LendsPiece true left next piece → ((text : List ℕ) → IsOf n text → IsOf m (text ++ piece))
      → AddsUpTo whole next a d m
  adds_one m {piece} p push = record {
    bytes = u.bytes ++ piece;
    lent = lends_on true whole left next a b d u.bytes (u.bytes ++ piece) piece u.lent p looks refl;
    is_of = push u.bytes u.is_of;
  }

  -- at the end, the text of the number is the string
  pub adds_all : LendsNoPiece true left next → (found : Option ℤ)
      → ((text : List ℕ) → IsOf n text → found ≡ whole_64 text) →
      (s : List ℕ) → HoldsString true whole s → found ≡ whole_64 s
  adds_all p found h s t =
      h u.bytes u.is_of ∙ ap whole_64 (sym ((lends_all true whole left next a b d u.bytes u.lent p looks).0 s t))

  -- and each head was looked at once
  pub adds_looks : LendsNoPiece true left next → IsRegion true whole → a.heads ≤ 2 ^ 128 - 1 → LooksAtMost whole a d
  adds_looks p t fits =
      let all = (lends_all true whole left next a b d u.bytes u.lent p looks).1 in
      let rises = raised_rises a.heads (heads_in true whole.len t.0 whole.bytes t.1) fits in
      looks_all (omega (arith, all.heads t.0 t.1, rises)) true t all

-- ---- numbers

-- the algorithm with this number
abbrev pub numbered : Item → Option Algorithm
numbered i = option_and_then algorithm_named (signed_in i)

pub other_number : (i : Item) → ((s : List ℕ) → i ≡ item.text_string s → ⊥) → algorithm_from i ≡ numbered (scalar_in i)
other_number (item.number z) t = refl
other_number (item.text_string s) t = absurd (t s refl)
other_number _ t = refl

-- ---- authenticator data, decoded from a byte string at a cursor

-- parts that take memory are encoded in the bytes, so these aren't empty
pub parts_grow : (bytes : List ℕ) → DataGrows bytes → MayGrow true (byte_string bytes)
unfolding fixed_at
parts_grow [] e = absurd e
parts_grow (b ∷ rest) e = (refl, tt)

-- ---- no string is longer than its region, which is shorter than the string's encoding

chunks_whole : (IsAllowed : List ℕ → Type 0) (major : ℕ) (cs : List (List ℕ)) (t : List ℕ)
    → Each (Definite IsAllowed major) cs t → length (concat cs) ≤ length t
chunks_whole IsAllowed major [] t e = omega arith
chunks_whole IsAllowed major (c ∷ cs) t e = grind (arith, length-append, chunks_whole IsAllowed major cs e.back e.second)

content_short : (len : Option ℕ) (s bytes : List ℕ) → Content false len s bytes → length s ≤ length bytes
content_short (Some n) s bytes c = omega (arith, ap length c.1)
content_short None s bytes c = grind (arith, chunks_whole, length-append)

-- ---- all of the data

pub data_decodes : {a b e d : CursorState} {r : Region} (i : Item) {to : ℕ} {t : List ℕ}
    {result : Result AuthenticatorData Refusal} → PassesString false a b r → (f : LendsFrom false i to a b (Some r))
    → LooksAtMost r b e → t ≡ f.0 → CountsData t e d → Answers data_parts authenticator_data.typed (byte_string t)
    result → Decodes data_parts (data_from i) (MayGrow true i) 6 (authenticator_data_nodes i) to a d result
data_decodes {a = a} {b} {r = r} i {t = t} {result} p f looks same counts h =
    let is : i ≡ byte_string t = f.1.0 ∙ ap byte_string (sym same) in
    let lent = f.1.1 in
    let short = content_short r.len f.0 r.bytes lent.tells in
    record {
      answers =
          subst (λ (x : Item). AnswersAs data_parts (data_from x) (MayGrow true x) result) (sym is) h;
      spends = record {
        within = omega (arith, lent);
        heads = omega (arith, lent, region_shorter false a b r p, short, ap length same);
        nodes = omega (arith, lent, ap authenticator_data_nodes is);
      };
      ends = on_ok result (counts.place ∙ looks.place ∙ lent.place);
    }

-- the cost of the data is added after the string
pub counted_further : {a e d : CursorState} {s : List ℕ} → Further a e → CountsData s e d → Further a d
counted_further {a} {e} {d} p counts = further_then a e d p
    (counts_stay e d counts.same counts.place counts.heads_rise) (omega (arith, counts.place))

-- the data is decoded after the string
pub data_further : (a b e d : CursorState) (r : Region) (s : List ℕ) → PassesString false a b r → LooksAtMost r b e
    → CountsData s e d → Further a d
data_further a b e d r s p looks counts = counted_further (looked_further a b e r false p looks) counts

pub no_data : (i : Item) → ((s : List ℕ) → i ≡ byte_string s → ⊥) → data_from i ≡ None
no_data (item.byte_string s) h = absurd (h s refl)
no_data _ h = refl
