-- The rows that names and map keys name.
use Rattle.passkey_kinds.proofs.Common.{named_as, IsEncodedAt, CursorState, LooksOnce, Spends, Further, Onward, sym, nat_tests, find, bytes_eq, ◌≡◌, ◌∙◌, ◌<◌, ◌==◌, ℕ, arith, zero, suc, Bool, true, ◌+◌, List, [], ◌∷◌, ◌++◌, length, map, take, drop, set, get_or, Bor, add-one, Option, Some, None, cond, nat_lt, slice_get, refl, ap, cases_lt, eqb-true, length-map, map_push, take_more_set, Item, scalar_in, naming_of, IfSome, entry_of, Row, Entry, row, wrong, row_or_unknown, names, position, position_or_len, take-suc, slice_get_past, row_at, row_named, both_names, append_assoc, length-append, option_or}
use Rattle.std.specs.Prelude.{IfNone, pos, ◌≤◌}
use Rattle.std.proofs.lemmas.Slice.Eq.{bytes_eq-Decides}
use Rattle.std.proofs.Math.Seq.{drop-cons}
use Rattle.passkey_cbor.specs.Found.{small_number}
use Rattle.passkey_cbor.specs.CursorState.{ahead}
use Rattle.passkey_cbor.specs.Heads.{Heads, within, following, one, two, four, eight}
use Rattle.passkey_cbor.specs.Languages.{Is, Then}
use Rattle.passkey_cbor.specs.Lent.{begins_text, PassesString, Region}
use Rattle.passkey_webauthn.specs.Names.{Names, row_of, value_in}
use Rattle.passkey_kinds.specs.RecordReading.{ReadsKey, FindsRow, LooksTwice}
use Rattle.passkey_kinds.proofs.Lent.{missed_spends}
use Rattle.passkey_kinds.proofs.Cursor.{further_from, stands_back}
use Rattle.passkey_kinds.specs.declared.rows.Named.{Named}
use Rattle.passkey_kinds.specs.declared.rows.Named.TheVariants as named
use Rattle.passkey_cbor.specs.Item as item

-- ---- the row at the index of its name

one_and : (k : ℕ) → 1 + k ≡ suc k
one_and k = omega arith

at_first : (s : List ℕ) (f : Entry → List ℕ) (es : List Entry)
    → slice_get es (position_or_len (λ n. bytes_eq n s) (map f es)) ≡ find (λ e. bytes_eq (f e) s) es
at_first s f [] = refl
at_first s f (e ∷ es) = grind (arith, one_and, at_first s f es)

-- the first of these names, and after them of those
at_either : (s : List ℕ) (f g : Entry → List ℕ) (es ds : List Entry)
    → slice_get (es ++ ds) (position_or_len (λ n. bytes_eq n s) (map f es ++ map g ds))
    ≡ option_or (find (λ e. bytes_eq (f e) s) es) (find (λ e. bytes_eq (g e) s) ds)
at_either s f g [] ds = at_first s g ds
at_either s f g (e ∷ es) ds = grind (arith, one_and, at_either s f g es ds)

row_within : (es : List Entry) (k len : ℕ) → len ≡ length (es ++ es)
    → row_at es (cond (nat_lt k len) (Some k) None) ≡ row_or_unknown (slice_get (es ++ es) k)
row_within es k len same = grind (arith, cases_lt, slice_get_past, nat_tests)

as_many : (es : List Entry) → length (both_names es) ≡ length (es ++ es)
as_many es = grind (arith, length-map, length-append)

pub row_of_name : (s : List ℕ) (es : List Entry)
    → row_at es (position (λ n. bytes_eq n s) (both_names es)) ≡ row_named es s
row_of_name s es = row_within es (position_or_len (λ n. bytes_eq n s) (both_names es)) (length (both_names es)) (as_many es)
    ∙ ap row_or_unknown (at_either s (λ e. e.name) (λ e. e.other) es es)

-- ---- a row at an index

found_number : (n m : ℕ) (es : List Entry) → row_or_unknown (find (λ (e : Entry). e.number == n) es) ≡ row m → n ≡ m
found_number n m [] h = absurd cc
found_number n m (e ∷ es) h = grind (arith, eqb-true, found_number n m es)

pub found_at : (n k : ℕ) (rows : List Row) (r : Row) → k < length rows → r ≡ get_or rows k r
    → (entry_of r).number ≡ n
    → row_or_unknown (find (λ (e : Entry). e.number == n) (map entry_of rows)) ≡ row n
found_at n k [] r h g e = grind (arith)
found_at n zero (x ∷ rows) r h g e = grind (arith, eqb-true)
found_at n (suc k) (x ∷ rows) r h g e = grind (arith, eqb-true, found_number, found_at n k rows r)

-- ---- the rows' names, one after the other

-- one more name after those of the rows so far
pub one_more_name : (f : Entry → List ℕ) (before : List (List ℕ)) (rows : List Row) (all : List (Bor (List ℕ)))
    (j i : ℕ) (name : Bor (List ℕ)) (d : Row)
    → i < length rows → j < length all → name.now ≡ f (entry_of (get_or rows i d))
    → map (λ (n : Bor (List ℕ)). n.now) (take j all) ≡ before ++ map f (map entry_of (take i rows))
    → map (λ (n : Bor (List ℕ)). n.now) (take (j + 1) (set all j name))
    ≡ before ++ map f (map entry_of (take (i + 1) rows))
one_more_name f before rows all j i name d less inside is so_far =
    rw (
      take_more_set all j name inside,
      map_push,
      so_far,
      is,
      add-one,
      take-suc rows i d less,
      map_push,
      map_push,
      append_assoc,
    ) refl

-- ---- what a map key names that isn't a string

pub not_wrong : (n : Named) → naming_of (Some n) ≡ wrong → ⊥
not_wrong (named.Row n) e = cc
not_wrong named.Unknown e = cc

-- a key names something only if it isn't refused
pub key_ends : (b : Bool) (es : List Entry) (x : Item) (found : Option Named) {Q : Type 0}
    → naming_of found ≡ names b es x → ((x ≡ item.null → ⊥) → Q) → IfSome found (λ n. Q)
key_ends b es x None e ends = tt
key_ends b es x (Some n) e ends = ends (λ is. not_wrong n (e ∙ ap (names b es) is))

-- what a scalar names, the item names that it is
pub names_found : (b : Bool) (es : List Entry) (i : Item) (n : Named) → named_as n ≡ names b es (scalar_in i)
    → named_as n ≡ names b es i
names_found b es (item.number z) n e = e
names_found b es _ n e = absurd (not_wrong n e)

-- a key that is no string names what its scalar names
pub names_other : (b : Bool) (es : List Entry) (i : Item) → ((s : List ℕ) → i ≡ item.text_string s → ⊥)
    → ((s : List ℕ) → i ≡ item.byte_string s → ⊥) → names b es i ≡ names b es (scalar_in i)
names_other b es (item.text_string s) t h = absurd (t s refl)
names_other b es (item.byte_string s) t h = absurd (h s refl)
names_other b es _ t h = refl

-- ---- one way to name a row after another

-- after one head that isn't a row's number
pub number_then : (es : List Entry) (key : Item) (to : ℕ) (a b d : CursorState) (found : Option Named) → LooksOnce a b
    → a.place < to → names true es (scalar_in key) ≡ wrong → FindsRow (names true es key) 2 to b d found
    → IfNone found (names true es key ≡ names true es (scalar_in key)) → IfNone found (LooksTwice b d)
    → ReadsKey (names true es key) to a d found
number_then es key to a b d (Some n) once less none r other twice =
    record { is = r.is; spends = missed_spends once less r.spends; ends = r.ends }
number_then es key to a b d None once less none r other twice = record {
  is = sym (other ∙ none);
  spends = record {
    within = omega (arith, once.place, twice.place, less);
    heads = omega (arith, once.heads, twice.heads, less);
    nodes = omega (arith, once.nodes, twice.nodes);
  };
  ends = tt;
}

-- after two heads that aren't a string's
pub stands_twice : (i : Item) {a b : CursorState} {to : ℕ} → LooksTwice a b → IsEncodedAt i a.bytes a.place to
    → IsEncodedAt i b.bytes b.place to
stands_twice i {b = b} p l = stands_back i b p.bytes p.place l

pub twice_spends : (to : ℕ) (a b d : CursorState) → LooksTwice a b → a.place < to → Spends 1 0 to b d → Spends 3 0 to a d
twice_spends to a b d twice less s = record {
  within = s.within;
  heads = omega (arith, twice.heads, twice.place, s.heads, less);
  nodes = omega (arith, twice.nodes, s.nodes);
}

pub further_some : (a b d : CursorState) (found : Option Named) → Onward a b → b.place ≡ a.place
    → IfSome found (λ n. Further b d) → IfSome found (λ n. Further a d)
further_some a b d None on at h = tt
further_some a b d (Some n) on at h = further_from a b d on at h

-- ---- a name that the bytes begin with

begins_both : (bytes n m : List ℕ) → bytes_eq n m ≡ true → begins_text m bytes ≡ true → begins_text n bytes ≡ true
begins_both bytes n m same begins =
    ap (λ (t : List ℕ). begins_text t bytes) ((bytes_eq-Decides n m).0 same) ∙ begins

-- the first of these names that the bytes begin with is the first that is this name
first_begun : {A : Type 0} (f : A → List ℕ) (bytes : List ℕ) (xs : List A) (x : A)
    → find (λ y. begins_text (f y) bytes) xs ≡ Some x → begins_text (f x) bytes ≡ true
    → find (λ y. bytes_eq (f y) (f x)) xs ≡ Some x
first_begun f bytes [] x found begins = absurd cc
first_begun f bytes (y ∷ xs) x found begins =
    grind (arith, begins_both bytes (f y) (f x), (bytes_eq-Decides (f x) (f x)).1 refl, first_begun f bytes xs x)

pub begun_row : (bytes : List ℕ) (es : List Entry) (e : Entry)
    → find (λ (d : Entry). begins_text d.name bytes) es ≡ Some e → begins_text e.name bytes ≡ true
    → row e.number ≡ row_named es e.name
begun_row bytes es e found begins = rw (first_begun (λ (d : Entry). d.name) bytes es e found begins) refl

-- the next of the rows, if no earlier one's name is what the bytes begin with
pub row_begins : (bytes : List ℕ) (rows : List Row) (i : ℕ) (d : Row) → i < length rows
    → find (λ (e : Entry). begins_text e.name bytes) (map entry_of (drop i rows))
    ≡ find (λ (e : Entry). begins_text e.name bytes) (map entry_of rows)
    → begins_text (entry_of (get_or rows i d)).name bytes ≡ true
    → row (entry_of (get_or rows i d)).number ≡ row_named (map entry_of rows) (entry_of (get_or rows i d)).name
row_begins bytes rows i d less first begins =
    let e : Entry = entry_of (get_or rows i d) in
    let next : drop i rows ≡ get_or rows i d ∷ drop (suc i) rows = rw (drop-cons rows i d) refl in
    let found : find (λ (e : Entry). begins_text e.name bytes) (e ∷ map entry_of (drop (suc i) rows)) ≡ Some e =
    rw begins refl in
    begun_row bytes (map entry_of rows) e (sym first
    ∙ ap (λ (rs : List Row). find (λ (e : Entry). begins_text e.name bytes) (map entry_of rs)) next ∙ found) begins

-- ---- a text that no name begins

take_few : {A : Type 0} (k : ℕ) (xs : List A) → length (take k xs) ≤ k
take_few zero xs = omega arith
take_few (suc k) [] = omega arith
take_few (suc k) (x ∷ xs) = omega (arith, take_few k xs)

take_same : {A : Type 0} (k : ℕ) (xs s : List A) → take k xs ≡ s → k ≡ length s → take (length s) xs ≡ s
take_same k xs s is len = rw (← len) is

-- a head of more than one byte is too long
too_long : (k : ℕ) (s rest front back : List ℕ) (b : ℕ) → 2 ≤ length front → back ≡ s
    → take (suc k) (b ∷ rest) ≡ front ++ back → suc k ≡ 1 + length s → ⊥
too_long k s rest front back b long same whole size =
    omega (arith, take_few k rest, ap length whole, long, length-append front back, ap length same, size)

begun_by : (n k : ℕ) (s rest front back : List ℕ) (b : ℕ) → Heads 3 n front → back ≡ s
    → take (suc k) (b ∷ rest) ≡ front ++ back → n ≡ length s → suc k ≡ 1 + length s → begins_text s (b ∷ rest) ≡ true
begun_by n k s rest front back b (within less is) same whole len size =
    grind (
      arith,
      take_same k rest s,
      len,
      size,
      less,
      is,
      same,
      whole,
      nat_tests,
      cases_lt,
      eqb-true,
      (bytes_eq-Decides s s).1 refl,
    )
begun_by n k s rest front back b (following one less is) same whole len size =
    absurd (too_long k s rest front back b (omega (arith, ap length is)) same whole size)
begun_by n k s rest front back b (following two less is) same whole len size =
    absurd (too_long k s rest front back b (omega (arith, ap length is)) same whole size)
begun_by n k s rest front back b (following four less is) same whole len size =
    absurd (too_long k s rest front back b (omega (arith, ap length is)) same whole size)
begun_by n k s rest front back b (following eight less is) same whole len size =
    absurd (too_long k s rest front back b (omega (arith, ap length is)) same whole size)

nothing_begun : (n : ℕ) (front back : List ℕ) → Heads 3 n front → [] ≡ front ++ back → {Q : Type 0} → Q
nothing_begun n front back (within less is) whole = absurd (grind (arith, is, whole))
nothing_begun n front back (following s less is) whole = absurd (grind (arith, is, whole))

-- a text that takes one byte more than it has begins the bytes
text_begun : (n k : ℕ) (s bytes : List ℕ) → Then (Heads 3 n) (Is s) (take k bytes) → n ≡ length s → k ≡ 1 + length s
    → begins_text s bytes ≡ true
text_begun n zero s bytes t len size = absurd (omega (arith, size))
text_begun n (suc k) s (b ∷ rest) t len size = begun_by n k s rest t.front t.back b t.first t.second t.whole len size
text_begun n (suc k) s [] t len size = nothing_begun n t.front t.back t.first t.whole

none_named : {A : Type 0} (f : A → List ℕ) (s bytes : List ℕ) (xs : List A) → begins_text s bytes ≡ true
    → find (λ x. begins_text (f x) bytes) xs ≡ None → find (λ x. bytes_eq (f x) s) xs ≡ None
none_named f s bytes [] begins h = refl
none_named f s bytes (x ∷ xs) begins h = grind (arith, begins_both bytes (f x) s, none_named f s bytes xs begins)

none_of_definite : {A : Type 0} (f : A → List ℕ) (xs : List A) (a b : CursorState) (found : Option ℕ) (s : List ℕ) (k : ℕ)
    → PassesString true a b (record { len = found; bytes = s }) → find (λ x. begins_text (f x) (ahead a)) xs ≡ None
    → b.place ≡ a.place + k → IfSome found (λ n. k ≡ 1 + length s → find (λ x. bytes_eq (f x) s) xs ≡ None)
none_of_definite f xs a b None s k p none moved = tt
none_of_definite f xs a b (Some n) s k p none moved = λ size.
    none_named f s (ahead a) xs (text_begun n p.len s (ahead a) p.headed (p.tells.0.0 ∙ ap length (sym p.tells.1))
    (omega (arith, p.place, moved, size))) none

-- a text of definite length that was passed, with its head of one byte, is none of the names that don't begin the bytes
pub none_of : {A : Type 0} (f : A → List ℕ) (xs : List A) (a b : CursorState) (r : Region) (k : ℕ) → PassesString true a b r
    → find (λ x. begins_text (f x) (ahead a)) xs ≡ None → b.place ≡ a.place + k
    → IfSome r.len (λ n. k ≡ 1 + length r.bytes → find (λ x. bytes_eq (f x) r.bytes) xs ≡ None)
none_of f xs a b r k p none moved = none_of_definite f xs a b r.len r.bytes k p none moved

-- ---- a number that the bytes begin with

pub small_named : (n : ℕ) (es : List Entry) → n < 256
    → row_or_unknown (find (λ (e : Entry). e.number == n) es) ≡ names true es (item.number (pos n))
small_named n es less = grind (arith, cases_lt, nat_tests)

pub small_less : (n : ℕ) (bytes : List ℕ) → Some n ≡ small_number bytes → n < 256
small_less n [] e = absurd cc
small_less n (b ∷ bytes) e = grind (arith, cases_lt, nat_tests)

pub number_is_no_null : (n : ℕ) → item.number (pos n) ≡ item.null → ⊥
number_is_no_null n e = cc

-- ---- a value's name that the bytes begin with

value_found : {T : Type 0} (s : List ℕ) (ns : Names T) (n : List ℕ × T) → find (λ m. bytes_eq m.0 s) ns ≡ Some n
    → value_in ns s ≡ Some n.1
value_found s [] n e = absurd cc
value_found s (m ∷ ns) n e = grind (arith, value_found s ns n)

-- no value has a name that none of the names is
pub value_of_none : {T : Type 0} (s : List ℕ) (ns : Names T) → find (λ n. bytes_eq n.0 s) ns ≡ None → value_in ns s ≡ None
value_of_none s [] e = refl
value_of_none s (n ∷ ns) e = grind (arith, value_of_none s ns)

pub value_begins : {T : Type 0} (bytes : List ℕ) (rows : List (Bor (List ℕ) × T)) (i : ℕ) (r : Bor (List ℕ) × T)
    → i < length rows → r ≡ get_or rows i r
    → find (λ (n : List ℕ × T). begins_text n.0 bytes) (map row_of (drop i rows))
    ≡ find (λ (n : List ℕ × T). begins_text n.0 bytes) (map row_of rows)
    → begins_text r.0.now bytes ≡ true → value_in (map row_of rows) r.0.now ≡ Some r.1
value_begins {T} bytes rows i r less is first begins =
    let next : drop i rows ≡ r ∷ drop (suc i) rows = rw (drop-cons rows i r, ← is) refl in
    let found : find (λ (n : List ℕ × T). begins_text n.0 bytes) (row_of r ∷ map row_of (drop (suc i) rows)) ≡ Some (row_of r) =
    rw begins refl in
    value_found r.0.now (map row_of rows) (row_of r) (first_begun (λ (n : List ℕ × T). n.0) bytes (map row_of rows) (row_of r)
    (sym first ∙ ap (λ (rs : List (Bor (List ℕ) × T)). find (λ (n : List ℕ × T). begins_text n.0 bytes) (map row_of rs)) next
    ∙ found) begins)
