-- Decoding and encoding by a table.
use Rattle.std.proofs.Common.{◌≡◌, ◌∙◌, ℕ, zero, suc, ◌<◌, ◌≤◌, ◌+◌, ◌||◌, ◌==◌, not, true, false, true≢false, bytes_eq, arith, Bool, List, [], ◌∷◌, Option, Some, None, Result, Ok, Err, length, map, drop, get_or, refl, ap, sym, subst}
use Rattle.std.proofs.lemmas.Bool.{and_parts, eq-eqb, eqb-true, not-true, or_left, or_parts, or_right}
use Rattle.std.proofs.lemmas.List.{get_or-map, length-map}
use Rattle.std.proofs.lemmas.Slice.Eq.{bytes_eq-Decides}
use Rattle.std.specs.List.{list_any}
use Rattle.std.specs.Prelude.{IsTrue}
use Rattle.std.specs.Result.{result_ok}
use Rattle.passkey_json.proofs.Faults.{first_fault}
use Rattle.passkey_json.proofs.Looking.{standing}
use Rattle.passkey_json.specs.Fault.{Fault, Gives}
use Rattle.passkey_json.specs.Members.{◌>>=◌, Object, object_of, takes_in, Member, MemberTakes, in_object, member, one_of, record_kind, takes_at, under}
use Rattle.passkey_json.specs.Shape.{entry_of}
use Rattle.passkey_json.specs.Shape.{Entry}
use Rattle.passkey_json.specs.Table.{AreBack, TakeNothing, takes_of, BackFrom, IsBack, JsonMember, PlainTable, are_distinct, copied, distinct, either, either_name, entries, has_number, is_other, is_other_apart, looked, members_in, encoded, encoded_from, put_found, read_all, read_from, rows_of, shape_from, table_json, take_any, takes_either, takes_from, uses}
use Rattle.passkey_json.specs.Written.{EncodedMember, ReadsBack, are_apart, at_name, put_if, put_rows, written}
use Rattle.passkey_json.specs.declared.bytes_form.BytesForm.{BytesForm}
use Rattle.passkey_json.specs.declared.json_fault.JsonFault.{JsonFault}
use Rattle.passkey_json.specs.declared.row.Row.{Row}
use Rattle.serde_json.specs.Data.{Data, Members}

-- ---- the member of a row

one_more : (n : ℕ) → suc n ≡ n + 1
one_more n = omega arith

other_number : (n k : ℕ) (es : List Entry) → has_number n es ≡ true → has_number k es ≡ false → (b : Bool)
    → (n == k) ≡ b → b ≡ false
other_number n k es used unused false e = refl
other_number n k es used unused true e =
    let same : n ≡ k = eqb-true n k e in
    absurd (true≢false (sym used ∙ ap (λ (m : ℕ). has_number m es) same ∙ unused))

either_is : (b : Bool) (A B : Type 0) → b ≡ true → either b A B → A
either_is true A B e x = x
either_is false A B e x = absurd (true≢false (sym e))

either_not : (b : Bool) (A B : Type 0) → b ≡ false → either b A B → B
either_not true A B e x = absurd (true≢false e)
either_not false A B e x = x

-- The member at the head of those from index n on, by its number.
pub record IsRow {P : Type 0} (ms : List (JsonMember P)) (n : ℕ) (e : Entry) (m : JsonMember P) : Type 1 where
  pub next : drop n ms ≡ m ∷ drop (suc n) ms
  pub entry : get_or (entries ms) n e ≡ m.entry
  pub used : has_number m.entry.number (entries ms) ≡ true
  pub read : read_from ms m.entry.number ≡ put_found m
  pub takes : takes_from ms m.entry.number ≡ m.takes
  pub shape : shape_from ms m.entry.number ≡ Some m.shape
  pub json : encoded_from ms m.entry.number ≡ encoded m
  pub back : (form : BytesForm) (x : P) → BackFrom ms m.entry.number form x → IsBack m form x

module _ {P : Type 0} where
  rows_at : (ms : List (JsonMember P)) (n : ℕ) (e : Entry) → n < length (entries ms)
      → are_distinct (entries ms) ≡ true → (m : JsonMember P) × IsRow ms n e m
  rows_at [] n e less apart = absurd (omega (arith, less))
  rows_at (m ∷ ms) zero e less apart =
      let same : (m.entry.number == m.entry.number) ≡ true = eq-eqb m.entry.number m.entry.number refl in (
        m,
        record {
          next = refl;
          entry = refl;
          used = rw same refl;
          read = rw same refl;
          takes = rw same refl;
          shape = rw same refl;
          json = rw same refl;
          back = λ form x. either_is _ (IsBack m form x) _ same;
        },
      )
  rows_at (m ∷ ms) (suc n) e less apart =
      let parts = and_parts (not (has_number m.entry.number (entries ms))) _ apart in
      let rest = and_parts (not (uses m.entry.name (entries ms))) _ parts.1 in
      let last = and_parts (is_other_apart m.entry.name m.entry.other (entries ms)) _ rest.1 in
      let later = rows_at ms n e (omega (arith, less)) last.1 in
      let other : (later.0.entry.number == m.entry.number) ≡ false =
      other_number _ _ (entries ms) later.1.used (not-true _ parts.0) _ refl in (
        later.0,
        record {
          next = later.1.next;
          entry = later.1.entry;
          used = or_right _ _ later.1.used;
          read = rw other later.1.read;
          takes = rw other later.1.takes;
          shape = rw other later.1.shape;
          json = rw other later.1.json;
          back = λ form x b. later.1.back form x (either_not _ _ (BackFrom ms later.0.entry.number form x) other b);
        },
      )

  -- The member of the row at this index.
  pub record IsAt (rows : List Row) (ms : List (JsonMember P)) (n : ℕ) (d : Row) (m : JsonMember P) : Type 1 where
    pub next : drop n ms ≡ m ∷ drop (n + 1) ms
    pub entry : entry_of (get_or rows n d) ≡ m.entry
    pub row : IsRow ms n (entry_of d) m

  pub row_is : (rows : List Row) (t : PlainTable P) → map entry_of rows ≡ entries t.members → (n : ℕ) (d : Row)
      → n < length rows → (m : JsonMember P) × IsAt rows t.members n d m
  row_is rows t are n d less =
      let within : n < length (entries t.members) =
      subst (λ (es : List Entry). n < length es) are (omega (arith, less, length-map rows entry_of)) in
      let found = rows_at t.members n (entry_of d) within (distinct t) in (
        found.0,
        record {
          next = found.1.next ∙ ap (λ (k : ℕ). found.0 ∷ drop k t.members) (one_more n);
          entry = sym (get_or-map entry_of rows n d (entry_of d) less)
              ∙ ap (λ (es : List Entry). get_or es n (entry_of d)) are ∙ found.1.entry;
          row = found.1;
        },
      )

  no_more : (ms : List (JsonMember P)) (n : ℕ) → length (entries ms) ≤ n → drop n ms ≡ []
  no_more [] zero h = refl
  no_more [] (suc n) h = refl
  no_more (m ∷ ms) zero h = absurd (omega (arith, h))
  no_more (m ∷ ms) (suc n) h = no_more ms n (omega (arith, h))

  pub at_end : (rows : List Row) (ms : List (JsonMember P)) → map entry_of rows ≡ entries ms → (n : ℕ)
      → length rows ≤ n → drop n ms ≡ []
  at_end rows ms are n h =
      no_more ms n (subst (λ (es : List Entry). length es ≤ n) are (omega (arith, h, length-map rows entry_of)))

-- ---- a fault ends the decoding

ends : {A B : Type 0} {Takes May : Type 0} (wanted : Result A Fault) (f : A → Result B Fault) (whole : Result B Fault)
    (e : JsonFault) → (Takes → May) → whole ≡ (wanted >>= f) → Gives {A = A} Takes wanted (Err e)
    → Gives {A = B} May whole (Err e)
ends {B = B} {Takes = Takes} {May = May} wanted f whole e takes is g =
    subst (λ (r : Result B Fault). Gives {A = B} May r (Err e)) (sym is) (first_fault Takes May wanted e f g takes)

-- a member that was found takes memory only if its value under one of its names does
takes_one_of : (name : List ℕ) (takes : Data → Bool) (first second : Option Data) (m : Member)
    → one_of name first second ≡ Ok m → MemberTakes takes m → IsTrue (takes_at takes first || takes_at takes second)
takes_one_of name takes (Some d) (Some e) m is h = cc
takes_one_of name takes (Some d) None m is h =
    let same : under name (Some d) ≡ m = cc in
    or_left (takes d) false (subst (λ (w : Member). MemberTakes takes w) (sym same) h)
takes_one_of name takes None found m is h =
    let same : under name found ≡ m = cc in subst (λ (w : Member). MemberTakes takes w) (sym same) h

takes_looked : (name : List ℕ) (other : Option (List ℕ)) (takes : Data → Bool) (object : Object) (f : Member)
    → either_name name other object ≡ Ok f → MemberTakes takes f → IsTrue (takes_either takes name other object)
takes_looked name None takes object f is h =
    let same : member name object ≡ f = cc in subst (λ (w : Member). MemberTakes takes w) (sym same) h
takes_looked name (Some other) takes object f is h = takes_one_of name takes (object name) (object other) f is h

-- the member is put first, and then the others
in_turn : {A P Q : Type 0} (r : Result A Fault) (set : A → P) (then : P → Result Q Fault)
    → (r >>= λ x. then (set x)) ≡ ((r >>= λ x. Ok (set x)) >>= then)
in_turn (Ok x) set then = refl
in_turn (Err e) set then = refl

-- ---- decoding the members that are left gives what decoding all of them does

module _ {P : Type 0} where
  pub record IsLeft (ms rest : List (JsonMember P)) (object : Object) (blank read : P) : Type 0 where
    pub same : read_all ms object blank ≡ read_all rest object read
    pub takes : IsTrue (take_any rest object) → IsTrue (take_any ms object)

  module _ {rows : List Row} {ms : List (JsonMember P)} {n : ℕ} {d : Row} {m : JsonMember P} (at : IsAt rows ms n d m)
      (object : Object) (blank read : P) (h : IsLeft ms (drop n ms) object blank read) where
    first : IsLeft ms (m ∷ drop (n + 1) ms) object blank read
    first = subst (λ (l : List (JsonMember P)). IsLeft ms l object blank read) at.next h

    looked_at : (r : Result Member Fault) → looked (entry_of (get_or rows n d)) object ≡ r → looked m.entry object ≡ r
    looked_at r l = ap (λ (e : Entry). looked e object) (sym at.entry) ∙ l

    read_is : read_from ms (entry_of (get_or rows n d)).number ≡ put_found m
    read_is = ap (λ (e : Entry). read_from ms e.number) at.entry ∙ at.row.read

    takes_is : takes_from ms (entry_of (get_or rows n d)).number ≡ m.takes
    takes_is = ap (λ (e : Entry). takes_from ms e.number) at.entry ∙ at.row.takes

    pub row_goes_on : (f : Member) (next : P) → looked (entry_of (get_or rows n d)) object ≡ Ok f
        → read_from ms (entry_of (get_or rows n d)).number f read ≡ Ok next
        → IsLeft ms (drop (n + 1) ms) object blank next
    row_goes_on f next l r =
        let others = read_all (drop (n + 1) ms) object in
        let put : put_found m f read ≡ Ok next = ap (λ (g : Member → P → Result P Fault). g f read) (sym read_is) ∙ r in
        record {
          same = first.same ∙ rw (looked_at (Ok f) l) (in_turn (m.read f) (λ x. m.set x read) others
              ∙ ap (λ (s : Result P Fault). s >>= others) put);
          takes = λ t. first.takes (or_right _ _ t);
        }

    pub row_not_found : (e : JsonFault) → Gives {A = Member} ⊥ (looked (entry_of (get_or rows n d)) object) (Err e)
        → Gives {A = P} (IsTrue (take_any ms object)) (read_all ms object blank) (Err e)
    row_not_found e g = ends (looked m.entry object) _ _ e (λ x. absurd x) first.same
        (subst (λ (r : Result Member Fault). Gives {A = Member} ⊥ r (Err e)) (sym (looked_at _ refl)) g)

    pub row_not_put : (k : ℕ) → k ≡ (entry_of (get_or rows n d)).number → (f : Member) (e : JsonFault)
        → looked (entry_of (get_or rows n d)) object ≡ Ok f
        → Gives {A = P} (MemberTakes (takes_from ms k) f) (read_from ms k f read) (Err e)
        → Gives {A = P} (IsTrue (take_any ms object)) (read_all ms object blank) (Err e)
    row_not_put k is f e l g =
        let others = read_all (drop (n + 1) ms) object in
        let takes : takes_from ms k ≡ m.takes = ap (takes_from ms) is ∙ takes_is in
        let put : read_from ms k ≡ put_found m = ap (read_from ms) is ∙ read_is in
        ends (put_found m f read) others _ e (λ t. first.takes
        (or_left _ _ (takes_looked m.entry.name m.entry.other m.takes object f (looked_at (Ok f) l) t)))
        (first.same ∙ rw (looked_at (Ok f) l) (in_turn (m.read f) (λ x. m.set x read) others))
        (subst (λ (p : Member → P → Result P Fault). Gives {A = P} (MemberTakes m.takes f) (p f read) (Err e)) put
        (subst (λ (t : Data → Bool). Gives {A = P} (MemberTakes t f) (read_from ms k f read) (Err e)) takes g))

  pub all_read : (ms rest : List (JsonMember P)) (object : Object) (blank read : P) → rest ≡ []
      → IsLeft ms rest object blank read → read_all ms object blank ≡ Ok read
  all_read ms rest object blank read ended h =
      h.same ∙ ap (λ (l : List (JsonMember P)). read_all l object read) ended

-- ---- encoding the members that are left gives what encoding all of them does

module _ {P : Type 0} where
  pub record IsUnwritten (ms rest : List (JsonMember P)) (form : BytesForm) (x : P) (old so_far : Members) : Type 0
    where
      pub same : put_rows old (rows_of ms form x) ≡ put_rows so_far (rows_of rest form x)
      pub back : AreBack rest form x → AreBack ms form x

  module _ {rows : List Row} {ms : List (JsonMember P)} {n : ℕ} {d : Row} {m : JsonMember P} (at : IsAt rows ms n d m)
      (form : BytesForm) (x : P) (old so_far next : Members) (h : IsUnwritten ms (drop n ms) form x old so_far) where
    unwritten : IsUnwritten ms (m ∷ drop (n + 1) ms) form x old so_far
    unwritten = subst (λ (l : List (JsonMember P)). IsUnwritten ms l form x old so_far) at.next h

    put_is : (k : ℕ) → k ≡ (entry_of (get_or rows n d)).number
        → put_if (entry_of (get_or rows n d)).name (encoded_from ms k form x) so_far
        ≡ put_if m.entry.name (encoded m form x) so_far
    put_is k is = rw is (ap (λ (e : Entry). put_if e.name (encoded_from ms e.number form x) so_far) at.entry
        ∙ ap (λ (f : BytesForm → P → Option Data). put_if m.entry.name (f form x) so_far) at.row.json)

    pub row_encoded : next ≡ put_if (entry_of (get_or rows n d)).name
        (encoded_from ms (entry_of (get_or rows n d)).number form x) so_far
        → BackFrom ms (entry_of (get_or rows n d)).number form x
        → IsUnwritten ms (drop (n + 1) ms) form x old next
    row_encoded put back =
        let added : next ≡ put_if m.entry.name (encoded m form x) so_far = put ∙ put_is _ refl in
        let known : IsBack m form x =
        at.row.back form x (subst (λ (e : Entry). BackFrom ms e.number form x) at.entry back) in
        record {
          same = unwritten.same
              ∙ ap (λ (w : Members). put_rows w (rows_of (drop (n + 1) ms) form x)) (sym added);
          back = λ rest. unwritten.back (known, rest);
        }

  pub all_written : (ms rest : List (JsonMember P)) (form : BytesForm) (x : P) (old so_far : Members) → rest ≡ []
      → IsUnwritten ms rest form x old so_far
      → (so_far ≡ put_rows old (rows_of ms form x)) × AreBack ms form x
  all_written ms rest form x old so_far ended h =
      let none = subst (λ (l : List (JsonMember P)). IsUnwritten ms l form x old so_far) ended h in
      (sym none.same, none.back tt)

-- ---- encoded members are found again

-- only one of two names is encoded
one_of_back : (name : List ℕ) (o : Option Data) → one_of name o None ≡ Ok (under name o)
one_of_back name None = refl
one_of_back name (Some d) = refl

found_under : (name : List ℕ) (other : Option (List ℕ)) (es : List Entry) (object : Object) (found : Option Data)
    → object name ≡ found → is_other_apart name other es ≡ true → ((o : List ℕ) → is_other o other ≡ true
    → bytes_eq o name ≡ false → uses o es ≡ false → object o ≡ None)
    → either_name name other object ≡ Ok (under name found)
found_under name None es object found here apart absent = ap (λ (o : Option Data). Ok (under name o)) here
found_under name (Some other) es object found here apart absent =
    let parts = or_parts (bytes_eq other name) (uses other es) (not-true _ apart) in
    let none = absent other ((bytes_eq-Decides other other).1 refl) parts.0 parts.1 in
    rw (here, none) (one_of_back name found)

-- each member is found as it was encoded
abbrev EachFound : {P : Type 0} → List (JsonMember P) → Object → BytesForm → P → Type 0
EachFound [] object form x = Unit {0}
EachFound (m ∷ ms) object form x =
    (looked m.entry object ≡ Ok (under m.entry.name (m.json form (m.get x)))) × EachFound ms object form x

other_name : (name : List ℕ) (es : List Entry) (own : List ℕ) → uses own es ≡ false → uses name es ≡ true
    → (b : Bool) → bytes_eq name own ≡ b → b ≡ false
other_name name es own unused used false e = refl
other_name name es own unused used true e =
    let same : name ≡ own = (bytes_eq-Decides name own).0 e in
    absurd (true≢false (sym used ∙ ap (λ (o : List ℕ). uses o es) same ∙ unused))

module _ {P : Type 0} (form : BytesForm) (x : P) where
  absent : (ms : List (JsonMember P)) (name : List ℕ) → uses name (entries ms) ≡ false
      → at_name (rows_of ms form x) name ≡ None
  absent [] name e = refl
  absent (m ∷ ms) name e =
      let parts = or_parts (bytes_eq name m.entry.name) _ e in
      let later = or_parts (is_other name m.entry.other) _ parts.1 in
      rw parts.0 (absent ms name later.1)

  no_row : (ms : List (JsonMember P)) (name : List ℕ) → uses name (entries ms) ≡ false
      → list_any (λ (w : EncodedMember). bytes_eq name w.0) (rows_of ms form x) ≡ false
  no_row [] name e = refl
  no_row (m ∷ ms) name e =
      let parts = or_parts (bytes_eq name m.entry.name) _ e in
      let later = or_parts (is_other name m.entry.other) _ parts.1 in
      rw parts.0 (no_row ms name later.1)

  rows_apart : (ms : List (JsonMember P)) → are_distinct (entries ms) ≡ true → are_apart (rows_of ms form x) ≡ true
  rows_apart [] e = refl
  rows_apart (m ∷ ms) e =
      let names = and_parts (not (has_number m.entry.number (entries ms))) _ e in
      let parts = and_parts (not (uses m.entry.name (entries ms))) _ names.1 in
      let later = and_parts (is_other_apart m.entry.name m.entry.other (entries ms)) _ parts.1 in
      rw (no_row ms m.entry.name (not-true _ parts.0)) (rows_apart ms later.1)

  each_found : (ms : List (JsonMember P)) (object : Object) → are_distinct (entries ms) ≡ true
      → ((name : List ℕ) → uses name (entries ms) ≡ true → object name ≡ at_name (rows_of ms form x) name)
      → EachFound ms object form x
  each_found [] object e agree = tt
  each_found (m ∷ ms) object e agree =
      let name = m.entry.name in
      let names = and_parts (not (has_number m.entry.number (entries ms))) _ e in
      let parts = and_parts (not (uses name (entries ms))) _ names.1 in
      let later = and_parts (is_other_apart name m.entry.other (entries ms)) _ parts.1 in
      let own : bytes_eq name name ≡ true = (bytes_eq-Decides name name).1 refl in
      let here : object name ≡ m.json form (m.get x) = agree name (or_left _ _ own) ∙ rw own refl in (
        found_under name m.entry.other (entries ms) object (m.json form (m.get x)) here later.0 (λ o is apart unused.
            agree o (or_right _ _ (or_left _ _ is)) ∙ rw apart (absent ms o unused)),
        each_found ms object later.1 (λ n used.
            agree n (or_right _ _ (or_right _ _ used))
            ∙ rw (other_name n (entries ms) name (not-true _ parts.0) used (bytes_eq n name) refl) refl),
      )

-- ---- an encoded record can be decoded again

module _ {P : Type 0} where
  again : (ms : List (JsonMember P)) (object : Object) (form : BytesForm) (x r : P) → EachFound ms object form x
      → AreBack ms form x → read_all ms object r ≡ Ok (copied ms x r)
  again [] object form x r found back = refl
  again (m ∷ ms) object form x r found back =
      rw (found.0, m.back form (m.get x) back.0) (again ms object form x (m.set (m.get x) r) found.1 back.1)

  pub table_back : (t : PlainTable P) (form : BytesForm) (x : P) → AreBack t.members form x
      → ReadsBack (record_kind (members_in t)) x (table_json t form x)
  table_back t form x back =
      let rows = rows_of t.members form x in
      let found = each_found form x t.members (at_name rows) (distinct t) (λ name used. refl) in
      let read : members_in t (at_name rows) ≡ Ok x = again t.members _ form x t.blank found back ∙ ap Ok (t.sound x).0 in
      let e : in_object (members_in t) (written rows) ≡ Ok x =
      ap (members_in t) (standing rows (rows_apart form x t.members (distinct t))) ∙ read in
      record { plain = rw e refl; some = rw e refl }

-- ---- records whose decoding takes no memory

nothing_at : {A : Type 0} (takes : A → Bool) → ((x : A) → takes x ≡ false) → (o : Option A) → takes_at takes o ≡ false
nothing_at takes none None = refl
nothing_at takes none (Some x) = none x

neither_takes : (takes : Data → Bool) → ((d : Data) → takes d ≡ false) → (name : List ℕ) (other : Option (List ℕ))
    (object : Object) → takes_either takes name other object ≡ false
neither_takes takes none name None object = nothing_at takes none (object name)
neither_takes takes none name (Some other) object =
    rw (nothing_at takes none (object name), nothing_at takes none (object other)) refl

none_takes : {P : Type 0} (ms : List (JsonMember P)) → TakeNothing ms → (object : Object) → take_any ms object ≡ false
none_takes [] none object = refl
none_takes (m ∷ ms) none object =
    rw (neither_takes m.takes none.0 m.entry.name m.entry.other object, none_takes ms none.1 object) refl

pub takes_nothing : {P : Type 0} (t : PlainTable P) → TakeNothing t.members → (d : Data)
    → takes_in (takes_of t) d ≡ false
takes_nothing t none d = nothing_at (takes_of t) (none_takes t.members none) (result_ok (object_of d))
