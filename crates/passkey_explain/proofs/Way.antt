-- Following the steps of a path at a cursor.
use Rattle.std.proofs.Common.{◌≡◌, ◌∙◌, ℕ, ◌+◌, ◌<◌, ◌≤◌, arith, Bool, true, false, List, [], ◌∷◌, ◌++◌, length, drop, map, get_or, Option, Some, None, slice_get, refl, sym, ap, subst, zero-add}
use Rattle.passkey_cbor.proofs.items.EncodedFrom.{front_stands}
use Rattle.std.proofs.lemmas.Option.{slice_get_within, slice_get-get_or, get_or_from_slice_get}
use Rattle.passkey_kinds.proofs.Steps.{mapped_at}
use Rattle.passkey_explain.specs.declared.blame.Step.{Step as CodeStep}
use Rattle.std.specs.Option.{option_and_then}
use Rattle.passkey_cbor.specs.EncodedAt.{Lies, IsEncodedAt, Opens}
use Rattle.passkey_cbor.specs.Found.{PassesHead}
use Rattle.passkey_cbor.specs.HeadEncoding.{IsEncodingOfHead}
use Rattle.passkey_cbor.specs.Item.{Item}
use Rattle.passkey_cbor.specs.LeadingItem.{IsLeadingItem}
use Rattle.passkey_cbor.specs.CursorState.{CursorState}
use Rattle.passkey_cbor.specs.declared.head.Head.{Head}
use Rattle.passkey_explain.proofs.Parts.{opened_parts, part_there}
use Rattle.passkey_explain.specs.Along.{parts_of, part_index, ItemsLie, LeadsTo, LiesAlong, PassesItems, Entered, Enters}
use Rattle.passkey_explain.specs.Blame.{Step, part_at, item_along, step_of}

-- ---- from an array or a map to one of its parts

after_first : {X : Type 0} (after : List X) (x : X) → slice_get after 0 ≡ Some x → (rest : List X) × (after ≡ x ∷ rest)
after_first [] x e = absurd cc
after_first (y ∷ ys) x e = let same : y ≡ x = cc in (ys, ap (λ z. z ∷ ys) same)

pub ahead_at : {X : Type 0} (before after : List X) (x : X) → slice_get (before ++ after) (length before) ≡ Some x
    → (rest : List X) × (after ≡ x ∷ rest)
ahead_at [] after x e = after_first after x e
ahead_at (y ∷ ys) after x e = ahead_at ys after x e

-- the head that the cursor passed
pub headed : (h : Head) (a b : CursorState) → PassesHead a b h → a.place ≤ b.place → b.place ≤ length a.bytes
    → Lies (IsEncodingOfHead h) a.bytes a.place b.place
headed h a b p forward within = record {
  text = p.text;
  encoded = p.encoded;
  parts = subst (λ (bs : List ℕ). drop a.place a.bytes ≡ p.text ++ drop b.place bs) p.bytes p.parts;
  forward = forward;
  within = within;
}

-- the items that follow the head
pub opened : (h : Head) (i : Item) (to : ℕ) (b : CursorState) → Opens i to b (Some h)
    → (end : ℕ) × ItemsLie (parts_of i) b.bytes b.place end
opened h i to b l = opened_parts h i b.bytes b.place to l

pub entered : (s : Step) (i part : Item) (h : Head) (to end : ℕ) (a b d : CursorState) → PassesHead a b h
    → Opens i to b (Some h) → part_at s i ≡ Some part
    → PassesItems (parts_of i) (part_index s) end b d true → Entered s i part a d
entered s i part h to end a b d p o is passed =
    let q = passed.0 in
    let there : slice_get (q.before ++ q.after) (length q.before) ≡ Some part =
    rw (q.count, ← q.whole) (part_there s i part is) in
    let rest = ahead_at q.before q.after part there in
    let ahead : ItemsLie (part ∷ rest.0) b.bytes d.place end =
    subst (λ (xs : List Item). ItemsLie xs b.bytes d.place end) rest.1 q.ahead in
    let forward : a.place ≤ b.place = omega (arith, p.place) in
    let within : b.place ≤ length a.bytes = omega (arith, o.forward, o.within, ap length p.bytes) in
    record {
      leads = record {
        head = h;
        first = b.place;
        headed = headed h a b p forward within;
        before = q.before;
        after = rest.0;
        parts = q.whole ∙ ap (λ xs. q.before ++ xs) rest.1;
        count = q.count;
        passed = subst (λ (bs : List ℕ). ItemsLie q.before bs b.place d.place) p.bytes q.passed;
      };
      to = ahead.0;
      there = subst (λ (bs : List ℕ). IsEncodedAt part bs d.place ahead.0) p.bytes ahead.1.0;
      same = passed.1 ∙ p.bytes;
    }

pub enters : (s : Step) (i part : Item) (h : Head) (to end : ℕ) (a b d : CursorState) (found : Bool) → PassesHead a b h
    → Opens i to b (Some h) → part_at s i ≡ Some part → PassesItems (parts_of i) (part_index s) end b d found
    → Enters s i part a d found
enters s i part h to end a b d true p o is passed = entered s i part h to end a b d p o is passed
enters s i part h to end a b d false p o is passed = absurd passed

-- there is a part, so there are as many parts
pub enough : (s : Step) (i part : Item) → part_at s i ≡ Some part → part_index s ≤ length (parts_of i)
enough s i part is = omega (arith, slice_get_within (parts_of i) (part_index s) part (part_there s i part is))

-- ---- along a path

pub starts : (i : Item) (bytes : List ℕ) (len : ℕ) → IsLeadingItem bytes i len → IsEncodedAt i bytes 0 len
starts i bytes len f = subst (IsEncodedAt i bytes 0) (zero-add len) (front_stands i bytes 0 len f)

-- The cursor is where the steps lead that were taken, and the rest leads on from there.
pub record OnTheWay (path rest : List Step) (i part : Item) (bytes : List ℕ) (now : CursorState) : Type 0 where
  pub here : Item
  pub to : ℕ
  pub same : now.bytes ≡ bytes
  pub there : IsEncodedAt here bytes now.place to
  pub along : item_along rest here ≡ Some part
  pub lies : (from end : ℕ) → LiesAlong rest here bytes now.place from end → LiesAlong path i bytes 0 from end

pub way_begins : (path rest : List Step) (i part : Item) (len : ℕ) (bytes : List ℕ) (a : CursorState)
    → a ≡ record { bytes = bytes; place = 0; heads = 0; nodes = 0 } → rest ≡ path → IsEncodedAt i bytes 0 len
    → item_along path i ≡ Some part → OnTheWay path rest i part bytes a
way_begins path rest i part len bytes a start whole l along = record {
  here = i;
  to = len;
  same = ap (λ (w : CursorState). w.bytes) start;
  there = subst (λ (k : ℕ). IsEncodedAt i bytes k len) (sym (ap (λ (w : CursorState). w.place) start)) l;
  along = rw whole along;
  lies = λ from end h. subst (λ (ss : List Step). LiesAlong ss i bytes 0 from end) whole
      (subst (λ (k : ℕ). LiesAlong rest i bytes k from end) (ap (λ (w : CursorState). w.place) start) h);
}

-- the part that the next step leads to, if the whole path leads somewhere
some_part : (ss : List Step) (part : Item) (o : Option Item) → option_and_then (item_along ss) o ≡ Some part
    → (middle : Item) × ((o ≡ Some middle) × (item_along ss middle ≡ Some part))
some_part ss part (Some middle) e = (middle, (refl, e))
some_part ss part None e = absurd cc

module _ {path rest : List Step} {i part : Item} {bytes : List ℕ} (s : Step) (ss : List Step) (a b : CursorState)
    (w : OnTheWay path rest i part bytes a) (is : rest ≡ s ∷ ss) where
  taken : (middle : Item) → item_along ss middle ≡ Some part → (found : Bool) → Enters s w.here middle a b found
      → (found ≡ true) × OnTheWay path ss i part bytes b
  taken middle along false e = absurd e
  taken middle along true e = (
    refl,
    record {
      here = middle;
      to = e.to;
      same = e.same ∙ w.same;
      there = subst (λ (bs : List ℕ). IsEncodedAt middle bs b.place e.to) w.same e.there;
      along = along;
      lies = λ from end h. w.lies from end (subst (λ (st : List Step). LiesAlong st w.here bytes a.place from end) (sym is)
          (middle, b.place, subst (λ (bs : List ℕ). LeadsTo s w.here bs a.place b.place middle) w.same e.leads, h));
    },
  )

  pub step_taken : (found : Bool) → ((x p : Item) (to : ℕ) → IsEncodedAt x a.bytes a.place to → part_at s x ≡ Some p
      → Enters s x p a b found) → (found ≡ true) × OnTheWay path ss i part bytes b
  step_taken found enters =
      let along : option_and_then (item_along ss) (part_at s w.here) ≡ Some part =
      subst (λ (st : List Step). item_along st w.here ≡ Some part) is w.along in
      let next = some_part ss part (part_at s w.here) along in
      let here : IsEncodedAt w.here a.bytes a.place w.to =
      subst (λ (bs : List ℕ). IsEncodedAt w.here bs a.place w.to) (sym w.same) w.there in
      taken next.0 next.1.1 found (enters w.here next.0 w.to here next.1.0)

-- the cursor is where the whole path leads
pub way_ends : {path rest : List Step} {i part : Item} {bytes : List ℕ} {a : CursorState} (w : OnTheWay path rest i part bytes a)
    (offset len : ℕ) → rest ≡ [] → offset ≡ a.place → offset + len ≡ w.to
    → LiesAlong path i bytes 0 offset (offset + len)
way_ends {path} {rest} {i} {part} {bytes} {a} w offset len over start sum =
    let here : IsEncodedAt w.here bytes offset w.to =
    subst (λ (k : ℕ). IsEncodedAt w.here bytes k w.to) (sym start) w.there in
    let last : LiesAlong rest w.here bytes a.place offset w.to =
    subst (λ (ss : List Step). LiesAlong ss w.here bytes a.place offset w.to) (sym over) (start, here) in
    subst (λ (e : ℕ). LiesAlong path i bytes 0 offset e) (sym sum) (w.lies offset w.to last)

-- the next step of the path
pub step_there : (path : List CodeStep) (k : ℕ) (d : CodeStep) → k < length path
    → drop k (map step_of path) ≡ step_of (get_or path k d) ∷ drop (k + 1) (map step_of path)
step_there path k d less =
    let x = get_or path k d in
    mapped_at step_of path k x (sym (get_or_from_slice_get path k x x (slice_get-get_or path k d less))) less
