-- Skipping what follows the head of a data item.
use Rattle.std.proofs.Common.{◌≡◌, ℕ, zero, suc, ◌-◌, ◌<◌, Bool, true, false, List, Option, Some, None, refl, sym, ap, subst, ◌∙◌, arith}
use Rattle.std.specs.List.{concat}
use Rattle.passkey_cbor.specs.Item.{Item, array, map, tagged, items_of, pairs_of}
use Rattle.passkey_cbor.specs.HeadReading.{◌>>=◌, Read}
use Rattle.passkey_cbor.specs.Reading.{Reader, start, string_at, list_at, pair_by, item_by, item_within, chunk, piece_at}
use Rattle.passkey_cbor.specs.Lent.{string_item, string_head}
use Rattle.passkey_cbor.specs.CursorState.{CursorState, ahead, IsInside}
use Rattle.passkey_cbor.specs.HeadCount.{content_len}
use Rattle.passkey_cbor.specs.Steps.{PassesOver, Skips}
use Rattle.passkey_cbor.specs.declared.head.Head.{Head}
use Rattle.passkey_cbor.specs.declared.head.Head.TheVariants as head
use Rattle.passkey_cbor.proofs.heads.HeadCounts.{spans_flat}
use Rattle.passkey_cbor.proofs.skipping.Skipping.{passed_none, skips_as, skips_made}

-- the reader for this many levels, from the reader for one level deeper
within_by : (levels : ℕ) → (inner : Option (Reader Item)) × (item_within levels ≡ item_by inner)
unfolding item_within
within_by zero = (None, refl)
within_by (suc levels) = (Some (item_within levels), refl)

within_zero : item_within 0 ≡ item_by None
unfolding item_within
within_zero = refl

within_suc : (levels : ℕ) → item_within (suc levels) ≡ item_by (Some (item_within levels))
unfolding item_within
within_suc levels = refl

deeper : (levels : ℕ) → 0 < levels → item_within levels ≡ item_by (Some (item_within (levels - 1)))
deeper levels some = let one : levels ≡ suc (levels - 1) =
    omega arith in ap item_within one ∙ within_suc (levels - 1)

-- ---- what follows each head

pub by_flat : (levels : ℕ) (h g : Head) (x : Item) (bytes : List ℕ) → h ≡ g → ((inner : Option (Reader Item))
    → item_by inner g bytes ≡ Some (x, bytes)) → item_within levels h bytes ≡ Some (x, bytes)
by_flat levels h g x bytes is flat = ap (λ (k : Head). item_within levels k bytes) is
    ∙ ap (λ (r : Reader Item). r g bytes) (within_by levels).1 ∙ flat (within_by levels).0

by_string_head : (inner : Option (Reader Item)) (is_text : Bool) (len : Option ℕ) (bytes : List ℕ) → item_by inner
    (string_head is_text len) bytes ≡ (string_at is_text len bytes >>= λ s. Some (string_item is_text s.0, s.1))
unfolding item_by
by_string_head inner false len bytes = refl
by_string_head inner true len bytes = refl

pub by_string : (levels : ℕ) (is_text : Bool) (len : Option ℕ) (h : Head) (bytes : List ℕ) → h ≡ string_head is_text
    len → item_within levels h bytes ≡ (string_at is_text len bytes >>= λ s. Some (string_item is_text s.0, s.1))
by_string levels is_text len h bytes is =
    ap (λ (k : Head). item_within levels k bytes) is ∙ ap (λ (r : Reader Item). r (string_head is_text len) bytes)
    (within_by levels).1 ∙ by_string_head (within_by levels).0 is_text len bytes

pub by_array : (levels : ℕ) (len : Option ℕ) (h : Head) (bytes : List ℕ) → 0 < levels → h ≡ head.Array len
    → item_within levels h bytes
    ≡ (list_at (item_within (levels - 1)) len bytes >>= λ xs. Some (array (items_of xs.0), xs.1))
unfolding item_by
by_array levels len h bytes some is =
    ap (λ (k : Head). item_within levels k bytes) is
    ∙ ap (λ (r : Reader Item). r (head.Array len) bytes) (deeper levels some)

pub by_map : (levels : ℕ) (len : Option ℕ) (h : Head) (bytes : List ℕ) → 0 < levels → h ≡ head.Map len
    → item_within levels h bytes
    ≡ (list_at (pair_by (item_within (levels - 1))) len bytes >>= λ ps. Some (map (pairs_of ps.0), ps.1))
unfolding item_by
by_map levels len h bytes some is =
    ap (λ (k : Head). item_within levels k bytes) is
    ∙ ap (λ (r : Reader Item). r (head.Map len) bytes) (deeper levels some)

pub by_tag : (levels n : ℕ) (h : Head) (bytes : List ℕ) → 0 < levels → h ≡ head.Tag n
    → item_within levels h bytes ≡ (start (item_within (levels - 1)) bytes >>= λ x. Some (tagged n x.0, x.1))
unfolding item_by
by_tag levels n h bytes some is =
    ap (λ (k : Head). item_within levels k bytes) is
    ∙ ap (λ (r : Reader Item). r (head.Tag n) bytes) (deeper levels some)

-- data items beyond the levels that are left aren't decoded, nor is a break
pub by_nothing : (levels : ℕ) (h g : Head) (bytes : List ℕ) → levels ≡ 0 → h ≡ g → item_by None g bytes ≡ None
    → item_within levels h bytes ≡ None
by_nothing levels h g bytes none is e =
    ap (λ (k : Head). item_within levels k bytes) is ∙ ap (λ (l : ℕ). item_within l g bytes) none
    ∙ ap (λ (r : Reader Item). r g bytes) within_zero ∙ e

pub by_break : (levels : ℕ) (h : Head) (bytes : List ℕ) → h ≡ head.Break → item_within levels h bytes ≡ None
unfolding item_by
by_break levels h bytes is = ap (λ (k : Head). item_within levels k bytes) is
    ∙ ap (λ (r : Reader Item). r head.Break bytes) (within_by levels).1

-- ---- skipping it

pub flat_skipped : {A : Type 0} (content : ℕ) (read : Read A) (x : A) (a : CursorState) → IsInside a → content ≡ 0
    → read ≡ Some (x, ahead a) → PassesOver content read a a
flat_skipped content read x a inside none e =
    record { value = x; reads = e; passed = passed_none a inside; spans = spans_flat content a none }

pub made_skipped : {A B : Type 0} (content : ℕ) (read : Read A) (whole : Read B) (make : A → B) (a b : CursorState)
    (found : Bool) → whole ≡ (read >>= λ x. Some (make x.0, x.1)) → Skips content read a b found
    → Skips content whole a b found
made_skipped content read whole make a b found e s = skips_as content (read >>= λ x. Some (make x.0, x.1)) whole a b
    found e (skips_made content read make a b found s)

-- the same for a head that says how many bytes of content follow
pub headed_skipped : {A B : Type 0} (h g : Head) (read : Read A) (whole : Read B) (make : A → B) (a b : CursorState)
    (found : Bool) → h ≡ g → whole ≡ (read >>= λ x. Some (make x.0, x.1)) → Skips (content_len g) read a b found
    → Skips (content_len h) whole a b found
headed_skipped h g read whole make a b found is e s =
    subst (λ (k : Head). Skips (content_len k) whole a b found) (sym is)
    (made_skipped (content_len g) read whole make a b found e s)

-- a string whose head is decoded already
pub string_piece : (is_text : Bool) (len : Option ℕ) (n : ℕ) (bytes : List ℕ) → len ≡ Some n
    → string_at is_text len bytes ≡ piece_at is_text n bytes
unfolding string_at
string_piece is_text len n bytes is = ap (λ (l : Option ℕ). string_at is_text l bytes) is

pub string_chunks : (is_text : Bool) (len : Option ℕ) (bytes : List ℕ) → len ≡ None
    → string_at is_text len bytes ≡ (list_at (chunk is_text) None bytes >>= λ cs. Some (concat cs.0, cs.1))
unfolding string_at
string_chunks is_text len bytes is = ap (λ (l : Option ℕ). string_at is_text l bytes) is
