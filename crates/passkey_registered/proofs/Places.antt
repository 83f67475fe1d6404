-- Members in their places.
use Rattle.passkey_cbor.specs.Written.{float_head, items_written, pairs_written, shortest_head, written}
use Rattle.passkey_cbor.specs.Encoding.{items_len, pairs_len}
use Rattle.passkey_cbor.specs.Item as item
use Rattle.passkey_registered.specs.extensions.Others.{AreOthers, OthersArePassedOver, place_in, placed, with_all}
use Rattle.passkey_kinds.proofs.Common.{Fields, Item, Members, ap, arith, members-pairs_of, named, read_members, refl, table_of, ◌∙◌}
use Rattle.passkey_kinds.proofs.RecordLaws.{unknown_is_skipped}
use Rattle.passkey_kinds.specs.Record.{unknown}
use Rattle.std.proofs.Common.{Bool, List, [], drop, false, if◌then◌else◌, length, map, take, true, ℕ, ◌++◌, ◌<◌, ◌≡◌, ◌≤◌, ◌∷◌, pos, suc, nat_lt, ◌+◌}
use Rattle.std.specs.Prelude.{negsuc}
use Rattle.std.proofs.lemmas.List.{drop-map, take-append-drop, take-map}
use Rattle.std.specs.Ordering.{is_lt}
use Rattle.passkey_cbor.specs.Order.{ctap2_order}

-- ---- no encoding is empty

long_either : (b : Bool) (xs ys : List ℕ) → 0 < length xs → 0 < length ys → 0 < length (if b then xs else ys)
long_either true xs ys h g = h
long_either false xs ys h g = g

long_front : (xs ys : List ℕ) → 0 < length xs → 0 < length (xs ++ ys)
long_front [] ys h = absurd (omega (arith, h))
long_front (x ∷ xs) ys h = omega arith

long_cons : (x : ℕ) (xs : List ℕ) → 0 < length (x ∷ xs)
long_cons x xs = omega arith

head_long : (major n : ℕ) → 0 < length (shortest_head major n)
unfolding shortest_head
head_long major n = search (long_either, long_cons) depth 9

float_long : (f : _) → 0 < length (float_head f)
unfolding float_head
float_long f = search (long_either, long_cons) depth 9

pub written_long : (x : Item) → 0 < length (written x)
written_long (item.number (pos n)) = head_long 0 n
written_long (item.number (negsuc n)) = head_long 1 n
written_long (item.byte_string s) = long_front _ s (head_long 2 (length s))
written_long (item.text_string s) = long_front _ s (head_long 3 (length s))
written_long (item.array xs) = long_front _ (items_written xs) (head_long 4 (items_len xs))
written_long (item.map ps) = long_front _ (pairs_written ps) (head_long 5 (pairs_len ps))
written_long (item.tagged t x) = long_front _ (written x) (head_long 6 t)
written_long (item.boolean b) = omega arith
written_long item.null = omega arith
written_long (item.simple n) = long_either (nat_lt n 20) ((224 + n) ∷ []) (248 ∷ n ∷ [])
    (long_cons (224 + n) []) (long_cons 248 (n ∷ []))
written_long (item.float f) = float_long f

-- ---- where a member is placed

pub either_within : (b : Bool) (n k : ℕ) → n ≤ k → (if b then 0 else suc n) ≤ suc k
either_within true n k h = omega arith
either_within false n k h = omega (arith, h)

pub place_within : {X : Type 0} (f : X → Item × Item) (key : List ℕ) (xs : List X) → place_in key (map f xs) ≤ length xs
place_within f key [] = omega arith
place_within f key (x ∷ xs) =
    either_within (is_lt (ctap2_order key (written (f x).0))) (place_in key (map f xs)) (length xs) (place_within f key xs)

mapped_both : {X Y : Type 0} (f : X → Y) (xs ys : List X) → map f (xs ++ ys) ≡ map f xs ++ map f ys
mapped_both f [] ys = refl
mapped_both f (x ∷ xs) ys = ap (λ zs. f x ∷ zs) (mapped_both f xs ys)

pub inserted : {X Y : Type 0} (f : X → Y) (xs : List X) (n : ℕ) (x : X)
    → map f (take n xs ++ x ∷ drop n xs) ≡ take n (map f xs) ++ f x ∷ drop n (map f xs)
inserted f xs n x = mapped_both f (take n xs) (x ∷ drop n xs) ∙ rw (take-map f n xs, drop-map f n xs) refl

-- ---- others change nothing that is decoded

module _ {P : Type 0} (t : Fields P) where
  placed_skipped : (m : Item × Item) (ms : Members) → named (table_of t) m.0 ≡ unknown
      → read_members t (placed m ms) ≡ read_members t ms
  placed_skipped m ms naming =
      let n = place_in (written m.0) ms in
      unknown_is_skipped t (take n ms) (drop n ms) m.0 m.1 naming ∙ ap (read_members t) (take-append-drop n ms)

  all_skipped : (os ms : Members) → AreOthers (table_of t) os → read_members t (with_all os ms) ≡ read_members t ms
  all_skipped [] ms h = refl
  all_skipped (o ∷ os) ms h = all_skipped os (placed o ms) h.1 ∙ placed_skipped o ms h.0

  pub others_skipped : OthersArePassedOver t
  others_skipped os (item.map ps) h =
      ap (read_members t) (members-pairs_of (with_all os (item.members ps))) ∙ all_skipped os (item.members ps) h
  others_skipped os _ h = refl
