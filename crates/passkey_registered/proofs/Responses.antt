-- Responses to making and to using a credential: decoding their encodings again, their nesting levels, and their
-- canonical form.
use Rattle.passkey_kinds.proofs.Around.{AtMost}
use Rattle.passkey_kinds.proofs.Back.{Backs, are_distinct, have_rows, kind_back, missing_of, numbers}
use Rattle.passkey_kinds.proofs.Common.{AllCanonical, AtMostOneLeadingItem, EachFits, IsOrdered, IsReadBack, IsWritable, Item, KeysAscend, List, None, Option, PlainTable, ReadIsCoherent, Some, WrittenIsCanonical, WrittenIsLeadingItem, and_from, and_parts, arith, depth, le-leb, leb-true, members_of, places_of, plain_tree, read_item, record_kind, refl, same_tests, table_of, true, ℕ, ◌&&◌, ◌+◌, ◌++◌, ◌≡◌, ◌≤◌, option_map}
use Rattle.passkey_kinds.proofs.Keeping.{Keeps, record_keeps}
use Rattle.passkey_kinds.proofs.Levels.{EachPlace, PlaceHas, of_record as levels_of, record_within}
use Rattle.passkey_kinds.proofs.Numbered.{long_back, not_null_around, not_null_back}
use Rattle.passkey_kinds.proofs.Ordered.{IsPlain, Rule, ascend, canonical_of, few_levels, in_order, keys_ascend, number_plain, of_record, ordered_of, record_ordered, text_plain}
use Rattle.passkey_kinds.proofs.Steps.{anything, no_more, plainly, puts_default, puts_value, shortest_head, text_back, truth_back, ◌▸◌}
use Rattle.passkey_kinds.specs.Message.{kept_if_some}
use Rattle.passkey_kinds.specs.Numbered.{has_room, is_shallow, numbered_fields}
use Rattle.passkey_registered.proofs.EntityLaws.{descriptor_law, user_law}
use Rattle.passkey_registered.proofs.ExactValues.{exact_bytes_back, hash_back, present_keeps, present_place}
use Rattle.passkey_registered.proofs.KeptValues.{kept_data_back, map_around, map_back}
use Rattle.passkey_registered.specs.Kept.{both_kept}
use Rattle.passkey_registered.specs.get_assertion.GaResponse.{ga_response}
use Rattle.passkey_registered.specs.make_credential.AttestationObject.{attestation_object}
use Rattle.passkey_registered.specs.make_credential.McResponse.{mc_response}
use Rattle.std.specs.Prelude.{[], ◌∷◌, codes, pos}
use Rattle.passkey_kinds.specs.Tree.{number_tree}
use Rattle.passkey_kinds.specs.Words.{text_string}

-- ---- messages that keep two items

-- They can be decoded again, their keys ascend, the two items alone decide whether a message is coherent, as a decoded
-- one is, and the encoding is canonical if those of the two are.
pub record KeepsTwo {P : Type 0} (t : PlainTable P) (one two : P → Option Item) : Type 0 where
  pub back : IsReadBack (record_kind (numbered_fields t)) (plain_tree t) (EachFits t.members) (λ r. r)
  pub keys : KeysAscend (places_of t.members)
  pub levels : (r : P) → (has_room (one r) && has_room (two r)) ≡ is_shallow t r
  pub coherent : ReadIsCoherent (read_item (numbered_fields t)) (is_shallow t)
  pub canonical : AtMostOneLeadingItem → WrittenIsLeadingItem
      → WrittenIsCanonical (plain_tree t) (is_shallow t) (λ r. both_kept (one r) (two r))

abbrev Shallow : Item → Type 0
Shallow i = depth i ≤ 255

abbrev Kept : Option Item → List Item
Kept o = kept_if_some (λ i. i ∷ []) o

-- the value of a place
module _ (n : ℕ) (key : Item) (keyed : IsPlain n key) (few : n ≤ 255) where
  room_place : (o : Option Item) → has_room o ≡ true → PlaceHas Shallow key (option_map (λ i. i) o)
  room_place None h = tt
  room_place (Some i) h = (omega (arith, keyed.levels, few), leb-true _ _ h)

  place_room : (o : Option Item) → PlaceHas Shallow key (option_map (λ i. i) o) → has_room o ≡ true
  place_room None h = refl
  place_room (Some i) h = le-leb _ 255 h.1

  most_place : (o : Option Item) → AtMost 255 (Kept o) → PlaceHas Shallow key (option_map (λ i. i) o)
  most_place None h = tt
  most_place (Some i) h = (omega (arith, keyed.levels, few), h.0)

  ordered_place : AtMostOneLeadingItem → WrittenIsLeadingItem → (o : Option Item)
      → PlaceHas IsWritable key (option_map (λ i. i) o) → PlaceHas Shallow key (option_map (λ i. i) o)
      → AllCanonical (Kept o) → PlaceHas IsOrdered key (option_map (λ i. i) o)
  ordered_place one front None w d c = tt
  ordered_place one front (Some i) w d c = (keyed.order, ordered_of one front i w.1 (omega (arith, d.1)) c.0)

canonical_parts : (is js : List Item) → AllCanonical (is ++ js) → AllCanonical is × AllCanonical js
canonical_parts [] js h = (tt, h)
canonical_parts (i ∷ is) js h = let rest = canonical_parts is js h.1 in ((h.0, rest.0), rest.1)

-- The items are the values under the keys j and k, and the encodings of the other members have at most n levels.
module _ {P : Type 0} (t : PlainTable P) (one two : P → Option Item) (n : ℕ) (few : n ≤ 255) (j k : Item)
    (keyed_j : IsPlain n j) (keyed_k : IsPlain n k) where
  keeps_two : ((r : P) → ascend (places_of t.members r) ≡ true)
      → ((p : P) → (have_rows (table_of (numbered_fields t)) (numbers (members_of t.members)) (places_of t.members p)
      && are_distinct (numbers (members_of t.members))) ≡ true)
      → ((p : P) → missing_of (table_of (numbered_fields t)) (numbers (members_of t.members)) (places_of t.members p)
      ≡ None) → ((Q : Item → Type 0) → Rule n Q → (r : P) → PlaceHas Q j (option_map (λ i. i) (one r))
      → PlaceHas Q k (option_map (λ i. i) (two r)) → EachPlace Q (places_of t.members r))
      → ((Q : Item → Type 0) (r : P) → EachPlace Q (places_of t.members r)
      → PlaceHas Q j (option_map (λ i. i) (one r)) × PlaceHas Q k (option_map (λ i. i) (two r)))
      → AtMost 255 (Kept (one t.blank)) × AtMost 255 (Kept (two t.blank))
      → ((i : Item) → depth i ≤ 256
      → Keeps (depth i) (λ r. AtMost 255 (Kept (one r)) × AtMost 255 (Kept (two r))) (members_of t.members))
      → ((p : P) → EachFits t.members p → Backs (members_of t.members) (places_of t.members p) t.blank p)
      → KeepsTwo t one two
  keeps_two up have complete each these blank keep backs = record {
    back = record {
      back = λ p fits. kind_back (numbered_fields t) (places_of t.members p) p (have p) (complete p) (backs p fits);
    };
    keys = λ r. keys_ascend (places_of t.members r) (up r);
    levels = λ r. same_tests (has_room (one r) && has_room (two r)) (is_shallow t r)
        (λ h. let rooms = and_parts (has_room (one r)) (has_room (two r)) h in
        le-leb _ 256 (within r (room_place n j keyed_j few (one r) rooms.0) (room_place n k keyed_k few (two r) rooms.1)))
        (λ h. let here = these Shallow r (levels_of 255 (places_of t.members r) (leb-true _ 256 h)) in
        and_from (has_room (one r)) (has_room (two r)) (place_room n j keyed_j few (one r) here.0)
        (place_room n k keyed_k few (two r) here.1));
    coherent = λ bytes r begins.
        let kept = record_keeps (numbered_fields t) (λ p. AtMost 255 (Kept (one p)) × AtMost 255 (Kept (two p)))
        begins.item r begins.holds (λ some. blank) (keep begins.item (omega (arith, begins.front.shallow))) in
        le-leb _ 256 (within r (most_place n j keyed_j few (one r) kept.0) (most_place n k keyed_k few (two r) kept.1));
    canonical = λ first front r w coherent canonical.
        let levels : depth (plain_tree t r) ≤ 256 = leb-true _ 256 coherent in
        let here = these Shallow r (levels_of 255 (places_of t.members r) levels) in
        let writes = these IsWritable r (of_record (places_of t.members r) w) in
        let parts = canonical_parts (Kept (one r)) (Kept (two r)) canonical in
        canonical_of (plain_tree t r) w levels (record_ordered (places_of t.members r) (up r)
        (each IsOrdered (in_order n) r (ordered_place n j keyed_j few first front (one r) writes.0 here.0 parts.0)
        (ordered_place n k keyed_k few first front (two r) writes.1 here.1 parts.1)));
  } where
    within : (r : P) → PlaceHas Shallow j (option_map (λ i. i) (one r)) → PlaceHas Shallow k (option_map (λ i. i) (two r))
        → depth (plain_tree t r) ≤ 256
    within r x y = record_within 255 (places_of t.members r) (each Shallow (few_levels n 255 few) r x y)

-- ---- responses to make a credential

pub mc_response_law : KeepsTwo mc_response (λ r. r.att_stmt) (λ r. r.unsigned_extension_outputs)
unfolding shortest_head
mc_response_law = keeps_two mc_response (λ r. r.att_stmt) (λ r. r.unsigned_extension_outputs) 1 (omega arith)
    (number_tree 3) (number_tree 6) (number_plain 1 (pos 3)) (number_plain 1 (pos 6))
    (λ r. refl) (λ r. refl) (λ r. refl)
    (λ Q rule r x y. search (rule.holds, plainly) depth 14)
    (λ Q r each. search) (tt, tt)
    (λ i less.
    let few : depth i ≤ 255 + 1 = omega (arith, less) in (
      λ x v r l e h. h,
      (
        λ x v r l e h. h,
        (
          λ x v r l e h. (present_keeps map_around 255 (depth i) x v e l few, h.1),
          (
            λ x v r l e h. h,
            (
              λ x v r l e h. h,
              (
                λ x v r l e h. (h.0, present_keeps map_around 255 (depth i) x v e l few),
                tt,
              ),
            ),
          ),
        ),
      ),
    )) (λ r fits.
    puts_value text_back r.fmt tt ▸
    puts_value kept_data_back r.auth_data (search) ▸
    puts_default (present_place map_back r.att_stmt (search)) refl ▸
    puts_default (present_place truth_back r.ep_att (anything r.ep_att)) refl ▸
    puts_default (present_place hash_back r.large_blob_key (search)) refl ▸
    puts_default (present_place map_back r.unsigned_extension_outputs (search)) refl ▸
    no_more)

-- ---- responses to use a credential

pub ga_response_law : KeepsTwo ga_response (λ r. r.unsigned_extension_outputs) (λ r. r.att_stmt)
unfolding shortest_head
ga_response_law = keeps_two ga_response (λ r. r.unsigned_extension_outputs) (λ r. r.att_stmt) 3 (omega arith)
    (number_tree 8) (number_tree 10) (number_plain 3 (pos 8)) (number_plain 3 (pos 10))
    (λ r. refl) (λ r. refl) (λ r. refl)
    (λ Q rule r x y. search (rule.holds, plainly, descriptor_law.plain 1, user_law.plain 2) depth 24)
    (λ Q r each. search) (tt, tt)
    (λ i less.
    let few : depth i ≤ 255 + 1 = omega (arith, less) in (
      λ x v r l e h. h,
      (
        λ x v r l e h. h,
        (
          λ x v r l e h. h,
          (
            λ x v r l e h. h,
            (
              λ x v r l e h. h,
              (
                λ x v r l e h. h,
                (
                  λ x v r l e h. h,
                  (
                    λ x v r l e h. (present_keeps map_around 255 (depth i) x v e l few, h.1),
                    (
                      λ x v r l e h. h,
                      (
                        λ x v r l e h. (h.0, present_keeps map_around 255 (depth i) x v e l few),
                        tt,
                      ),
                    ),
                  ),
                ),
              ),
            ),
          ),
        ),
      ),
    )) (λ r fits.
    puts_default (present_place descriptor_law.back r.credential (search)) refl ▸
    puts_value kept_data_back r.auth_data (search) ▸
    puts_value exact_bytes_back r.signature tt ▸
    puts_default (present_place user_law.back r.user (search)) refl ▸
    puts_default (present_place long_back r.number_of_credentials (search)) refl ▸
    puts_default (present_place truth_back r.user_selected (anything r.user_selected)) refl ▸
    puts_default (present_place hash_back r.large_blob_key (search)) refl ▸
    puts_default (present_place map_back r.unsigned_extension_outputs (search)) refl ▸
    puts_default (present_place truth_back r.ep_att (anything r.ep_att)) refl ▸
    puts_default (present_place map_back r.att_stmt (search)) refl ▸
    no_more)

-- ---- attestation objects

pub attestation_object_law : KeepsTwo attestation_object (λ o. Some o.att_stmt) (λ o. None)
unfolding shortest_head
attestation_object_law = keeps_two attestation_object (λ o. Some o.att_stmt) (λ o. None) 1 (omega arith)
    (text_string (codes "attStmt")) (text_string []) (text_plain 1 (codes "attStmt")) (text_plain 1 [])
    (λ o. refl) (λ o. refl) (λ o. refl)
    (λ Q rule o x y. search (rule.holds, plainly) depth 14)
    (λ Q o each. (search, tt)) ((omega arith, tt), tt)
    (λ i less.
    let few : depth i ≤ 255 + 1 = omega (arith, less) in (
      λ x v o l e h. h,
      (λ x v o l e h. (not_null_around.decoded 255 x v e (omega (arith, l, few)), tt), (λ x v o l e h. h, tt)),
    )) (λ o fits.
    puts_value text_back o.fmt tt ▸
    puts_value not_null_back o.att_stmt (search) ▸
    puts_value kept_data_back o.auth_data (search) ▸
    no_more)
