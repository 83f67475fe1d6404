-- Messages whose members have names alone: what holds of them.
use Rattle.passkey_kinds.proofs.Around.{Around, AtMost, OnlyAt, OnlyDeep, around, canonical_around, decoded_few, only_deep}
use Rattle.passkey_kinds.proofs.Back.{Backs, are_distinct, have_rows, kind_back, missing_of, numbers}
use Rattle.passkey_kinds.proofs.Common.{EachFits, IsReadBack, Item, KeysAscend, None, Option, PlainTable, Some, arith, depth, false, fields_of, le-leb, max, members_of, option_map, places_of, plain_kind, plain_tree, refl, suc, sym, table_of, text_string, true, ℕ, ◌&&◌, ◌+◌, ◌≡◌, ◌≤◌, List}
use Rattle.passkey_kinds.proofs.Keeping.{Keeps}
use Rattle.passkey_kinds.proofs.Lawful.{IsLawfulAs, raised}
use Rattle.passkey_kinds.proofs.Levels.{EachPlace, PlaceHas}
use Rattle.passkey_kinds.proofs.Numbered.{not_null_around}
use Rattle.passkey_kinds.proofs.Ordered.{Rule, ascend, canonical_of, keys_ascend, text_plain}
use Rattle.passkey_kinds.specs.Numbered.{AreMessages, has_room, is_shallow, kept_list}
use Rattle.std.proofs.Common.{leb-true}

-- ---- messages that keep no data item

module _ {P : Type 0} {normal : P → P} (n : ℕ) (t : PlainTable P) where
  pub plain_messages : raised n 0 ≤ 255 → IsLawfulAs normal n t → AreMessages false t (λ r. None)
  plain_messages few law = record {
    coherent = λ bytes r begins. le-leb _ 256 (levels r);
    levels = λ r. sym (le-leb _ 256 (levels r));
    canonical = λ one front r writable coherent kept. canonical_of (plain_tree t r) writable (levels r) (law.plain 0 r).order;
  } where
    levels : (r : P) → depth (plain_tree t r) ≤ 256
    levels r = omega (arith, (law.plain 0 r).levels, few)

-- ---- messages that keep one data item

-- They can be decoded again, and their keys ascend.
pub record IsNamed {P : Type 0} (normal : P → P) (t : PlainTable P) (kept : P → Option Item) : Type 0 where
  pub back : IsReadBack (plain_kind t) (plain_tree t) (EachFits t.members) normal
  pub keys : KeysAscend (places_of t.members)
  pub messages : AreMessages false t kept

module _ {P : Type 0} {normal : P → P} (t : PlainTable P) {kept : P → Option Item} where
  -- The item is the value under this name, and the encodings of the other members have at most n levels.
  pub named_law : (n : ℕ) (name : List ℕ) → n ≤ 255 → ((p : P) → ascend (places_of t.members p) ≡ true)
      → ((p : P) → (have_rows (table_of (fields_of t)) (numbers (members_of t.members)) (places_of t.members p)
      && are_distinct (numbers (members_of t.members))) ≡ true)
      → ((p : P) → missing_of (table_of (fields_of t)) (numbers (members_of t.members)) (places_of t.members p)
      ≡ None) → ((Q : Item → Type 0) → Rule n Q → (p : P) → PlaceHas Q (text_string name) (option_map (λ i. i) (kept p))
      → EachPlace Q (places_of t.members p))
      → ((Q : Item → Type 0) (p : P) → EachPlace Q (places_of t.members p)
      → PlaceHas Q (text_string name) (option_map (λ i. i) (kept p))) → ((m : ℕ) → AtMost m (kept_list kept t.blank))
      → ((m : ℕ) (i : Item) → depth i ≤ m + 1 → Keeps (depth i) (λ p. AtMost m (kept_list kept p)) (members_of t.members))
      → ((p : P) → EachFits t.members p → Backs (members_of t.members) (places_of t.members p) t.blank (normal p))
      → IsNamed normal t kept
  named_law n name few up keys complete each this blank keep backs = record {
    back = record {
      back = λ p fits. kind_back (fields_of t) (places_of t.members p) (normal p) (keys p) (complete p) (backs p fits);
    };
    keys = λ p. keys_ascend (places_of t.members p) (up p);
    messages = record {
      coherent = decoded_few (fields_of t) law (omega arith) (omega (arith, few));
      levels = λ r. room (kept r) r refl;
      canonical = λ one front. canonical_around one front law (λ r coherent. leb-true _ _ coherent);
    };
  } where
    only : OnlyAt n (places_of t.members) (text_string name) (λ p. option_map (λ i. i) (kept p))
    only = record { keyed = text_plain n name; ascends = up; each = each; this = this }

    law : Around (plain_kind t) (plain_tree t) (kept_list kept) 1 (suc (max n 0))
    law = around not_null_around (fields_of t) kept only blank keep

    deep : OnlyDeep (places_of t.members) (λ i. i) kept 255
    deep = only_deep 255 few only

    room : (o : Option Item) (r : P) → kept r ≡ o → has_room o ≡ is_shallow t r
    room None r is = deep.absent r is
    room (Some i) r is = deep.present r i is
