-- Records and messages that one table defines: what holds of them.
use Rattle.passkey_kinds.proofs.Common.{ℕ, suc, arith, ◌≡◌, ◌<◌, ◌≤◌, ◌^◌, ◌&&◌, Bool, true, List, [], ◌∷◌, Option, Some, None, option_map, refl, depth, Item, null, number_from, optional_from, IsReadBack, EachFits, PlainTable, members_of, places_of, plain_tree, number_tree, KeysAscend, table_of, record_kind, IfPresent, Place, read_item, WrittenIsLeadingItem, subst, max, ◌+◌, pos}
use Rattle.std.proofs.Common.{leb-true, lt-ltb}
use Rattle.passkey_kinds.proofs.Around.{AtMost, Around, OnlyAt, around, decoded_few, canonical_around, OnlyDeep, only_deep}
use Rattle.passkey_kinds.proofs.Back.{have_rows, are_distinct, missing_of, Backs, numbers, kind_back, Falls, option_place}
use Rattle.passkey_kinds.proofs.Keeping.{Keeps, ok_of}
use Rattle.passkey_kinds.proofs.LeafBack.{optional_back}
use Rattle.passkey_kinds.proofs.Lawful.{raised}
use Rattle.passkey_kinds.proofs.Levels.{PlaceHas, EachPlace}
use Rattle.passkey_kinds.proofs.Ordered.{ascend, keys_ascend, IsPlain, Rule, record_plain, number_plain}
use Rattle.passkey_iana.specs.Table.{numbered as numbered_value}
use Rattle.passkey_iana.specs.TableLaws.{numbered_has}
use Rattle.std.proofs.Common.{nat_eq}
use Rattle.passkey_kinds.proofs.Common.{unwrap_or, unsigned_Decides}
use Rattle.passkey_kinds.specs.Numbered.{code_in, code_of, not_null, IsNotNull, numbered_fields, table_fields, is_shallow, has_room, kept_list, AreMessages, MessagesAreReadBack}
use Rattle.passkey_kinds.specs.Record.{Member}

-- ---- values of members can be decoded again

pub long_back : IsReadBack (number_from (2 ^ 64)) number_tree (λ n. n < 2 ^ 64) (λ n. n)
long_back = record { back = λ n h. rw (lt-ltb n (2 ^ 64) h) refl }

module _ {T : Type 0} (of_byte : ℕ → T) where
  -- a value of an open enumeration, or null
  pub some_code : (i : Item)
      → optional_from (code_of of_byte).of i ≡ option_map (option_map of_byte) (optional_from (number_from 256) i)
  some_code null = refl
  some_code i = grind arith

  module _ (byte_of : T → ℕ) where
    pub code_back : IsReadBack (code_of of_byte).of (λ x. number_tree (byte_of x)) (λ x. byte_of x < 2 ^ 8)
        (λ x. of_byte (byte_of x))
    code_back = record { back = λ x h. rw (lt-ltb (byte_of x) (2 ^ 8) h) refl }

    pub code_place : (o : Option T) → IfPresent (λ x. byte_of x < 2 ^ 8) o
        → Falls (optional_from (code_of of_byte).of) None (option_map (λ x. number_tree (byte_of x)) o)
        (option_map (λ x. of_byte (byte_of x)) o)
    code_place o h = option_place (optional_back code_back refl) o h

-- each number is that of its value
pub code_keeps : {T : Type 0} (byte_of : T → ℕ) (other : ℕ → T) (named : List T) → ((n : ℕ) → byte_of (other n) ≡ n)
    → (n : ℕ) → byte_of (code_in byte_of other named n) ≡ n
code_keeps byte_of other named own n = keeps (numbered_value nat_eq byte_of named n) refl where
  keeps : (o : Option _) → numbered_value nat_eq byte_of named n ≡ o → byte_of (unwrap_or o (other n)) ≡ n
  keeps None is = own n
  keeps (Some x) is = numbered_has nat_eq unsigned_Decides byte_of named n x is

not_null_of : (i : Item) → IsNotNull i → not_null i ≡ Some i
not_null_of null h = absurd cc
not_null_of i h = refl

pub not_null_back : IsReadBack not_null (λ i. i) IsNotNull (λ i. i)
not_null_back = record { back = not_null_of }

-- ---- messages with one data item that is kept undecoded

not_null_is : (i x : Item) → not_null i ≡ Some x → i ≡ x
not_null_is null x e = absurd cc
not_null_is i x e = cc

-- an item that is kept and isn't null
pub not_null_around : Around not_null (λ i. i) (λ i. i ∷ []) 0 0
not_null_around = record {
  levels = λ n i less h. omega (arith, h.0);
  within = λ n i h. (omega (arith, h), tt);
  order = λ i h. h.0;
  writable = λ i h. (h, tt);
  decoded = λ n i x e less. let same = not_null_is i x e in (subst (λ k. depth k ≤ n) same (omega (arith, less)), tt);
}

module _ {P : Type 0} (t : PlainTable P) (kept : P → Option Item) {n : ℕ} {key : Item} where
  pub are_messages : n ≤ 255 → OnlyAt n (places_of t.members) key (λ r. option_map (λ i. i) (kept r))
      → ((m : ℕ) → AtMost m (kept_list kept t.blank))
      → ((m : ℕ) (i : Item) → depth i ≤ m + 1
      → Keeps (depth i) (λ r. AtMost m (kept_list kept r)) (members_of t.members)) → AreMessages true t kept
  are_messages few only blank keep = record {
    coherent = decoded_few (numbered_fields t) law (omega arith) (omega (arith, few));
    levels = λ r. room (kept r) r refl;
    canonical = λ one front. canonical_around one front law (λ r coherent. leb-true _ _ coherent);
  } where
    law : Around (record_kind (numbered_fields t)) (plain_tree t) (kept_list kept) 1 (suc (max n 0))
    law = around not_null_around (numbered_fields t) kept only blank keep

    deep : OnlyDeep (places_of t.members) (λ i. i) kept 255
    deep = only_deep 255 few only

    room : (o : Option Item) (r : P) → kept r ≡ o → has_room o ≡ is_shallow t r
    room None r is = deep.absent r is
    room (Some i) r is = deep.present r i is

-- ---- messages that keep no data item

keeps_none : {P : Type 0} (n : ℕ) (ms : List (Member P)) → Keeps n (λ r. Unit {0}) ms
keeps_none n [] = tt
keeps_none n (m ∷ ms) = (λ i v r less e h. tt, keeps_none n ms)

place_holds : {n : ℕ} {Q : Item → Type 0} → Rule n Q → (key : Item) (o : Option Item) → PlaceHas (IsPlain n) key o
    → PlaceHas Q key o
place_holds rule key None h = tt
place_holds rule key (Some x) h = (rule.holds key h.0, rule.holds x h.1)

each_holds : {n : ℕ} {Q : Item → Type 0} → Rule n Q → (ps : List Place) → EachPlace (IsPlain n) ps → EachPlace Q ps
each_holds rule [] h = tt
each_holds rule (p ∷ ps) h = (place_holds rule p.0 p.1 h.0, each_holds rule ps h.1)

pub plain_messages : {P : Type 0} (n : ℕ) (t : PlainTable P) → n ≤ 255
    → ((r : P) → ascend (places_of t.members r) ≡ true) → ((r : P) → EachPlace (IsPlain n) (places_of t.members r))
    → AreMessages true t (λ r. None)
plain_messages n t few up each = are_messages t (λ r. None) {n = n} {key = number_tree 0} few (record {
  keyed = number_plain n (pos 0);
  ascends = up;
  each = λ Q rule r none. each_holds rule (places_of t.members r) (each r);
  this = λ Q r all. tt;
}) (λ m. tt) (λ m i less. keeps_none (depth i) (members_of t.members))

-- ---- records with numbers that keep no data item: they can be decoded again, have few levels, and
-- their keys ascend

pub record IsNumberedAs {P : Type 0} (normal : P → P) (n : ℕ) (t : PlainTable P) : Type 0 where
  pub back : IsReadBack (record_kind (numbered_fields t)) (plain_tree t) (EachFits t.members) normal
  pub plain : (k : ℕ) (r : P) → IsPlain (suc (raised n k)) (plain_tree t r)
  pub keys : KeysAscend (places_of t.members)
  pub messages : raised n 0 ≤ 255 → AreMessages true t (λ r. None)

-- a record that is its own normal form
abbrev pub IsNumbered : {P : Type 0} → ℕ → PlainTable P → Type 0
IsNumbered n t = IsNumberedAs (λ r. r) n t

module _ {P : Type 0} {normal : P → P} (n : ℕ) (t : PlainTable P) where
  pub numbered_law : ((r : P) → ascend (places_of t.members r) ≡ true)
      → ((r : P) → (have_rows (table_of (numbered_fields t)) (numbers (members_of t.members)) (places_of t.members r)
      && are_distinct (numbers (members_of t.members))) ≡ true)
      → ((r : P) → missing_of (table_of (numbered_fields t)) (numbers (members_of t.members)) (places_of t.members r)
      ≡ None) → ((k : ℕ) (r : P) → EachPlace (IsPlain (raised n k)) (places_of t.members r))
      → ((r : P) → EachFits t.members r → Backs (members_of t.members) (places_of t.members r) t.blank (normal r))
      → IsNumberedAs normal n t
  numbered_law up keys complete each backs = record {
    back =
        record {
          back = λ r fits. kind_back (numbered_fields t) (places_of t.members r) (normal r) (keys r) (complete
              r) (backs r fits);
        };
    plain = λ k r. record_plain (raised n k) (places_of t.members r) (up r) (each k r);
    keys = λ r. keys_ascend (places_of t.members r) (up r);
    messages = λ few. plain_messages (raised n 0) t few up (each 0);
  }

-- ---- records with numbers that keep one data item

-- It can be decoded again, its keys ascend, and it is a message.
pub record IsKeeping {P : Type 0} (normal : P → P) (t : PlainTable P) (kept : P → Option Item) : Type 0 where
  pub back : IsReadBack (record_kind (numbered_fields t)) (plain_tree t) (EachFits t.members) normal
  pub keys : KeysAscend (places_of t.members)
  pub messages : AreMessages true t kept

-- The item is the value of row k, and the encodings of the other members have at most n levels.
pub keeping_law : {P : Type 0} {normal : P → P} (t : PlainTable P) {kept : P → Option Item} (n k : ℕ) → n ≤ 255
    → ((p : P) → ascend (places_of t.members p) ≡ true)
    → ((p : P) → (have_rows (table_of (numbered_fields t)) (numbers (members_of t.members)) (places_of t.members p)
    && are_distinct (numbers (members_of t.members))) ≡ true)
    → ((p : P) → missing_of (table_of (numbered_fields t)) (numbers (members_of t.members)) (places_of t.members p)
    ≡ None) → ((Q : Item → Type 0) → Rule n Q → (p : P) → PlaceHas Q (number_tree k) (option_map (λ i. i) (kept p))
    → EachPlace Q (places_of t.members p))
    → ((Q : Item → Type 0) (p : P) → EachPlace Q (places_of t.members p)
    → PlaceHas Q (number_tree k) (option_map (λ i. i) (kept p))) → ((m : ℕ) → AtMost m (kept_list kept t.blank))
    → ((m : ℕ) (i : Item) → depth i ≤ m + 1 → Keeps (depth i) (λ p. AtMost m (kept_list kept p)) (members_of t.members))
    → ((p : P) → EachFits t.members p → Backs (members_of t.members) (places_of t.members p) t.blank (normal p))
    → IsKeeping normal t kept
keeping_law {normal = normal} t {kept} n k few up keys complete each this blank keep backs = record {
  back =
      record {
        back = λ p fits. kind_back (numbered_fields t) (places_of t.members p) (normal p) (keys p) (complete
            p) (backs p fits);
      };
  keys = λ p. keys_ascend (places_of t.members p) (up p);
  messages = are_messages t kept few
      (record { keyed = number_plain n (pos k); ascends = up; each = each; this = this }) blank keep;
}

-- ---- messages can be decoded again

pub messages_back : {P : Type 0} (b : Bool) (normal : P → P) (t : PlainTable P) → WrittenIsLeadingItem
    → IsReadBack (record_kind (table_fields b t)) (plain_tree t) (EachFits t.members) normal
    → MessagesAreReadBack b normal t
messages_back b normal t law back m rest fits writable coherent = (
  law (plain_tree t m) rest writable (leb-true _ _ coherent),
  ok_of (read_item (table_fields b t) (plain_tree t m)) (normal m) (back.back m fits),
)
