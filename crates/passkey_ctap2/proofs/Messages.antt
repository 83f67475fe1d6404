-- Messages of which one member's value alone may keep data items, and what holds of decoded messages.
use Rattle.passkey_kinds.proofs.Around.{AtMost}
use Rattle.passkey_kinds.proofs.Common.{kept_if_some, members_of, places_of, plain_tree, PlainTable, read_item, record_kind}
use Rattle.passkey_kinds.proofs.Keeping.{Keeps}
use Rattle.passkey_kinds.proofs.Ordered.{ascend, number_plain}
use Rattle.passkey_kinds.proofs.Steps.{◌≡◌, ◌≤◌, ◌&&◌, ℕ, suc, arith, and_from, Around, around, AtMostOneLeadingItem, Bool, canonical_around, decoded_few, depth, EachPlace, Item, keys_ascend, KeysAscend, Kind, List, max, number_tree, only_deep, OnlyAt, OnlyDeep, Option, option_map, PlaceHas, pos, ReadIsCoherent, record_keeps, Rule, true, WrittenIsCanonical, WrittenIsLeadingItem}
use Rattle.passkey_kinds.specs.Numbered.{is_shallow, numbered_fields}
use Rattle.std.proofs.Common.{◌+◌, leb-true}

-- ---- one member's value alone may keep data items

-- The keys ascend; that value alone may have many levels; a decoded message has few again; and the encoding
-- is canonical if those of the kept items are.
pub record KeepsIn {P X : Type 0} (t : PlainTable P) (tree : X → Item) (kept_items : X → List Item) (get : P → Option X)
    : Type 0 where
  pub keys : KeysAscend (places_of t.members)
  pub levels : OnlyDeep (places_of t.members) tree get 255
  pub coherent : ReadIsCoherent (read_item (numbered_fields t)) (is_shallow t)
  pub canonical : AtMostOneLeadingItem → WrittenIsLeadingItem
      → WrittenIsCanonical (plain_tree t) (is_shallow t) (λ r. kept_if_some kept_items (get r))

module _ {P X : Type 0} {kind : Kind X} {tree : X → Item} {kept_items : X → List Item} {d least : ℕ}
    (inner : Around kind tree kept_items d least) (t : PlainTable P) (get : P → Option X) where
  -- The value is that of row k, and the encodings of the other members have at most n levels.
  pub keeps_in : (n k : ℕ) → n ≤ 255 → d ≤ 255 → least ≤ 255
      → ((r : P) → ascend (places_of t.members r) ≡ true)
      → ((Q : Item → Type 0) → Rule n Q → (r : P) → PlaceHas Q (number_tree k) (option_map tree (get r))
      → EachPlace Q (places_of t.members r))
      → ((Q : Item → Type 0) (r : P) → EachPlace Q (places_of t.members r)
      → PlaceHas Q (number_tree k) (option_map tree (get r)))
      → ((m : ℕ) → AtMost m (kept_if_some kept_items (get t.blank)))
      → ((m : ℕ) (i : Item) → depth i ≤ m + suc d
      → Keeps (depth i) (λ r. AtMost m (kept_if_some kept_items (get r))) (members_of t.members))
      → KeepsIn t tree kept_items get
  keeps_in n k few near small up each this blank keep = record {
    keys = λ r. keys_ascend (places_of t.members r) (up r);
    levels = only_deep 255 few only;
    coherent = decoded_few (numbered_fields t) law (omega (arith, near)) (omega (arith, few, small));
    canonical = λ one front. canonical_around one front law (λ r coherent. leb-true _ _ coherent);
  } where
    only : OnlyAt n (places_of t.members) (number_tree k) (λ r. option_map tree (get r))
    only = record { keyed = number_plain n (pos k); ascends = up; each = each; this = this }

    law : Around (record_kind (numbered_fields t)) (plain_tree t) (λ r. kept_if_some kept_items (get r)) (suc d)
        (suc (max n least))
    law = around inner (numbered_fields t) get only blank keep

-- ---- a decoded message passes a test, as that its authenticator data are coherent, if each row preserves it

pub read_coherent : {P : Type 0} (t : PlainTable P) (is_good : P → Bool)
    → ReadIsCoherent (read_item (numbered_fields t)) (is_shallow t) → is_good t.blank ≡ true
    → ((i : Item) → Keeps (depth i) (λ r. is_good r ≡ true) (members_of t.members))
    → ReadIsCoherent (read_item (numbered_fields t)) (λ r. is_good r && is_shallow t r)
read_coherent t is_good few blank keep bytes r begins =
    let good = record_keeps (numbered_fields t) (λ p. is_good p ≡ true) begins.item r begins.holds
    (λ some. blank) (keep begins.item) in
    and_from (is_good r) (is_shallow t r) good (few bytes r begins)
