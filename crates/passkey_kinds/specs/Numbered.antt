-- Records that one table defines, with names or with numbers; messages of this form; and the values that their members have beside those of Coded.
use Rattle.passkey_kinds.specs.Base.{Item, null, depth, max_depth, IsLeadingItem, IsWritable, written}
use Rattle.std.specs.Prelude.{◌≡◌, ℕ, ◌<◌, ◌^◌, Bool, true, false, nat_le, List, [], ◌∷◌, length, ◌++◌, Ok, nat_eq, unwrap_or, Option, Some, None, option_map}
use Rattle.passkey_iana.specs.Table.{numbered as numbered_value}
use Rattle.passkey_cbor.specs.Laws.{AtMostOneLeadingItem, WrittenIsLeadingItem}
use Rattle.passkey_kinds.specs.Kind.{Kind, Typed, keeps_item}
use Rattle.passkey_kinds.specs.Kind as kind
use Rattle.passkey_kinds.specs.declared.wanted.Wanted.TheVariants as wanted
use Rattle.passkey_kinds.specs.Message.{ReadIsCoherent, WrittenIsCanonical, kept_if_some}
use Rattle.passkey_kinds.specs.Placed.{Coded, PlainTable, EachFits, plain_tree, fields_with}
use Rattle.passkey_kinds.specs.Record.{Fields, read_item}
use Rattle.passkey_kinds.specs.RecordReading.{nested}
use Rattle.passkey_kinds.specs.Tree.{number_tree}
use Rattle.passkey_kinds.specs.Typed.{below, fixed, growing}

-- ---- unsigned integers of at most 64 bits (RFC 8949, section 3.1)

abbrev pub long : Coded ℕ
long = record { typed = below (2 ^ 64); tree = number_tree; Fits = λ n. n < 2 ^ 64 }

-- ---- open enumerations: each number below 256 has a value

-- the named value with this number, or another value
abbrev pub code_in : {T : Type 0} → (T → ℕ) → (ℕ → T) → List T → ℕ → T
code_in byte_of other named n = unwrap_or (numbered_value nat_eq byte_of named n) (other n)

abbrev pub code_of : {T : Type 0} → (ℕ → T) → Typed T
code_of of_byte = fixed 1 (wanted.Below 256) (λ i. option_map of_byte (kind.number_from 256 i))

-- a number, by the values that have a name and the value of any other number
abbrev pub code_among : {T : Type 0} → (T → ℕ) → (ℕ → T) → List T → Typed T
code_among byte_of other named = code_of (code_in byte_of other named)

abbrev pub code : {T : Type 0} → (ℕ → T) → (T → ℕ) → Coded T
code of_byte byte_of =
    record { typed = code_of of_byte; tree = λ x. number_tree (byte_of x); Fits = λ x. byte_of x < 2 ^ 8 }

-- ---- items that are kept undecoded: any item but null, which means that an optional member is absent

abbrev pub null_in : Item → Bool
null_in null = true
null_in _ = false

abbrev pub IsNotNull : Item → Type 0
IsNotNull i = null_in i ≡ false

abbrev pub not_null : Kind Item
not_null null = None
not_null i = Some i

abbrev pub kept_item : Coded Item
kept_item = record { typed = growing 2 keeps_item wanted.NotNull not_null; tree = λ i. i; Fits = IsNotNull }

-- ---- records that one table defines, whose members have names alone, or numbers too

abbrev pub table_fields : {P : Type 0} → Bool → PlainTable P → Fields P
table_fields is_numbered t = fields_with is_numbered t.blank t.members

abbrev pub numbered_fields : {P : Type 0} → PlainTable P → Fields P
numbered_fields t = table_fields true t

-- a record with numbers as a member of another one
abbrev pub numbered : {P : Type 0} → PlainTable P → Coded P
numbered t = record { typed = nested (numbered_fields t); tree = plain_tree t; Fits = EachFits t.members }

-- the encoding has at most `max_depth` nesting levels, so it can be decoded again
abbrev pub is_shallow : {P : Type 0} → PlainTable P → P → Bool
is_shallow t r = nat_le (depth (plain_tree t r)) max_depth

-- ---- messages that one table defines, and that keep at most one data item undecoded

-- the nesting levels that a message leaves to its members: `max_depth` without its own
abbrev pub member_depth : ℕ
member_depth = 255

-- the item that is kept, if there is one, leaves room for the message's own level
abbrev pub has_room : Option Item → Bool
has_room None = true
has_room (Some i) = nat_le (depth i) member_depth

abbrev pub kept_list : {P : Type 0} → (P → Option Item) → P → List Item
kept_list kept r = kept_if_some (λ i. i ∷ []) (kept r)

-- What holds of a message's table: a decoded message is coherent; the kept item alone decides
-- whether a message is; and the encoding is canonical if that of the kept item is.
pub record AreMessages {P : Type 0} (is_numbered : Bool) (t : PlainTable P) (kept : P → Option Item) : Type 0 where
  pub coherent : ReadIsCoherent (read_item (table_fields is_numbered t)) (is_shallow t)
  pub levels : (r : P) → has_room (kept r) ≡ is_shallow t r
  pub canonical : AtMostOneLeadingItem → WrittenIsLeadingItem
      → WrittenIsCanonical (plain_tree t) (is_shallow t) (kept_list kept)

-- The encoding of a coherent message, whatever bytes follow, decodes to the message's normal form.
abbrev pub MessagesAreReadBack : {P : Type 0} → Bool → (P → P) → PlainTable P → Type 0
MessagesAreReadBack {P} is_numbered normal t = (m : P) (rest : List ℕ) → EachFits t.members m
    → IsWritable (plain_tree t m) → is_shallow t m ≡ true
    → IsLeadingItem (written (plain_tree t m) ++ rest) (plain_tree t m) (length (written (plain_tree t m)))
    × (read_item (table_fields is_numbered t) (plain_tree t m) ≡ Ok (normal m))
