-- Members of a map, put in CTAP2's order of keys (CTAP 2.1, section 8).
use Rattle.std.specs.Prelude.{◌≡◌, ℕ, zero, suc, Bool, true, false, List, length, get_or, Option, Some, None, option_map}
use Rattle.std.specs.List.{insert}
use Rattle.std.specs.declared.cmp.Ordering.{Ordering}
use Rattle.std.specs.declared.cmp.Ordering.TheVariants.{Less, Equal, Greater}
use Rattle.passkey_cbor.specs.Item.{Item, null}
use Rattle.passkey_cbor.specs.Order.{ctap2_order}
use Rattle.passkey_cbor.specs.Written.{written}

abbrev pub Member : Type 0
Member = Item × Item

abbrev pub no_member : Member
no_member = (null, null)

-- the place after a key that comes before; nowhere beside an equal key; and else one that is nearer to the beginning
abbrev pub by_order : Ordering → ℕ → Option ℕ → Option ℕ
by_order Less n nearer = Some (suc n)
by_order Equal n nearer = None
by_order Greater n nearer = nearer

-- where among the first `n` members the key belongs, sought from the last one on
abbrev pub place_below : List Member → List ℕ → ℕ → Option ℕ
place_below ms key zero = Some 0
place_below ms key (suc n) = by_order (ctap2_order (written (get_or ms n no_member).0) key) n (place_below ms key n)

-- the members with another one, which has none of their keys
abbrev pub with_member : List Member → Member → Option (List Member)
with_member ms m = option_map (λ n. insert ms n m) (place_below ms (written m.0) (length ms))

-- The member was added, or one of them has its key.
abbrev pub Adds : List Member → Member → List Member → Bool → Type 0
Adds ms m all true = with_member ms m ≡ Some all
Adds ms m all false = with_member ms m ≡ None
