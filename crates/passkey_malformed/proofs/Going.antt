-- The data items of an array or a map, one after the other.
use Rattle.std.proofs.Common.{◌≡◌, ℕ, ◌+◌, ◌≤◌, Bool, true, List, [], ◌∷◌, ◌++◌, length, Option, Some, None, refl, arith}
use Rattle.std.proofs.lemmas.Bool.Decides.{nat_tests}
use Rattle.std.proofs.lemmas.List.{length-append}
use Rattle.passkey_cbor.specs.Item.{Item}
use Rattle.passkey_cbor.specs.Languages.{Each}
use Rattle.passkey_cbor.specs.Inside.{Within}
use Rattle.passkey_malformed.specs.Stops.{Begins, ItemLeads, items_in, wants}
use Rattle.passkey_malformed.proofs.Lists.{none_yet, one_more, items_long}

-- There are no more than the list has.
abbrev pub IsAmong : Bool → Option ℕ → ℕ → Type 0
IsAmong is_map (Some m) n = n ≤ items_in is_map m
IsAmong is_map None n = Unit {0}

-- Whole data items were passed.
pub record ItemsGo (is_map : Bool) (len : Option ℕ) (levels : ℕ) (bytes : List ℕ) (passed : ℕ) (here : List ℕ) :
    Type 0 where
  pub items : List Item
  pub count : length items ≡ passed
  pub before : Begins (Each (Within levels) items) bytes here
  pub among : IsAmong is_map len passed

among_none : (is_map : Bool) (len : Option ℕ) → IsAmong is_map len 0
among_none is_map (Some m) = omega arith
among_none is_map None = tt

among_more : (is_map : Bool) (len : Option ℕ) (n : ℕ) (here : List ℕ) → wants is_map len n here ≡ true
    → IsAmong is_map len (n + 1)
among_more is_map (Some m) n here w = grind (arith, nat_tests)
among_more is_map None n here w = tt

pub items_start : (is_map : Bool) (len : Option ℕ) (levels : ℕ) (bytes : List ℕ)
    → ItemsGo is_map len levels bytes 0 bytes
items_start is_map len levels bytes = record {
  items = [];
  count = refl;
  before = none_yet (Within levels) bytes;
  among = among_none is_map len;
}

module _ {is_map : Bool} {len : Option ℕ} {levels : ℕ} {bytes : List ℕ} {passed : ℕ} {here : List ℕ}
    (go : ItemsGo is_map len levels bytes passed here) where
  pub items_go : (next : List ℕ) → wants is_map len passed here ≡ true → ItemLeads levels here next
      → ItemsGo is_map len levels bytes (passed + 1) next
  items_go next w i = record {
    items = go.items ++ i.0 ∷ [];
    count = omega (arith, go.count, length-append go.items (i.0 ∷ []));
    before = one_more (Within levels) go.items i.0 bytes here next go.before i.1;
    among = among_more is_map len passed here w;
  }

  pub items_few : passed ≤ length bytes
  items_few = omega (arith, go.count, items_long levels go.items bytes here go.before)
