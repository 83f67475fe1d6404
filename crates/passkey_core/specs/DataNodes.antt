-- The data items that are decoded in authenticator data: the key, and the extensions.
use Rattle.std.specs.Prelude.{ℕ, ◌+◌, ◌-◌, List, length, take, Bool, true, false, Option, Some, None, Ok, Err}
use Rattle.passkey_cbor.specs.LeadingItemAt.{leading_item_at}
use Rattle.passkey_cbor.specs.Item.{Item}
use Rattle.passkey_cbor.specs.Nodes.{nodes}
use Rattle.passkey_cbor.specs.HeadCount.{heads_of}
use Rattle.passkey_core.specs.DataFlags.{attested_flag, extensions_flag, has_flag}
use Rattle.passkey_core.specs.DataRead.{attested_at, where_at}
use Rattle.passkey_core.specs.DataReading.{Begun, fixed_at, ids_at}

-- the number of data items in the leading data item, itself included; 0 if there is none
abbrev pub given_nodes : Option (Item × List ℕ) → ℕ
given_nodes (Some r) = nodes r.0
given_nodes None = 0

abbrev pub front_nodes : List ℕ → ℕ
front_nodes bytes = given_nodes (leading_item_at bytes)

-- the number of heads of the leading data item; where there is none, one head is decoded all the same
abbrev pub given_heads : List ℕ → Option (Item × List ℕ) → ℕ
given_heads bytes (Some r) = heads_of (take (length bytes - length r.1) bytes)
given_heads bytes None = 1

abbrev pub front_heads : List ℕ → ℕ
front_heads bytes = given_heads bytes (leading_item_at bytes)

-- what follows a part is counted only if the part has no error
abbrev pub count_after : {X : Type 0} → Begun X → (X × List ℕ → ℕ) → ℕ
count_after (Ok p) next = next p
count_after (Err e) next = 0

-- a part is counted only if its flag is set
abbrev pub count_where : Bool → (List ℕ → ℕ) → List ℕ → ℕ
count_where true part bytes = part bytes
count_where false part bytes = 0

-- what `each` counts at the key
unfoldable pub count_key : (List ℕ → ℕ) → List ℕ → ℕ
count_key each bytes = count_after (ids_at bytes) (λ ids. each ids.1)

-- what `each` counts at the key and at the extensions, as far as decoding gets
unfoldable pub count_data : (List ℕ → ℕ) → List ℕ → ℕ
count_data each bytes =
    count_after (fixed_at bytes) (λ fixed.
    count_where (has_flag attested_flag fixed.0.flags) (count_key each) fixed.1
    + count_after (where_at (has_flag attested_flag fixed.0.flags) attested_at fixed.1) (λ attested.
    count_where (has_flag extensions_flag fixed.0.flags) each attested.1))

-- one for each place where a data item is decoded
abbrev pub one : List ℕ → ℕ
one bytes = 1

-- the number of data items in the key and in the extensions
abbrev pub data_nodes : List ℕ → ℕ
data_nodes bytes = count_data front_nodes bytes

-- the number of heads of the key and of the extensions
abbrev pub data_heads : List ℕ → ℕ
data_heads bytes = count_data front_heads bytes

-- the number of places where a data item is decoded: 0, 1 or 2
abbrev pub data_places : List ℕ → ℕ
data_places bytes = count_data one bytes
