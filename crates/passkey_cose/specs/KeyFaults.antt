-- The errors in the members of a map that is read as a key (RFC 9052, section 7).
use Rattle.std.specs.Prelude.{ℕ, ◌||◌, if◌then◌else◌, List, [], ◌∷◌, ◌++◌, Option, Some, None}
use Rattle.std.specs.List.{list_any}
use Rattle.std.specs.Option.{option_or}
use Rattle.passkey_cbor.specs.Item.{Item, number, byte_string, text_string, array, no_items, item, elements}
use Rattle.passkey_cbor.specs.Same.{item_eq}
use Rattle.passkey_iana.specs.Signed64.{is_signed_64}
use Rattle.passkey_cose.specs.KeyLabels.{Members, is_label, has_label}
use Rattle.passkey_cose.specs.declared.error.CoseError.{CoseError}
use Rattle.passkey_cose.specs.declared.error.CoseError.TheVariants.{OutOfRangeIntegerValue, DuplicateMapKey, UnexpectedItem}

-- the error of a label or of a registry's value: it must be a signed 64-bit number or a text
abbrev pub name_fault : Item → Option CoseError
name_fault (number z) = if is_signed_64 z then None else Some OutOfRangeIntegerValue
name_fault (text_string s) = None
name_fault _ = Some UnexpectedItem

-- the error of a byte string: it must not be empty
abbrev pub string_fault : List ℕ → Option CoseError
string_fault [] = Some UnexpectedItem
string_fault (b ∷ bs) = None

abbrev pub bytes_fault : Item → Option CoseError
bytes_fault (byte_string s) = string_fault s
bytes_fault _ = Some UnexpectedItem

-- the error of an operation after the earlier ones, none of which it may equal
abbrev pub op_fault : List Item → Item → Option CoseError
op_fault earlier op =
    option_or (name_fault op) (if list_any (item_eq op) earlier then Some UnexpectedItem else None)

-- the error of the first bad operation
abbrev pub first_op_fault : List Item → List Item → Option CoseError
first_op_fault earlier [] = None
first_op_fault earlier (op ∷ ops) = option_or (op_fault earlier op) (first_op_fault (earlier ++ op ∷ []) ops)

abbrev pub ops_fault : Item → Option CoseError
ops_fault (array no_items) = Some UnexpectedItem
ops_fault (array (item x xs)) = first_op_fault [] (elements (item x xs))
ops_fault _ = Some UnexpectedItem

-- the error of a member's value: a type or algorithm, a key id or Base IV, or operations; any other value is
-- allowed
abbrev pub value_fault : Item → Item → Option CoseError
value_fault label value =
    if is_label 1 label || is_label 3 label then name_fault value
    else if is_label 2 label || is_label 5 label then bytes_fault value
    else if is_label 4 label then ops_fault value
    else None

-- the error of a member after the earlier ones: first of its label, then that the label occurred before, then
-- of its value
abbrev pub member_fault : Members → Item × Item → Option CoseError
member_fault earlier m =
    option_or (name_fault m.0) (if has_label earlier m.0 then Some DuplicateMapKey else value_fault m.0 m.1)

-- the error of the first bad member
abbrev pub first_fault : Members → Members → Option CoseError
first_fault earlier [] = None
first_fault earlier (m ∷ ms) = option_or (member_fault earlier m) (first_fault (earlier ++ m ∷ []) ms)
