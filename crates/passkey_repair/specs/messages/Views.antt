-- Which edits the values of the code's types represent.
use Rattle.passkey_cbor.specs.Item.{Item, array, boolean, map, no_items, no_pairs, null, number, text_string}
use Rattle.passkey_repair.specs.messages.Edit.{Change, Edit, add, leave_out, replace}
use Rattle.passkey_repair.specs.declared.messages.change.Change.{Change as ChangeCode}
use Rattle.passkey_repair.specs.declared.messages.change.Change.TheVariants as change
use Rattle.passkey_repair.specs.declared.messages.key.Key.{Key}
use Rattle.passkey_repair.specs.declared.messages.key.Key.TheVariants as key
use Rattle.passkey_repair.specs.declared.messages.lenient.Lenient.{Lenient}
use Rattle.passkey_repair.specs.declared.messages.literal.Literal.{Literal}
use Rattle.passkey_repair.specs.declared.messages.literal.Literal.TheVariants as literal
use Rattle.passkey_repair.specs.declared.messages.repairs.Repair.{Repair}
use Rattle.std.specs.Prelude.{List, [], map as each_one, pos, true}

abbrev pub literal_item : Literal → Item
literal_item literal.EmptyText = text_string []
literal_item literal.EmptyArray = array no_items
literal_item literal.EmptyMap = map no_pairs
literal_item literal.Null = null
literal_item literal.True = boolean true

abbrev pub key_item : Key → Item
key_item (key.Number n name) = number (pos n)
key_item (key.Name name) = text_string name.now

abbrev pub change_of : ChangeCode → Change
change_of (change.Replace from to) = replace (literal_item from) (literal_item to)
change_of (change.Add name beside value) = add name.now beside.now (literal_item value)
change_of (change.LeaveOut name value) = leave_out name.now (literal_item value)

abbrev pub edit_of : Repair → Edit
edit_of r = record { deviation = r.deviation; path = each_one key_item r.path.now; change = change_of r.change }

-- what contracts see of a message that was decoded leniently
abbrev pub lenient_view : {A P : Type 0} → (A → P) → Lenient A → P × List Edit
lenient_view parts l = (parts l.message, each_one edit_of l.repairs.items)
