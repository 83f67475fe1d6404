-- The edits of each message that is repaired.
use Rattle.passkey_cbor.specs.Item.{Item, array, boolean, map, no_items, no_pairs, null, number, text_string}
use Rattle.passkey_repair.specs.messages.Edit.{Change, Edit, add, leave_out, replace}
use Rattle.passkey_repair.specs.declared.messages.deviation.Deviation.{Deviation}
use Rattle.passkey_repair.specs.declared.messages.deviation.Deviation.TheVariants.{AbsentName, EmptyArrayAsText, EmptyPrf, NullEnabled, NullName, PrfWithoutEnabled}
use Rattle.std.specs.Prelude.{List, [], codes, pos, true, ℕ, ◌++◌, ◌∷◌}

abbrev pub empty_text : Item
empty_text = text_string []

abbrev pub numbered : ℕ → Item
numbered n = number (pos n)

abbrev pub named : List ℕ → Item
named name = text_string name

-- the member with this name of the map at the path becomes an empty text: where it is absent, null, or an empty array

abbrev pub absent_text : List Item → List ℕ → Edit
absent_text path name = record { deviation = AbsentName; path = path; change = add name (codes "id") empty_text }

abbrev pub null_text : List Item → List ℕ → Edit
null_text path name = record { deviation = NullName; path = path ++ named name ∷ []; change = replace null empty_text }

abbrev pub array_text : List Item → List ℕ → Edit
array_text path name = record {
  deviation = EmptyArrayAsText;
  path = path ++ named name ∷ [];
  change = replace (array no_items) empty_text;
}

-- both names of a user are texts
abbrev pub user_texts : List Item → List Edit
user_texts path = array_text path (codes "name") ∷ array_text path (codes "displayName") ∷ []

-- ---- CTAP 2.1, sections 6.1, 6.2 and 6.8

abbrev pub make_request_edits : List Edit
make_request_edits =
    absent_text (numbered 3 ∷ []) (codes "name")
    ∷ absent_text (numbered 3 ∷ []) (codes "displayName")
    ∷ null_text (numbered 3 ∷ []) (codes "name")
    ∷ null_text (numbered 3 ∷ []) (codes "displayName")
    ∷ array_text (numbered 3 ∷ []) (codes "name")
    ∷ array_text (numbered 3 ∷ []) (codes "displayName")
    ∷ array_text (numbered 2 ∷ []) (codes "name")
    ∷ []

-- outputs of prf without results
abbrev empty_prf : List Item → Edit
empty_prf path = record { deviation = EmptyPrf; path = path; change = leave_out (codes "prf") (map no_pairs) }

abbrev prf_edit : Deviation → Change → Edit
prf_edit deviation change =
    record { deviation = deviation; path = numbered 6 ∷ named (codes "prf") ∷ []; change = change }

-- the results show that prf is enabled
abbrev pub make_response_edits : List Edit
make_response_edits = prf_edit NullEnabled (leave_out (codes "enabled") null)
    ∷ prf_edit PrfWithoutEnabled (add (codes "enabled") (codes "results") (boolean true))
    ∷ empty_prf (numbered 6 ∷ [])
    ∷ []

abbrev pub get_response_edits : List Edit
get_response_edits = array_text (numbered 4 ∷ []) (codes "name")
    ∷ array_text (numbered 4 ∷ []) (codes "displayName")
    ∷ empty_prf (numbered 8 ∷ [])
    ∷ []

abbrev pub credential_request_edits : List Edit
credential_request_edits = user_texts (numbered 2 ∷ numbered 3 ∷ [])

abbrev pub credential_response_edits : List Edit
credential_response_edits = array_text (numbered 3 ∷ []) (codes "name") ∷ user_texts (numbered 6 ∷ [])
