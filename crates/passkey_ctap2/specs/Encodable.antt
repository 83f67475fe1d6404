-- A response, with its greatest message size as the data item that it is encoded as.
use Rattle.std.specs.Prelude.{List, ◌++◌, option_map}
use Rattle.passkey_kinds.specs.Words.{item_of, IfPresent, places_of, Place}
use Rattle.passkey_ctap2.specs.GetInfo.{GetInfoParts, get_info_parts, GetInfoFits, IsPositive, first_members_with, middle_members, last_members}
use Rattle.passkey_ctap2.specs.declared.get_info.response.Encodable.{Encodable}

abbrev pub encodable_parts : Encodable → GetInfoParts
encodable_parts e = get_info_parts e.response.now

abbrev pub encodable_first_members : Encodable → List Place
encodable_first_members e =
    places_of (first_members_with (λ r. option_map item_of e.max_msg_size)) (encodable_parts e)

abbrev pub encodable_places : Encodable → List Place
encodable_places e = encodable_first_members e ++ places_of (middle_members ++ last_members) (encodable_parts e)

-- the size fits if it could be encoded
abbrev pub EncodableFits : Encodable → Type 0
EncodableFits e = IfPresent IsPositive (encodable_parts e).max_msg_size → GetInfoFits (encodable_parts e)
