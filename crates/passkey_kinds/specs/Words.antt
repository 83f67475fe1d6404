-- The same, and the names of this crate that contracts and tables cite. Declares nothing.
pub use Rattle.passkey_kinds.specs.Base.{text_bytes, ByteMap, depth, PairsAreEncodedAt, IsEncodedAt, encoding, CountsHeads, LooksOnce, Grows, Item, number, boolean, byte_string, text_string, null, max_depth, IsRegion, HoldsString, pair_of, item_of, IsWritable, written, is_coherent, data_nodes, IfPresent, IsData, normal_data, DataParts, bare_data, data_parts, algorithm_number, algorithm_named, credential_type_named, whole_64, transport_named, PublicKeyCredentialDescriptor, PublicKeyCredentialParameters, AuthenticatorTransport, PublicKeyCredentialUserEntity}
pub use Rattle.passkey_kinds.specs.Kind.{algorithm_tree, auth_data_tree, CountsKept, CountsLeast, Keeping, nothing, kept_sum, least_sum, Kind, Typed, each, AnswersAs, Answers, MayGrow, CountsData, CountsDataItems, UnlessOutOfMemory, data_tree, aaguid_tree, map_values, with_members}
pub use Rattle.passkey_kinds.specs.Message.{ReadsMessage, ReadsHere, GrowsMessage, ReadIsCoherent, WrittenIsReadBack, WrittenIsCanonical, kept_if_some, KnowsMaps, PassesOverUnknown, AlikeDifferInLength, KnowsItems, RefusedElementIsPassedOver, SameAnswersReadAlike, UnknownMemberIsPassedOver}
pub use Rattle.passkey_kinds.specs.Placed.{PlainTable, EachFits, fields_of, plain_tree, places_of, required_as, default_as, optional_as, optional_as_or, tolerated_as, required_at, default_at, optional_at, optional_at_or, tolerated_at, placed, Placed, fields_with, Any, AreBytes, IsReadBack, Coded, placed_if, plain_kind}
pub use Rattle.passkey_kinds.specs.Reader.{scalar_in, Spends, Decodes, Onward, Costs, Further, LooksAtMost, ReadsAs, scalar_of, signed_in, filling, full, numbers_in, pushing, OpensAt, Gathering, in_array, Way, AddsOne, Collects, collected, head_array, head_map, ReadsScalar, elements_in, members_in, pushing_if, entering, costs_nothing, onward_same, costs_at_most}
pub use Rattle.passkey_kinds.specs.Record.{HasNoName, wrong, MayGrowAt, MayGrowIn, Reads, naming_of, named_as, Fields, default, record_kind, read_item, table_of, read_members, Members, named, row_or_unknown, names, row_named, entries, ◌>>=◌, MayGrowBy, one_more, progress_of, read_from, number_names}
pub use Rattle.passkey_kinds.specs.RecordReading.{BeginsNoName, both_names, shape_at, FindsRow, LooksTwice, nested, record_cost, cost_at, keeps_at, Puts, entry_of, ReadsKey, row_at, cost_by, keeps_by, DecodesMember, DecodesMembers, DecodesRecord, as_nested, Sets}
pub use Rattle.passkey_kinds.specs.Tree.{AllAccepted, put_all, option_tree, numbers_tree, byte_map_tree, Place, number_tree, always, record_tree, list_tree, map_tree, KeysAscend, transport_tree, short_first, entry_tree, MemberAccepted, count_of, encode_member, put_one, credential_type_tree, append_member, where_true}
pub use Rattle.passkey_kinds.specs.Typed.{optional, one_named, accepted, tolerated, or_else, below, text_as, list, size, map_from_bytes}
pub use Rattle.passkey_kinds.specs.Coded.{truth, text, bytes, sized_bytes, aaguid, algorithm, authenticator_data, descriptor, parameters, webauthn_user, plain, byte, item, word, transport, make_credential_signed, get_assertion_signed}
pub use Rattle.passkey_kinds.specs.Written.{members_of}
pub use Rattle.passkey_kinds.specs.Shape.{Shape}
