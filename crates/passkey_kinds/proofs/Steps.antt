-- The same, and the lemmas that proofs of the code cite. Declares nothing.
pub use Rattle.passkey_kinds.proofs.Common.{drop, elements_in, kept_parts, full, sized_bytes_from, ByteMap, BytesFault, split, item_of-Map, depth, IsEncodedAt, Lies, Left, PairWithin, Item, pairs_of, byte_string, text_string, AtMostOneLeadingItem, WrittenIsLeadingItem, max_depth, item_of, pair_of, Value, is_coherent, GivenIsCoherent, ReadIsGiven, WrittenDataAreReadBack, IfPresent, data_parts, members-pairs_of, algorithm_named, algorithm_from, collected, aaguid_from, data_from, kept_sum, bytes_from, number_from, any_from, truth_from, Kind, optional_from, text_from, name_from, with_members, map_values, ReadIsCoherent, WrittenIsCanonical, EachFits, fields_of, IsReadBack, Any, Spends, Onward, named_as, table_of, record_cost, kept_in, HasReadTo, entry_of, size_from, Entry, entries, Members, Naming, KeysAscend, number_tree, entry_tree, ◌≡◌, ◌∙◌, ◌<◌, nat_lt, ℕ, suc, arith, Bool, true, false, ◌&&◌, if◌then◌else◌, List, [], ◌++◌, length, map, Option, Some, None, option_map, refl, sym, ap, rules, ◌≤◌, Result, subst, ◌-◌, nat_le, Ok, Err, OnOk, ◌==◌, pos, ◌^◌, max, unwrap_or, zero, min, ltb-true, and_parts, and_from, nat_tests, length-map, drop_all, map_push, err_from_is_err_and, option_and_then, codes, result_ok, Bytes, PairsAreEncodedAt, ReadsText, deref_pair, item_of-Bytes, by_length, is_lt, always_returns_same, text_bytes, names, head_array, head_map}
unfoldable pub use Rattle.passkey_kinds.proofs.Common.{shortest_head}
pub use Rattle.passkey_kinds.proofs.Lists.{sized_gathered, mapped_at, head_before, kept_none, kept_elements_in, kept_members_in, after_head, numbers_are, list_in, accepted_in, map_in, filled_in, text_read, text_refused, decodes_in, stopped, gone_on, answers_from, each_same, map_values-empty, read_more, map_values-insert, map_values_same, fits_more, written_more, fits_next, written_next}
pub use Rattle.passkey_kinds.proofs.Back.{true_place, Falls, accepts_it, option_place, puts_value, puts_default, kind_back, ◌▸◌, no_more, rows_back, picked, picked_back}
pub use Rattle.passkey_kinds.proofs.LeafBack.{auth_data_back, auth_data_coherent, seen_list_back, truth_back, or_null_back, or_null_same, optional_place, byte_back, bytes_back, kept_back, anything, tolerated_place, text_back, all_of_anything, accepted_same, accepted_place, list_same, word_back, transport_back, list_back, optional_back, seen_map_back, map_back, numbers_back, size_back, aaguid_back}
pub use Rattle.passkey_kinds.proofs.Lent.{numbered, bytes_are, data_decodes, no_data, looks_all, looks_names, lent_spends, lent_decodes, not_lent_decodes, looks_some, looks_none, bytes_grow, other_number, AddsUpTo, adds_one, adds_all, adds_looks, stands_missed, or_refused, missed_then, looked_further, copied_further, counted_further, data_further, lent_less, lent_is}
pub use Rattle.passkey_kinds.proofs.Levels.{record_within, back_if_few, back_if_good, PlaceHas, EachPlace}
pub use Rattle.passkey_kinds.proofs.Common.{CountsHeads, counts_then, counts_more}
pub use Rattle.passkey_kinds.proofs.Cursor.{array_flat, map_flat, further_from, further_again, further_on, further_counted, further_twice, further_ok, skip_further, skipped_further, head_moves, eased, stands_back, onward_of, head_spends, stands_long, stands_again, spends_again, onward_then, on_ok, fails_as, ok_ends, ends_ok, named_text, no_text, failed, null_item, other_item, no_aaguid, scalar_read, scalar_moves, scalar_ends, scalar_decodes, below_scalar, truth_scalar, size_scalar, array_opened, map_opened, parts_open}
pub use Rattle.passkey_kinds.proofs.Keeping.{record_keeps}
pub use Rattle.passkey_kinds.proofs.Keys.{found_at, not_wrong, names_found, names_other, number_then, stands_twice, twice_spends, further_some, key_ends}
pub use Rattle.passkey_kinds.proofs.Lawful.{IsLawful, lawful, raised, IsLawfulAs, descriptor_law, parameters_law, user_law}
pub use Rattle.passkey_kinds.proofs.Loops.{EachTo, next_is, one_spare, spent_within, some_are, one_more_done, each_done, at_least, kept_pairs, kept_record, cost_by_le, key_spent, member_spent}
pub use Rattle.passkey_kinds.proofs.Members.{members_are, key_names, goes_on, fails, all_read, reads_from, no_record, held_answers, held_ok, sets_put}
pub use Rattle.passkey_kinds.proofs.RecordLaws.{may_grow, moves_back, message_is, fault_is, skips_unknown}
pub use Rattle.passkey_kinds.proofs.Ordered.{keys_ascend, Rule, plainly, IsPlain, null_plain, map_plain, list_plain, numbers_plain, truth_plain, text_plain}
pub use Rattle.passkey_kinds.proofs.ByteMaps.{short_first_is, sorted-map}
pub use Rattle.passkey_kinds.proofs.Sinks.{record_writable, record_written}
pub use Rattle.passkey_kinds.proofs.Around.{Around, OnlyAt, item_around, around, required_keeps, optional_keeps, tolerated_keeps, decoded_few, canonical_around, OnlyDeep, only_deep}
