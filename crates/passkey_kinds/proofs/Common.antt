-- The names that most proofs cite, passed on from one place. Declares nothing.
pub use Rattle.passkey_bytes.proofs.Placed.{same_bytes, entries_empty}
pub use Rattle.passkey_bytes.specs.Bytes.{bytes_or_fault, ReadsText}
pub use Rattle.passkey_bytes.specs.Encoding.{text_bytes}
pub use Rattle.passkey_bytes.specs.Map.{ByteMap, put_each}
pub use Rattle.passkey_bytes.specs.SameMaps.{same_tests}
pub use Rattle.passkey_bytes.specs.declared.bytes.BytesFault.{BytesFault}
pub use Rattle.passkey_cbor.proofs.items.Binds.{some_is}
pub use Rattle.passkey_cbor.proofs.items.EncodedFrom.{lies_size, only_one, front_long, front_stands}
pub use Rattle.passkey_cbor.proofs.heads.Raised.{raised-le}
pub use Rattle.passkey_cbor.proofs.heads.HeadAgain.{head_again}
pub use Rattle.passkey_cbor.proofs.items.Items.{members-pairs_of, elements-items_of, follows_item, low_simple, pairs_len-pairs_of}
pub use Rattle.passkey_cbor.proofs.items.Lists.{head_long, encoded_long, each_long}
pub use Rattle.passkey_cbor.proofs.items.More.{split}
pub use Rattle.passkey_cbor.proofs.strings.Pieces.{lends_start, lends_on, lends_all}
pub use Rattle.passkey_cbor.proofs.strings.Strings.{AChunk, follows_chunk, string_again}
pub use Rattle.passkey_cbor.proofs.building.Views.{item_of-Array, item_of-Map, item_of-Bytes}
pub use Rattle.passkey_cbor.proofs.items.Writing.{WritesItems, writes_items-begin, writes_items-more_at}
pub use Rattle.passkey_cbor.specs.Canonical.{ComesAfter, AscendFrom, Ascend, IsOrdered, AreOrdered, ArePairsOrdered, IsCanonical}
pub use Rattle.passkey_cbor.specs.Depth.{depth, pairs_depth, items_depth}
pub use Rattle.passkey_cbor.specs.EncodedAt.{IsEncodedAt, Lies, Next, Looks, Opens, Walks, PairsAreEncodedAt}
pub use Rattle.passkey_cbor.specs.Encoding.{Definite, pairs_len}
pub use Rattle.passkey_cbor.specs.Found.{FindsHead}
pub use Rattle.passkey_cbor.specs.Grows.{Grows}
pub use Rattle.passkey_cbor.specs.HeadEncoding.{IsEncodingOfHead}
pub use Rattle.passkey_cbor.proofs.items.Items.{pairs_of-members}
pub use Rattle.passkey_cbor.specs.Inside.{Content, Left, PairWithin, Within, Inside}
pub use Rattle.passkey_cbor.specs.Item.{Item, Pairs, no_pairs, pair, members, items_of, pairs_of, byte_string, array, boolean, null, text_string, elements, number}
pub use Rattle.passkey_cbor.specs.Languages.{Each, Language}
pub use Rattle.passkey_cbor.specs.Laws.{AtMostOneLeadingItem, WrittenIsLeadingItem}
pub use Rattle.passkey_cbor.specs.LeadingItem.{max_depth, IsLeadingItem}
pub use Rattle.passkey_cbor.specs.Lent.{Region, HoldsString, PassesString, IsRegion, heads_in, LendsFrom, LooksAtAll, LooksAtSome, LentWhole, string_head, string_item}
pub use Rattle.passkey_cbor.specs.Names.{LooksFor, heads_until, heads_sought}
pub use Rattle.passkey_cbor.specs.Order.{key_type, IsBefore, ctap2_order}
pub use Rattle.passkey_cbor.specs.Pieces.{LendsPiece, LendsNoPiece, LooksAhead, LendsUpTo}
pub use Rattle.passkey_cbor.specs.Reading.{item_within, chunk}
pub use Rattle.passkey_cbor.specs.Skipped.{PassesLeadingItem, SkipsLeadingItem}
pub use Rattle.passkey_cbor.specs.View.{item_of, pair_of}
pub use Rattle.passkey_cbor.specs.HeadCount.{CountsHeads, content_len, heads_of}
pub use Rattle.passkey_cbor.proofs.heads.WholeHeads.{counts_then, counts_stay, counts_skip, counts_string, counts_head, counts_more}
pub use Rattle.passkey_cbor.specs.CursorState.{CursorState, LooksOnce, ahead, MovesForward, raised, break_heads}
pub use Rattle.passkey_cbor.specs.Writable.{IsWritable, ArePairsWritable}
unfoldable pub use Rattle.passkey_cbor.specs.Written.{shortest_head}
pub use Rattle.passkey_cbor.specs.Written.{written, pairs_written}
pub use Rattle.passkey_cbor.specs.declared.head.Head.{Head}
pub use Rattle.passkey_cbor.specs.declared.value.Value.TheVariants.{Bytes}
pub use Rattle.passkey_cbor.specs.declared.value.Value.{Value}
pub use Rattle.passkey_core.specs.Coherent.{is_coherent}
pub use Rattle.passkey_core.specs.DataLaws.{GivenIsCoherent, ReadIsGiven, WrittenDataAreReadBack}
pub use Rattle.passkey_core.specs.DataNormal.{IfPresent, IsData, normal_data}
pub use Rattle.passkey_core.specs.DataParts.{DataParts}
pub use Rattle.passkey_core.specs.DataRead.{read_data}
pub use Rattle.passkey_core.specs.DataReading.{DataGrows}
pub use Rattle.passkey_core.specs.DataViews.{data_parts}
pub use Rattle.passkey_core.specs.declared.authenticator_data.AuthenticatorData.{AuthenticatorData}
pub use Rattle.passkey_cose.specs.declared.error.CoseError.{CoseError}
pub use Rattle.passkey_iana.specs.Iana.{algorithm_named}
pub use Rattle.passkey_iana.specs.declared.algorithm.Algorithm.{Algorithm}
pub use Rattle.passkey_kinds.specs.Coded.{make_credential_signed, get_assertion_signed, descriptor, parameters, webauthn_user}
pub use Rattle.passkey_kinds.specs.Kind.{algorithm_from, algorithm_tree, aaguid_from, data_from, authenticator_data_nodes, auth_data_tree, CountsData, Keeping, nothing, counted, kept_of, kept_sum, in_members, in_elements, AnswersAs, bytes_from, MayGrow, number_from, any_from, truth_from, Kind, optional_from, each, sized_bytes_from, list_from, accepted_from, text_from, name_from, tolerated_from, FailsAs, or_else_from, Answers, Typed, with_members, byte_map_from, entry, map_values, size_from, IsSize}
pub use Rattle.passkey_kinds.specs.Message.{ReadsMessage, Begins, GrowsMessage, ReadsHere, AlikeDifferInLength, ReadIsCoherent, AllCanonical, kept_if_some, WrittenIsCanonical, WrittenIsReadBack, SameButForLength, AnswersCarryOver, KnowsItems, known, HasNoWrongKey, AnswersAlike, SameAnswers, PassesOverUnknown, KnowsMaps}
pub use Rattle.passkey_kinds.specs.Placed.{EachFits, fields_of, places_of, PlainTable, members_of, plain_kind, plain_tree, IsReadBack, Any, IsByte, AreBytes}
pub use Rattle.passkey_kinds.specs.Reader.{signed_in, collected, entered, pushed, pushed_if, pushed_below, full, scalar_in, ReadsScalar, head_scalar, head_array, head_map, elements_in, members_in, numbers_in, OpensAt, kept_parts, pushed, pushed_if, pushed_below, Further, Decodes, LooksAtMost, Spends, SpendsLess, Onward}
pub use Rattle.passkey_kinds.specs.Record.{naming_of, MayGrowIn, Reads, MayGrowAt, named_as, MayGrowBy, takes_at, Fields, set_with, rows_of, table_of, put_at, unless_missing, one_more, Progress, progress_of, result_and_then, read_from, read_members, read_item, Member, record_kind, Entry, Table, entries, named, Members, first_missing, Naming, row, unknown, wrong, accepts_at, row_or_unknown, names, ◌>>=◌, row_named}
pub use Rattle.passkey_kinds.specs.RecordReading.{record_cost, cost_by, kept_in, kept_in_map, greatest_cost, cost_at, keeps_at, keeps_by, keeps_nothing, none_keeps, record_keeps, HasReadTo, Sets, Puts, as_nested, DecodesRecord, both_names, entry_of, row_at}
pub use Rattle.passkey_kinds.specs.Tree.{by_length, short_first, AllAccepted, MemberAccepted, append_member, encode_member, put_all, Place, record_tree, KeysAscend, number_tree, numbers_tree, entry_tree, under, laid, list_tree, byte_map_tree, where_true, option_tree, credential_type_tree, transport_tree}
pub use Rattle.passkey_kinds.specs.declared.fault.Fault.TheVariants.{Repeated}
pub use Rattle.passkey_kinds.specs.declared.fault.Fault.{Fault}
pub use Rattle.passkey_kinds.specs.declared.fault.Refusal.TheVariants.{Refused, OutOfMemory}
pub use Rattle.passkey_kinds.specs.declared.fault.Refusal.{Refusal}
pub use Rattle.passkey_kinds.specs.declared.rows.Row.{Row}
pub use Rattle.passkey_webauthn.specs.CredentialType.{credential_type_named}
pub use Rattle.passkey_webauthn.specs.NameLaws.{credential_type_own, transport_own}
pub use Rattle.passkey_webauthn.specs.NumberState.{IsOf}
pub use Rattle.passkey_webauthn.specs.NumberText.{whole_64}
pub use Rattle.passkey_webauthn.specs.Transport.{transport_named}
pub use Rattle.passkey_webauthn.specs.declared.credential_type.PublicKeyCredentialType.TheVariants.{Unknown}
pub use Rattle.passkey_webauthn.specs.declared.number_state.NumberState.{NumberState}
pub use Rattle.std.proofs.Common.{◌≡◌, ◌∙◌, ◌<◌, ◌+◌, nat_lt, ℕ, suc, add-one, arith, Bool, true, false, not, ◌&&◌, if◌then◌else◌, List, [], ◌∷◌, ◌++◌, length, map, replicate, drop, get_or, Option, Some, None, is_some, option_map, slice_get, inl, inr, refl, sym, ap, rules, ◌≤◌, Result, ◌*◌, subst, ◌-◌, take, nat_le, Ok, Err, OnOk, append_assoc, ◌==◌, cond, set, ◌⊎◌, Bor, pos, ℤ, ◌≢◌, ◌^◌, max, ◌||◌, unwrap_or, zero, eq-eqb, min, ltb-true, le-leb, T, IfSome, is_ok, IfOk, IfErr}
pub use Rattle.std.proofs.Math.Nat.{mul-le-mul_left}
pub use Rattle.std.proofs.Math.Seq.{drop-cons, take-suc}
pub use Rattle.std.proofs.lemmas.Bool.Decides.{nat_tests}
pub use Rattle.std.proofs.lemmas.Bool.{and_parts, leb-true, true≢false, cases_lt, cases_eq, le-ltb, ne_eqb, lt-ltb, eqb-true, not-true, and_from, eqb-false}
pub use Rattle.std.proofs.lemmas.Cmp.{nat_list_cmp_total}
pub use Rattle.std.proofs.lemmas.Fn.{always_returns_same}
pub use Rattle.std.proofs.lemmas.List.Elements.{All-head, All-tail, All-from_recursion, recursion_from_All, filter_map-append}
pub use Rattle.std.proofs.lemmas.List.{length-map, length-append, length-take, append-nil, drop_all, take_more_set, map_push, get_or-set_same, get_or-set_other, get_or-map, get_or-replicate, get_or_past, length-replicate}
pub use Rattle.std.proofs.lemmas.Option.{slice_get-get_or, slice_get_past}
pub use Rattle.std.proofs.lemmas.Result.{err_from_is_err_and}
pub use Rattle.std.specs.Cmp.Lexicographic.{slice_cmp, bytes_decides, texts_ties}
pub use Rattle.std.specs.Cmp.{unsigned_Decides, nat_cmp_is}
pub use Rattle.std.specs.FinMap.Entries.{below_all, is_sorted}
pub use Rattle.std.specs.List.{find, AllByRecursion, list_any, filter_map, cons_option, All, position, position_or_len, concat}
pub use Rattle.std.specs.Map.Iter.{deref_pair}
pub use Rattle.std.specs.Option.{option_or, option_and_then, ok_or}
pub use Rattle.std.specs.Ordering.{nat_cmp, is_lt, eq_by_cmp, is_eq}
pub use Rattle.std.specs.Prelude.{codes}
pub use Rattle.std.specs.Result.{result_ok}
pub use Rattle.std.specs.Str.{bytes_eq}
pub use Rattle.std.specs.declared.cmp.Ordering.TheVariants.{Less, Equal}
pub use Rattle.std.specs.declared.cmp.Ordering.{Ordering}
