-- Two engines with the same alphabet have the same decoding table.
use Rattle.std.proofs.Common.{◌≡◌, ℕ, ◌<◌, List, length, slice_index, sym, ◌∙◌, ap, subst, true, arith, inl, inr}
use Rattle.std.proofs.lemmas.Grind.{same_number_lists}
use Rattle.base64.specs.declared.engine.general_purpose.GeneralPurpose.{GeneralPurpose}
use Rattle.base64.specs.GeneralPurpose.{SameEngine, engine_config, engine_padding}
use Rattle.base64.specs.Tables.{is_inverse}
use Rattle.base64.proofs.Tables.{are_tables_inverse, decode-encode_table, encode-decode_table}

-- if the table d decodes a byte to an index, every other table decodes it to the same index
same_place : (symbols d e : List ℕ) (x : ℕ) → is_inverse symbols e ≡ true → slice_index d x < 64
    → slice_index symbols (slice_index d x) ≡ x → slice_index d x ≡ slice_index e x
same_place symbols d e x inverse below back =
    sym (decode-encode_table symbols e inverse (slice_index d x) below) ∙ ap (slice_index e) back

same_byte : (symbols d e : List ℕ) → is_inverse symbols d ≡ true → is_inverse symbols e ≡ true → (x : ℕ)
    → x < 256 → slice_index d x ≡ slice_index e x
same_byte symbols d e by_d by_e x below = elim (encode-decode_table symbols d by_d x below) [
  | inr found ↦ same_place symbols d e x by_e found.0 found.1
  | inl none ↦ elim (encode-decode_table symbols e by_e x below) [
    | inr found ↦ sym (same_place symbols e d x by_d found.0 found.1)
    | inl neither ↦ none ∙ sym neither
  ]
]

pub SameEngine-same_alphabet : (a b : GeneralPurpose) → a.encode_table ≡ b.encode_table
    → length a.decode_table ≡ 256 → length b.decode_table ≡ 256 → engine_padding a ≡ engine_padding b
    → engine_config a ≡ engine_config b → SameEngine a b
SameEngine-same_alphabet a b symbols a_long b_long padding config =
    let by_b : is_inverse b.encode_table b.decode_table ≡ true =
    are_tables_inverse b.encode_table b.decode_table (engine_padding b) b.tables in
    let by_a : is_inverse a.encode_table a.decode_table ≡ true =
    are_tables_inverse a.encode_table a.decode_table (engine_padding a) a.tables in
    let P : List ℕ → Type 0 = λ s. is_inverse s a.decode_table ≡ true in
    let same = same_byte b.encode_table a.decode_table b.decode_table (subst P symbols by_a) by_b in
    let tables : a.decode_table ≡ b.decode_table =
    same_number_lists a.decode_table b.decode_table (a_long ∙ sym b_long)
    (λ k below. same k (omega arith)) in
    (symbols, tables, padding, config)
