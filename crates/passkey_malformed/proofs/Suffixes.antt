-- The bytes from where they stop on are the end of all bytes.
use Rattle.std.proofs.Common.{◌≡◌, ◌∙◌, ℕ, Bool, List, [], ◌++◌, ◌-◌, ◌≤◌, length, drop, Option, Some, None, refl, sym, ap, subst, append_assoc, append-nil, arith}
use Rattle.std.proofs.lemmas.List.{length-append, drop_at}
use Rattle.passkey_cbor.specs.Languages.{Language}
use Rattle.passkey_cbor.specs.LeadingItem.{max_depth, HasNoLeadingItem}
use Rattle.passkey_cbor.specs.Reading.{chunk_len}
use Rattle.passkey_malformed.specs.Stops.{Begins, NoHead, NoPiece, NoChunkAfter, NoChunk, no_head as no_chunk_head, no_content, StopsInString, Stops, at_head, at_stray, in_string, too_deep, in_list, in_tag, IsMalformed}
use Rattle.passkey_malformed.specs.declared.why.Why.{Why}
use Rattle.passkey_malformed.specs.declared.why.Why.TheVariants as reason

abbrev pub EndsIn : List ℕ → List ℕ → Type 0
EndsIn bytes rest = (front : List ℕ) × (bytes ≡ front ++ rest)

pub whole : (bytes rest : List ℕ) → rest ≡ bytes → EndsIn bytes rest
whole bytes rest e = ([], sym e)

nothing : (bytes rest : List ℕ) → rest ≡ [] → EndsIn bytes rest
nothing bytes rest e = (bytes, sym (append-nil bytes) ∙ ap (λ (r : List ℕ). bytes ++ r) (sym e))

after : {P : Language} (bytes following rest : List ℕ) → Begins P bytes following → EndsIn following rest → EndsIn bytes rest
after bytes following rest b e = (
  b.text ++ e.0,
  b.parts ∙ ap (λ (r : List ℕ). b.text ++ r) e.1 ∙ sym (append_assoc b.text e.0 rest),
)

pub no_head : (bytes : List ℕ) (why : Why) (rest : List ℕ) → NoHead bytes why rest → EndsIn bytes rest
no_head bytes reason.CutOff rest n = nothing bytes rest n.1
no_head bytes reason.ReservedArgument rest n = whole bytes rest n.1
no_head bytes reason.BadSimple rest n = whole bytes rest n.1
no_head bytes reason.StrayBreak rest n = absurd n
no_head bytes reason.BadChunk rest n = absurd n
no_head bytes reason.NotUtf8 rest n = absurd n
no_head bytes reason.TooDeep rest n = absurd n
no_head bytes reason.OddMap rest n = absurd n

pub no_piece : (is_text : Bool) (n : ℕ) (bytes : List ℕ) (why : Why) (rest : List ℕ) → NoPiece is_text n bytes why rest
    → EndsIn bytes rest
no_piece is_text n bytes reason.CutOff rest p = nothing bytes rest p.1
no_piece is_text n bytes reason.NotUtf8 rest p = whole bytes rest p.3
no_piece is_text n bytes reason.ReservedArgument rest p = absurd p
no_piece is_text n bytes reason.StrayBreak rest p = absurd p
no_piece is_text n bytes reason.BadChunk rest p = absurd p
no_piece is_text n bytes reason.TooDeep rest p = absurd p
no_piece is_text n bytes reason.OddMap rest p = absurd p
no_piece is_text n bytes reason.BadSimple rest p = absurd p

no_chunk_after : {P : Language} (is_text : Bool) (len : Option ℕ) (here following : List ℕ) (why : Why) (rest : List ℕ)
    → Begins P here following → NoChunkAfter is_text len here following why rest → EndsIn here rest
no_chunk_after is_text (Some n) here following why rest b p =
    after here following rest b (no_piece is_text n following why rest p)
no_chunk_after is_text None here following why rest b p = whole here rest p.1

no_chunk : (is_text : Bool) (here : List ℕ) (why : Why) (rest : List ℕ) → NoChunk is_text here why rest
    → EndsIn here rest
no_chunk is_text here why rest (no_chunk_head n) = no_head here why rest n
no_chunk is_text here why rest (no_content h following other b n) =
    no_chunk_after is_text (chunk_len is_text h) here following why rest b n

no_string : (is_text : Bool) (len : Option ℕ) (bytes : List ℕ) (why : Why) (rest : List ℕ)
    → StopsInString is_text len bytes why rest → EndsIn bytes rest
no_string is_text (Some n) bytes why rest s = no_piece is_text n bytes why rest s
no_string is_text None bytes why rest s =
    after bytes s.here rest s.passed (no_chunk is_text s.here why rest s.stop)

pub ends_in : {levels : ℕ} {at_break why : Why} {bytes rest : List ℕ} → Stops levels at_break bytes why rest
    → EndsIn bytes rest
ends_in {why = why} {bytes = bytes} {rest = rest} (at_head n) = no_head bytes why rest n
ends_in {bytes = bytes} (at_stray following b) = whole bytes bytes refl
ends_in {why = why} {bytes = bytes} {rest = rest} (in_string is_text len following b s) =
    after bytes following rest b (no_string is_text len following why rest s)
ends_in {bytes = bytes} {rest = rest} (too_deep h following nests b t) = whole bytes rest t.there
ends_in {bytes = bytes} {rest = rest} (in_list is_map len following here items deeper b passed wanted s) =
    after bytes following rest b (after following here rest passed (ends_in s))
ends_in {bytes = bytes} {rest = rest} (in_tag n following deeper b s) = after bytes following rest b (ends_in s)

pub ends_short : {levels : ℕ} {at_break why : Why} {bytes rest : List ℕ} → Stops levels at_break bytes why rest
    → length rest ≤ length bytes
ends_short {bytes = bytes} {rest = rest} s =
    let e = ends_in s in omega (arith, ap length e.1, length-append e.0 rest)

-- the bytes from the offset on
pub from_there : {levels : ℕ} {at_break why : Why} {bytes rest : List ℕ} → Stops levels at_break bytes why rest
    → drop (length bytes - length rest) bytes ≡ rest
from_there {bytes = bytes} {rest = rest} s =
    let e = ends_in s in
    let count : length e.0 ≡ length bytes - length rest =
    omega (arith, ap length e.1, length-append e.0 rest) in
    ap (drop (length bytes - length rest)) e.1 ∙ drop_at e.0 rest (length bytes - length rest) count

pub is_malformed : (bytes rest : List ℕ) (why : Why) → HasNoLeadingItem bytes
    → Stops max_depth reason.StrayBreak bytes why rest
    → IsMalformed bytes (record { offset = length bytes - length rest; why = why })
is_malformed bytes rest why none s = record {
  none = none;
  within = omega arith;
  stops = subst (Stops max_depth reason.StrayBreak bytes why) (sym (from_there s)) s;
}
