-- The bytes from where a rule is broken on are the end of all bytes.
use Rattle.std.proofs.Common.{◌≡◌, ◌∙◌, ℕ, List, ◌++◌, ◌-◌, ◌≤◌, length, drop, Option, sym, ap, subst, append_assoc, arith}
use Rattle.std.proofs.lemmas.List.{length-append, drop_at}
use Rattle.passkey_cbor.specs.CanonicalReading.{BeginsItem, BeginsShortest, head_written}
use Rattle.passkey_cbor.specs.Written.{written}
use Rattle.passkey_cbor.specs.declared.head.Head.{Head}
use Rattle.passkey_malformed.specs.Breaks.{Breaks, BreaksInItems, BreaksInPairs, BreaksOff, IsNotCanonical, NoShortestHead, after_item, after_pair, at_head, at_item, barred, in_array, in_item, in_key, in_map, in_string, in_value, longer, misplaced, none, trailing}
use Rattle.passkey_malformed.specs.declared.rule.Rule.{Rule}
use Rattle.passkey_malformed.proofs.Exclusive.{not_whole}
use Rattle.passkey_malformed.proofs.Suffixes.{EndsIn, no_head, no_piece, whole}

after_shortest : (h : Head) (bytes following rest : List ℕ) → BeginsShortest h bytes following → EndsIn following rest
    → EndsIn bytes rest
after_shortest h bytes following rest b e = (
  head_written h ++ e.0,
  b.parts ∙ ap (λ (r : List ℕ). head_written h ++ r) e.1 ∙ sym (append_assoc (head_written h) e.0 rest),
)

after_one : (levels : ℕ) (bytes next rest : List ℕ) → BeginsItem levels bytes next → EndsIn next rest
    → EndsIn bytes rest
after_one levels bytes next rest b e = (
  written b.item ++ e.0,
  b.parts ∙ ap (λ (r : List ℕ). written b.item ++ r) e.1 ∙ sym (append_assoc (written b.item) e.0 rest),
)

no_shortest : (bytes : List ℕ) (r : Rule) (rest : List ℕ) → NoShortestHead bytes r rest → EndsIn bytes rest
no_shortest bytes r rest (none why is absent n) = no_head bytes why rest n
no_shortest bytes r rest (longer h following b other is there) = whole bytes rest there

mutual
  pub item_ends : {levels : ℕ} {bytes : List ℕ} {r : Rule} {rest : List ℕ} → Breaks levels bytes r rest → EndsIn bytes rest
  item_ends {bytes = bytes} {r = r} {rest = rest} (at_head n) = no_shortest bytes r rest n
  item_ends {bytes = bytes} {rest = rest} (barred h following b rule there) = whole bytes rest there
  item_ends {bytes = bytes} {rest = rest} (in_string is_text n following b c) =
      after_shortest _ bytes following rest b (no_piece is_text n following c.why rest c.none)
  item_ends {bytes = bytes} {rest = rest} (in_array inner n following deeper b i) =
      after_shortest _ bytes following rest b (items_end i)
  item_ends {bytes = bytes} {rest = rest} (in_map inner n following deeper b p) =
      after_shortest _ bytes following rest b (pairs_end p)

  items_end : {levels left : ℕ} {bytes : List ℕ} {r : Rule} {rest : List ℕ} → BreaksInItems levels left bytes r rest
      → EndsIn bytes rest
  items_end (at_item some b) = item_ends b
  items_end {levels = levels} {bytes = bytes} {rest = rest} (after_item next some one i) =
      after_one levels bytes next rest one (items_end i)

  pairs_end : {levels left : ℕ} {before : Option (List ℕ)} {bytes : List ℕ} {r : Rule} {rest : List ℕ}
      → BreaksInPairs levels left before bytes r rest → EndsIn bytes rest
  pairs_end (in_key some b) = item_ends b
  pairs_end {bytes = bytes} {rest = rest} (misplaced middle some k rule there) = whole bytes rest there
  pairs_end {levels = levels} {bytes = bytes} {rest = rest} (in_value middle some k comes b) =
      after_one levels bytes middle rest k (item_ends b)
  pairs_end {levels = levels} {bytes = bytes} {rest = rest} (after_pair middle next some k comes value p) =
      after_one levels bytes middle rest k (after_one levels middle next rest value (pairs_end p))

ends : {levels : ℕ} {bytes : List ℕ} {r : Rule} {rest : List ℕ} → BreaksOff levels bytes r rest → EndsIn bytes rest
ends (in_item b) = item_ends b
ends {rest = rest} (trailing b some is) = (written b.item, b.parts)

pub ends_short : {levels : ℕ} {bytes : List ℕ} {r : Rule} {rest : List ℕ} → BreaksOff levels bytes r rest
    → length rest ≤ length bytes
ends_short {rest = rest} b = let e = ends b in omega (arith, ap length e.1, length-append e.0 rest)

pub is_not_canonical : {levels limit : ℕ} (bytes : List ℕ) (r : Rule) (rest : List ℕ) → levels ≡ limit
    → BreaksOff levels bytes r rest
    → IsNotCanonical limit bytes (record { offset = length bytes - length rest; rule = r })
is_not_canonical {limit = limit} bytes r rest is b =
    let e = ends b in
    let count : length e.0 ≡ length bytes - length rest = omega (arith, ap length e.1, length-append e.0 rest) in
    record {
      none = λ whole. not_whole limit bytes r rest (subst (λ (n : ℕ). BreaksOff n bytes r rest) is b) whole;
      within = omega arith;
      breaks = subst (BreaksOff limit bytes r)
          (sym (ap (drop (length bytes - length rest)) e.1 ∙ drop_at e.0 rest (length bytes - length rest) count))
          (subst (λ (n : ℕ). BreaksOff n bytes r rest) is b);
    }
