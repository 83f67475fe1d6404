-- Where a rule is broken, no canonical data item begins the bytes.
use Rattle.std.proofs.Common.{◌≡◌, ◌≢◌, ◌∙◌, ℕ, zero, suc, ◌-◌, ◌≤◌, ◌==◌, Bool, true, false, List, [], length, take, Option, Some, None, if◌then◌else◌, refl, sym, ap, subst, arith}
use Rattle.std.proofs.lemmas.Bool.Decides.{nat_tests}
use Rattle.std.proofs.lemmas.List.{length-append, take_at}
use Rattle.std.specs.Str.{IsUtf8}
use Rattle.passkey_cbor.specs.Canonical.{ComesAfter}
use Rattle.passkey_cbor.specs.CanonicalReading.{BeginsContent, BeginsItem, BeginsItems, BeginsPairs, BeginsShortest, BeginsString, head_written}
use Rattle.passkey_cbor.specs.HeadReading.{head_at}
use Rattle.passkey_cbor.specs.Inside.{IsAllowed}
use Rattle.passkey_cbor.specs.Lent.{string_head}
use Rattle.passkey_cbor.specs.Written.{written}
use Rattle.passkey_cbor.specs.declared.head.Head.{Head}
use Rattle.passkey_cbor.specs.declared.head.Head.TheVariants as head
use Rattle.passkey_cbor.proofs.heads.HeadAgain.{head_again}
use Rattle.passkey_cbor.proofs.heads.Shortest.{not_shortest, shortest_is}
use Rattle.passkey_cbor.proofs.items.CanonicalItems.{PairsGo, item_left, items_go, items_stuck, no_head_left, no_key_left, no_value_left, only_one, out_of_order, pairs_go}
use Rattle.passkey_malformed.specs.Breaks.{Breaks, BreaksInItems, BreaksInPairs, BreaksOff, IsCanonicalWithin, NoShortestHead, after_item, after_pair, at_head, at_item, barred, head_rule, in_array, in_item, in_key, in_map, in_string, in_value, key_rule, longer, misplaced, none, order_rule, trailing}
use Rattle.passkey_malformed.specs.Stops.{NoPiece}
use Rattle.passkey_malformed.specs.declared.rule.Rule.{Rule}
use Rattle.passkey_malformed.specs.declared.rule.Rule.TheVariants as rule
use Rattle.passkey_malformed.specs.declared.why.Why.{Why}
use Rattle.passkey_malformed.specs.declared.why.Why.TheVariants as reason

-- ---- heads

not_head : (bytes : List ℕ) (r : Rule) (rest : List ℕ) → NoShortestHead bytes r rest → (h : Head) (u : List ℕ)
    → BeginsShortest h bytes u → ⊥
not_head bytes r rest (none why is absent n) h u b = absent h (head_written h) u b.encoded b.parts
not_head bytes r rest (longer g following f other is there) h u b =
    let at : head_at bytes ≡ Some (g, following) = ap head_at f.parts ∙ head_again g f.text following f.encoded in
    let long : length bytes - length following ≡ length f.text =
    omega (arith, ap length f.parts, length-append f.text following) in
    not_shortest bytes g following at (λ e. other (shortest_is g f.text f.encoded (sym long ∙ e))) h u b

not_both : (r : Rule) → None ≡ Some r → ⊥
not_both r e = absurd cc

simple_barred : (n : ℕ) (r : Rule) → (if n == 23 then Some rule.NoUndefined else None) ≡ Some r → n ≢ 23 → ⊥
simple_barred n r e other = grind (arith, nat_tests)

list_barred : (levels : ℕ) {A : Type 0} → (1 ≤ levels) × A → levels ≡ 0 → ⊥
list_barred levels c zeroed = omega (arith, c.0, zeroed)

not_barred : (levels : ℕ) (h : Head) (r : Rule) (following rest : List ℕ) → head_rule levels h ≡ Some r
    → BeginsContent levels h following rest → ⊥
not_barred levels (head.Unsigned n) r following rest e c = not_both r e
not_barred levels (head.Negative n) r following rest e c = not_both r e
not_barred levels (head.Bytes None) r following rest e c = c
not_barred levels (head.Bytes (Some n)) r following rest e c = not_both r e
not_barred levels (head.Text None) r following rest e c = c
not_barred levels (head.Text (Some n)) r following rest e c = not_both r e
not_barred levels (head.Array None) r following rest e c = c
not_barred zero (head.Array (Some n)) r following rest e c = list_barred zero c refl
not_barred (suc levels) (head.Array (Some n)) r following rest e c = not_both r e
not_barred levels (head.Map None) r following rest e c = c
not_barred zero (head.Map (Some n)) r following rest e c = list_barred zero c refl
not_barred (suc levels) (head.Map (Some n)) r following rest e c = not_both r e
not_barred levels (head.Tag n) r following rest e c = c
not_barred levels (head.Simple n) r following rest e c = simple_barred n r e c.0
not_barred levels (head.Float f) r following rest e c = not_both r e
not_barred levels head.Break r following rest e c = c

-- ---- strings

not_string : (is_text : Bool) (n : ℕ) (bytes : List ℕ) (why : Why) (rest u : List ℕ) → NoPiece is_text n bytes why rest
    → BeginsString is_text n bytes u → ⊥
not_string is_text n bytes reason.CutOff rest u p b =
    omega (arith, p.0, ap length b.parts, length-append b.content u, b.long)
not_string is_text n bytes reason.NotUtf8 rest u p b =
    let same : take n bytes ≡ b.content = ap (take n) b.parts ∙ take_at b.content u n b.long in
    p.2 (subst IsUtf8 (sym same) (subst (λ (t : Bool). IsAllowed t b.content) p.0 b.allowed_text))
not_string is_text n bytes reason.ReservedArgument rest u p b = p
not_string is_text n bytes reason.StrayBreak rest u p b = p
not_string is_text n bytes reason.BadChunk rest u p b = p
not_string is_text n bytes reason.TooDeep rest u p b = p
not_string is_text n bytes reason.OddMap rest u p b = p
not_string is_text n bytes reason.BadSimple rest u p b = p

string_in : (levels : ℕ) (is_text : Bool) (n : ℕ) (following u : List ℕ)
    → BeginsContent levels (string_head is_text (Some n)) following u → BeginsString is_text n following u
string_in levels false n following u c = c
string_in levels true n following u c = c

-- ---- keys

not_after : (before : Option (List ℕ)) (key : List ℕ) (r : Rule) → key_rule before key ≡ Some r → ComesAfter before key
    → ⊥
not_after None key r e comes = not_both r e
not_after (Some before) key r e comes = not_both r (sym (ap order_rule comes) ∙ e)

-- ---- data items

one_fewer : (levels inner : ℕ) → levels ≡ suc inner → levels - 1 ≡ inner
one_fewer levels inner is = omega (arith, is)

mutual
  not_item : {levels : ℕ} {bytes : List ℕ} {r : Rule} {rest : List ℕ} → Breaks levels bytes r rest → (u : List ℕ)
      → BeginsItem levels bytes u → ⊥
  not_item {levels} {bytes} {r} {rest} (at_head n) u i = no_head_left levels bytes (not_head bytes r rest n) u i
  not_item {levels} {bytes} {r} {rest} (barred h following b e there) u i =
      item_left levels h bytes following None b (λ v c. not_barred levels h r following v e c) u i
  not_item {levels} {bytes} {r} {rest} (in_string is_text n following b s) u i =
      item_left levels (string_head is_text (Some n)) bytes following None b
      (λ v c. not_string is_text n following s.why rest v s.none (string_in levels is_text n following v c)) u i
  not_item {levels} {bytes} {r} {rest} (in_array inner n following deeper b x) u i =
      item_left levels (head.Array (Some n)) bytes following None b
      (λ v c. not_items x v (subst (λ (k : ℕ). BeginsItems k n following v) (one_fewer levels inner deeper) c.1)) u i
  not_item {levels} {bytes} {r} {rest} (in_map inner n following deeper b x) u i =
      item_left levels (head.Map (Some n)) bytes following None b
      (λ v c. not_pairs n following (record { same = λ w. ((λ p. p), (λ p. p)); long = tt }) x v
      (subst (λ (k : ℕ). BeginsPairs k n None following v) (one_fewer levels inner deeper) c.1)) u i

  not_items : {levels left : ℕ} {bytes : List ℕ} {r : Rule} {rest : List ℕ} → BreaksInItems levels left bytes r rest
      → (u : List ℕ) → BeginsItems levels left bytes u → ⊥
  not_items {levels} {left} {bytes} (at_item some b) u i =
      items_stuck levels left bytes left bytes some (record { same = λ w. ((λ p. p), (λ p. p)) })
      (λ v one. not_item b v one) u i
  not_items {levels} {left} {bytes} (after_item next some one x) u i =
      let go = items_go levels left bytes left bytes next some (record { same = λ w. ((λ p. p), (λ p. p)) }) one in
      not_items x u ((go.same u).1 i)

  not_pairs : (all : ℕ) (whole : List ℕ) {levels left : ℕ} {before : Option (List ℕ)} {bytes : List ℕ} {r : Rule}
      {rest : List ℕ} → PairsGo levels all whole left before bytes → BreaksInPairs levels left before bytes r rest
      → (u : List ℕ) → BeginsPairs levels all None whole u → ⊥
  not_pairs all whole {levels} {left} {before} {bytes} go (in_key some b) u p =
      no_key_left levels all whole left before bytes some go (λ v one. not_item b v one) u p
  not_pairs all whole {levels} {left} {before} {bytes} {r} go (misplaced middle some k e there) u p =
      out_of_order levels all whole left before bytes middle (written k.item) some go k refl
      (not_after before (written k.item) r e) u p
  not_pairs all whole {levels} {left} {before} {bytes} go (in_value middle some k comes b) u p =
      no_value_left levels all whole left before bytes middle some go k (λ v one. not_item b v one) u p
  not_pairs all whole {levels} {left} {before} {bytes} go (after_pair middle next some k comes value x) u p =
      not_pairs all whole
      (pairs_go levels all whole left before bytes middle next (written k.item) some go k refl comes value) x u p

-- ---- the whole

pub not_whole : (levels : ℕ) (bytes : List ℕ) (r : Rule) (rest : List ℕ) → BreaksOff levels bytes r rest
    → IsCanonicalWithin levels bytes → ⊥
not_whole levels bytes r rest (in_item b) whole = not_item b [] whole
not_whole levels bytes r rest (trailing b some is) whole =
    let same = only_one levels bytes [] rest whole b in omega (arith, some, ap length same.1)
