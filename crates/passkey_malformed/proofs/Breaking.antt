-- Canonical data items, one after the other, and where a rule is broken among them.
use Rattle.std.proofs.Common.{◌≡◌, ◌∙◌, ℕ, zero, suc, ◌-◌, ◌<◌, ◌≤◌, Bool, true, false, List, ◌++◌, length, Option, Some, None, refl, sym, ap, subst, arith}
use Rattle.std.proofs.lemmas.List.{length-append}
use Rattle.std.specs.declared.cmp.Ordering.{Ordering}
use Rattle.std.specs.declared.cmp.Ordering.TheVariants.{Less, Equal, Greater}
use Rattle.passkey_cbor.specs.Canonical.{ComesAfter}
use Rattle.passkey_cbor.specs.CanonicalReading.{BeginsContent, BeginsItem, BeginsItems, BeginsPairs, BeginsShortest, BeginsString, head_written}
use Rattle.passkey_cbor.specs.HeadEncoding.{IsEncodingOfHead}
use Rattle.passkey_cbor.specs.Lent.{string_head}
use Rattle.passkey_cbor.specs.Order.{ctap2_order}
use Rattle.passkey_cbor.specs.Written.{written}
use Rattle.passkey_cbor.specs.declared.head.Head.{Head}
use Rattle.passkey_cbor.specs.declared.head.Head.TheVariants as head
use Rattle.passkey_cbor.proofs.heads.Shortest.{shortest_is}
use Rattle.passkey_cbor.proofs.items.CanonicalItems.{ItemsGo, PairsGo, items_end, items_go, pairs_end, pairs_go}
use Rattle.passkey_malformed.specs.Breaks.{Breaks, BreaksInItems, BreaksInPairs, after_item, after_pair, at_item, barred, head_rule, in_array, in_key, in_map, in_string, in_value, key_rule, list_rule, misplaced, order_rule, string_rule}
use Rattle.passkey_malformed.specs.Stops.{Begins, StopsInString, StringLeads}
use Rattle.passkey_malformed.specs.declared.rule.Rule.{Rule}
use Rattle.passkey_malformed.specs.declared.rule.Rule.TheVariants as rule
use Rattle.passkey_malformed.specs.declared.why.Why.{Why}

-- ---- heads

module _ (h : Head) (bytes following : List ℕ) (b : Begins (IsEncodingOfHead h) bytes following) where
  long : length bytes - length following ≡ length b.text
  long = omega (arith, ap length b.parts, length-append b.text following)

  pub begins_shortest : length bytes - length following ≡ length (head_written h) → BeginsShortest h bytes following
  begins_shortest e =
      let is : b.text ≡ head_written h = shortest_is h b.text b.encoded (sym long ∙ e) in
      record {
        encoded = subst (IsEncodingOfHead h) is b.encoded;
        parts = b.parts ∙ ap (λ (s : List ℕ). s ++ following) is;
      }

  pub is_longer : (length bytes - length following ≡ length (head_written h) → ⊥) → b.text ≡ head_written h → ⊥
  is_longer other is = other (long ∙ ap length is)

pub barred_by : {bytes following rest : List ℕ} {h : Head} {r q : Rule} (levels : ℕ) → BeginsShortest h bytes following
    → head_rule levels h ≡ Some q → r ≡ q → rest ≡ bytes → Breaks levels bytes r rest
barred_by {h = h} {r = r} levels b rule is there = barred h _ b (rule ∙ ap (λ (s : Rule). Some s) (sym is)) there

-- ---- strings

pub string_head_rule : (levels : ℕ) (is_text : Bool) (len : Option ℕ)
    → head_rule levels (string_head is_text len) ≡ string_rule len
string_head_rule levels false len = refl
string_head_rule levels true len = refl

pub string_broken : (is_text : Bool) {n : ℕ} {why : Why} {bytes following rest stop : List ℕ} {r : Rule}
    (len : Option ℕ) (levels : ℕ) → len ≡ Some n → BeginsShortest (string_head is_text len) bytes following
    → StopsInString is_text len following why stop → r ≡ rule.WellFormed why → rest ≡ stop
    → Breaks levels bytes r rest
string_broken is_text {n} {why} {bytes} {following} {rest} len levels some b s is there =
    in_string is_text n following
    (subst (λ (l : Option ℕ). BeginsShortest (string_head is_text l) bytes following) some b)
    (record {
      why = why;
      is = is;
      none = subst (λ (l : Option ℕ). StopsInString is_text l following why rest) some
          (subst (StopsInString is_text len following why) (sym there) s);
    })

string_led : {is_text : Bool} {n : ℕ} {following rest : List ℕ} → StringLeads is_text (Some n) following rest
    → BeginsString is_text n following rest
string_led {rest = rest} s = record {
  content = s.0;
  long = sym s.1.encoded.0.0;
  allowed_text = s.1.encoded.0.1;
  parts = s.1.parts ∙ ap (λ (t : List ℕ). t ++ rest) s.1.encoded.1;
}

pub string_content : (levels : ℕ) (is_text : Bool) {n : ℕ} {following rest : List ℕ}
    → StringLeads is_text (Some n) following rest
    → BeginsContent levels (string_head is_text (Some n)) following rest
string_content levels false s = string_led s
string_content levels true s = string_led s

-- ---- arrays and maps

pub no_level : (levels : ℕ) {len : Option ℕ} {n : ℕ} → len ≡ Some n → (1 ≤ levels → ⊥)
    → list_rule levels len ≡ Some rule.Levels
no_level zero some none = ap (list_rule zero) some
no_level (suc levels) some none = absurd (none (omega arith))

module _ {levels inner n : ℕ} {len : Option ℕ} {bytes following : List ℕ} (some : len ≡ Some n)
    (deeper : (1 ≤ levels) × (inner ≡ levels - 1)) (r : Rule) (rest : List ℕ) where
  pub array_broken : BeginsShortest (head.Array len) bytes following → BreaksInItems inner n following r rest
      → Breaks levels bytes r rest
  array_broken b i = in_array inner n following (omega (arith, deeper.0, deeper.1))
      (subst (λ (l : Option ℕ). BeginsShortest (head.Array l) bytes following) some b) i

  pub map_broken : BeginsShortest (head.Map len) bytes following → BreaksInPairs inner n None following r rest
      → Breaks levels bytes r rest
  map_broken b p = in_map inner n following (omega (arith, deeper.0, deeper.1))
      (subst (λ (l : Option ℕ). BeginsShortest (head.Map l) bytes following) some b) p

-- ---- the elements of an array

-- Whole canonical data items were passed, and what is broken after them is broken in all.
pub record ItemsOn (levels count : ℕ) (bytes : List ℕ) (left : ℕ) (here : List ℕ) : Type 0 where
  pub go : ItemsGo levels count bytes left here
  pub breaks : (r : Rule) (rest : List ℕ) → BreaksInItems levels left here r rest
      → BreaksInItems levels count bytes r rest

module _ {levels count : ℕ} {bytes : List ℕ} {left : ℕ} {here : List ℕ} (on : ItemsOn levels count bytes left here) where
  pub items_on : (next : List ℕ) → 0 < left → BeginsItem levels here next → ItemsOn levels count bytes (left - 1) next
  items_on next some one = record {
    go = items_go levels count bytes left here next some on.go one;
    breaks = λ r rest b. on.breaks r rest (after_item next some one b);
  }

  pub items_broken : (r : Rule) (rest : List ℕ) → 0 < left → Breaks levels here r rest
      → BreaksInItems levels count bytes r rest
  items_broken r rest some b = on.breaks r rest (at_item some b)

  pub items_done : left ≡ 0 → BeginsItems levels count bytes here
  items_done none = items_end levels count bytes left here none on.go

-- ---- the pairs of a map

order_is : (o : Ordering) → order_rule o ≡ None → o ≡ Less
order_is Less e = refl
order_is Equal e = absurd cc
order_is Greater e = absurd cc

comes : (before : Option (List ℕ)) (key : List ℕ) → key_rule before key ≡ None → ComesAfter before key
comes None key e = tt
comes (Some before) key e = order_is (ctap2_order before key) e

-- Whole pairs were passed, the last with the key `before`, and what is broken after them is broken in all.
pub record PairsOn (levels count : ℕ) (bytes : List ℕ) (left : ℕ) (before : Option (List ℕ)) (here : List ℕ) : Type 0
  where
    pub go : PairsGo levels count bytes left before here
    pub breaks : (r : Rule) (rest : List ℕ) → BreaksInPairs levels left before here r rest
        → BreaksInPairs levels count None bytes r rest

module _ {levels count : ℕ} {bytes : List ℕ} {left : ℕ} {before : Option (List ℕ)} {here : List ℕ}
    (on : PairsOn levels count bytes left before here) (some : 0 < left) where
  pub key_broken : (r : Rule) (rest : List ℕ) → Breaks levels here r rest → BreaksInPairs levels count None bytes r rest
  key_broken r rest b = on.breaks r rest (in_key some b)

  module _ (middle : List ℕ) (k : BeginsItem levels here middle) (key : List ℕ) (is : key ≡ written k.item) where
    pub key_misplaced : (q r : Rule) (rest : List ℕ) → key_rule before key ≡ Some q → r ≡ q → rest ≡ here
        → BreaksInPairs levels count None bytes r rest
    key_misplaced q r rest rule same there =
        on.breaks r rest (misplaced middle some k
        (ap (key_rule before) (sym is) ∙ rule ∙ ap (λ (s : Rule). Some s) (sym same)) there)

    here_comes : key_rule before key ≡ None → ComesAfter before (written k.item)
    here_comes none = subst (ComesAfter before) is (comes before key none)

    pub value_broken : (r : Rule) (rest : List ℕ) → key_rule before key ≡ None → Breaks levels middle r rest
        → BreaksInPairs levels count None bytes r rest
    value_broken r rest none b = on.breaks r rest (in_value middle some k (here_comes none) b)

    pub pairs_on : (next : List ℕ) → key_rule before key ≡ None → BeginsItem levels middle next
        → PairsOn levels count bytes (left - 1) (Some key) next
    pairs_on next none value = record {
      go = pairs_go levels count bytes left before here middle next key some on.go k is (comes before key none) value;
      breaks = λ r rest b. on.breaks r rest (after_pair middle next some k (here_comes none) value
          (subst (λ (s : List ℕ). BreaksInPairs levels (left - 1) (Some s) next r rest) is b));
    }

pub pairs_done : {levels count : ℕ} {bytes : List ℕ} {left : ℕ} {before : Option (List ℕ)} {here : List ℕ}
    → PairsOn levels count bytes left before here → left ≡ 0 → BeginsPairs levels count None bytes here
pairs_done {levels = levels} {count = count} {bytes = bytes} {left = left} {before = before} {here = here} on none =
    pairs_end levels count bytes left before here none on.go
