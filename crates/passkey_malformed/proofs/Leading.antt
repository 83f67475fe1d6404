-- A data item is its head and what follows it.
use Rattle.std.proofs.Common.{◌≡◌, ◌∙◌, ℕ, suc, ◌-◌, ◌*◌, ◌/◌, pos, negsuc, Bool, true, false, List, length, take, Option, Some, None, refl, sym, ap, subst, arith}
use Rattle.std.proofs.lemmas.Bool.Decides.{nat_tests}
use Rattle.std.proofs.lemmas.List.{length-append, take_at}
use Rattle.passkey_cbor.specs.Bytes.{IsBytes}
use Rattle.passkey_cbor.specs.Item.{Item, number, array, map, tagged, float, items_of, pairs_of}
use Rattle.passkey_cbor.specs.Languages.{Each}
use Rattle.passkey_cbor.specs.FloatParts.{FloatParts}
use Rattle.passkey_cbor.specs.HeadEncoding.{IsEncodingOfHead}
use Rattle.passkey_cbor.specs.HeadReading.{head_at}
use Rattle.passkey_cbor.specs.Inside.{Within, PairWithin, Left}
use Rattle.passkey_cbor.specs.Encoding.{IsEncoding}
use Rattle.passkey_cbor.specs.LeadingItem.{max_depth}
use Rattle.passkey_cbor.specs.Lent.{string_head, string_item}
use Rattle.passkey_cbor.specs.Reading.{start, list_at, string_at, simple_item, pair_by, item_by, item_within}
use Rattle.passkey_cbor.specs.declared.head.Head.{Head}
use Rattle.passkey_cbor.specs.declared.head.Head.TheVariants as head
use Rattle.passkey_cbor.proofs.skipping.After.{by_flat, by_string, by_array, by_map, by_tag}
use Rattle.passkey_cbor.proofs.items.Binds.{bind_at}
use Rattle.passkey_cbor.proofs.heads.HeadAgain.{head_again}
use Rattle.passkey_cbor.proofs.items.Items.{follows_item, follows_pair}
use Rattle.passkey_cbor.proofs.items.Lists.{Follows, list_at_again}
use Rattle.passkey_cbor.proofs.strings.Strings.{string_again}
use Rattle.passkey_malformed.specs.Stops.{Begins, HasLeadingItem, ItemLeads, StringLeads, ListLeads}
use Rattle.passkey_malformed.proofs.Lists.{ended, paired}

module _ (levels : ℕ) (bytes following : List ℕ) (fits : IsBytes bytes) where
  led : (h : Head) (x : Item) (rest : List ℕ) → Begins (IsEncodingOfHead h) bytes following
      → item_within levels h following ≡ Some (x, rest) → ItemLeads levels bytes rest
  led h x rest b e =
      let at : head_at bytes ≡ Some (h, following) = ap head_at b.parts ∙ head_again h b.text following b.encoded in
      let all : Follows (Within levels) (item_within levels) = follows_item levels in
      let t = all.takes x bytes rest fits
      (bind_at (head_at bytes) (h, following) (λ g. item_within levels g.0 g.1) at ∙ e) in
      (x, record { text = t.text; encoded = t.encoded; parts = t.parts })

  -- ---- heads that are the whole data item

  pub unsigned_led : (n : ℕ) → Begins (IsEncodingOfHead (head.Unsigned n)) bytes following
      → ItemLeads levels bytes following
  unfolding item_by
  unsigned_led n b = led (head.Unsigned n) (number (pos n)) following b
      (by_flat levels _ (head.Unsigned n) _ following refl (λ inner. refl))

  pub negative_led : (n : ℕ) → Begins (IsEncodingOfHead (head.Negative n)) bytes following
      → ItemLeads levels bytes following
  unfolding item_by
  negative_led n b = led (head.Negative n) (number (negsuc n)) following b
      (by_flat levels _ (head.Negative n) _ following refl (λ inner. refl))

  pub simple_led : (n : ℕ) → Begins (IsEncodingOfHead (head.Simple n)) bytes following → ItemLeads levels bytes following
  unfolding item_by
  simple_led n b = led (head.Simple n) (simple_item n) following b
      (by_flat levels _ (head.Simple n) _ following refl (λ inner. refl))

  pub float_led : (f : FloatParts) → Begins (IsEncodingOfHead (head.Float f)) bytes following
      → ItemLeads levels bytes following
  unfolding item_by
  float_led f b = led (head.Float f) (float f) following b
      (by_flat levels _ (head.Float f) _ following refl (λ inner. refl))

  -- ---- strings

  pub string_led : (is_text : Bool) (len : Option ℕ) (rest : List ℕ)
      → Begins (IsEncodingOfHead (string_head is_text len)) bytes following → StringLeads is_text len following rest
      → ItemLeads levels bytes rest
  string_led is_text len rest b s =
      let read : string_at is_text len following ≡ Some (s.0, rest) =
      ap (string_at is_text len) s.1.parts ∙ string_again is_text len s.0 s.1.text rest s.1.encoded in
      led (string_head is_text len) (string_item is_text s.0) rest b
      (by_string levels is_text len _ following refl
      ∙ bind_at (string_at is_text len following) (s.0, rest) (λ s. Some (string_item is_text s.0, s.1)) read)

  -- ---- tags

  pub tag_led : (n inner : ℕ) (rest : List ℕ) → levels ≡ suc inner
      → Begins (IsEncodingOfHead (head.Tag n)) bytes following → ItemLeads inner following rest
      → ItemLeads levels bytes rest
  tag_led n inner rest is b i =
      let one : levels - 1 ≡ inner = omega arith in
      let all : Follows (Within inner) (item_within inner) = follows_item inner in
      let read : start (item_within inner) following ≡ Some (i.0, rest) =
      ap (start (item_within inner)) i.1.parts ∙ all.again i.0 i.1.text rest i.1.encoded in
      led (head.Tag n) (tagged n i.0) rest b
      (by_tag levels n _ following (omega arith) refl
      ∙ bind_at (start (item_within (levels - 1)) following) (i.0, rest) (λ x. Some (tagged n x.0, x.1))
      (ap (λ (k : ℕ). start (item_within k) following) one ∙ read))

  -- ---- arrays and maps

  array_read : (len : Option ℕ) (inner : ℕ) (xs : List Item) (rest : List ℕ) → levels ≡ suc inner
      → Begins (IsEncodingOfHead (head.Array len)) bytes following → Begins (Left (Within inner) len xs) following rest
      → ItemLeads levels bytes rest
  array_read len inner xs rest is b l =
      let one : levels - 1 ≡ inner = omega arith in
      let read : list_at (item_within inner) len following ≡ Some (xs, rest) =
      ap (list_at (item_within inner) len) l.parts
      ∙ list_at_again (Within inner) (item_within inner) (follows_item inner) len xs l.text rest l.encoded in
      led (head.Array len) (array (items_of xs)) rest b
      (by_array levels len _ following (omega arith) refl
      ∙ bind_at (list_at (item_within (levels - 1)) len following) (xs, rest) (λ xs. Some (array (items_of xs.0), xs.1))
      (ap (λ (k : ℕ). list_at (item_within k) len following) one ∙ read))

  map_read : (len : Option ℕ) (inner : ℕ) (ms : List (Item × Item)) (rest : List ℕ) → levels ≡ suc inner
      → Begins (IsEncodingOfHead (head.Map len)) bytes following → Begins (Left (PairWithin inner) len ms) following rest
      → ItemLeads levels bytes rest
  map_read len inner ms rest is b l =
      let one : levels - 1 ≡ inner = omega arith in
      let read : list_at (pair_by (item_within inner)) len following ≡ Some (ms, rest) =
      ap (list_at (pair_by (item_within inner)) len) l.parts
      ∙ list_at_again (PairWithin inner) (pair_by (item_within inner))
      (follows_pair (Within inner) (item_within inner) (follows_item inner)) len ms l.text rest l.encoded in
      led (head.Map len) (map (pairs_of ms)) rest b
      (by_map levels len _ following (omega arith) refl
      ∙ bind_at (list_at (pair_by (item_within (levels - 1))) len following) (ms, rest)
      (λ ps. Some (map (pairs_of ps.0), ps.1))
      (ap (λ (k : ℕ). list_at (pair_by (item_within k)) len following) one ∙ read))

  pub array_led : (len : Option ℕ) (inner : ℕ) (rest : List ℕ) → levels ≡ suc inner
      → Begins (IsEncodingOfHead (head.Array len)) bytes following → ListLeads false len inner following rest
      → ItemLeads levels bytes rest
  array_led (Some m) inner rest is b l = array_read (Some m) inner l.items rest is b
      (ended (Within inner) (Some m) l.items following l.here rest l.passed (sym l.ends.0, l.ends.1))
  array_led None inner rest is b l = array_read None inner l.items rest is b
      (ended (Within inner) None l.items following l.here rest l.passed l.ends.1)

  pub map_led : (len : Option ℕ) (inner : ℕ) (rest : List ℕ) → levels ≡ suc inner
      → Begins (IsEncodingOfHead (head.Map len)) bytes following → ListLeads true len inner following rest
      → ItemLeads levels bytes rest
  map_led (Some m) inner rest is b l =
      let p = paired inner m l.items l.passed.text l.ends.0 l.passed.encoded in
      let all : Begins (Each (PairWithin inner) p.pairs) following l.here =
      record { text = l.passed.text; encoded = p.encoded; parts = l.passed.parts } in
      map_read (Some m) inner p.pairs rest is b
      (ended (PairWithin inner) (Some m) p.pairs following l.here rest all (sym p.count, l.ends.1))
  map_led None inner rest is b l =
      let even : length l.items ≡ 2 * (length l.items / 2) = grind (arith, nat_tests, l.ends.0) in
      let p = paired inner (length l.items / 2) l.items l.passed.text even l.passed.encoded in
      let all : Begins (Each (PairWithin inner) p.pairs) following l.here =
      record { text = l.passed.text; encoded = p.encoded; parts = l.passed.parts } in
      map_read None inner p.pairs rest is b
      (ended (PairWithin inner) None p.pairs following l.here rest all l.ends.1)

pub leads : (bytes rest : List ℕ) → ItemLeads max_depth bytes rest → HasLeadingItem bytes
leads bytes rest i =
    let b = i.1 in (
      i.0,
      length b.text,
      record {
        within = omega (arith, ap length b.parts, length-append b.text rest);
        encoded = subst (IsEncoding i.0) (sym (ap (take (length b.text)) b.parts ∙ take_at b.text rest _ refl))
            b.encoded.1;
        shallow = b.encoded.0;
      },
    )
