-- Null at a cursor.
use Rattle.std.proofs.Common.{◌≡◌, ◌⊎◌, inl, inr, ℕ, suc, ◌-◌, ◌<◌, ◌≤◌, ◌==◌, Bool, true, false, List, [], ◌∷◌, length, drop, take, get_or, sym, ap, subst, ◌∙◌, arith}
use Rattle.std.proofs.Math.Seq.{drop-cons}
use Rattle.std.proofs.lemmas.List.{length-drop, length-take, get_or-take, get_or-drop}
use Rattle.std.proofs.lemmas.Bool.{cases_eq, ne_eqb}
use Rattle.passkey_cbor.specs.Item.{Item, null}
use Rattle.passkey_cbor.specs.LeadingItem.{IsLeadingItem}
use Rattle.passkey_cbor.specs.HeadCount.{heads_of, heads_by}
use Rattle.passkey_cbor.specs.HeadReading.{head_at, head_after, simple_at}
use Rattle.passkey_cbor.specs.CursorState.{CursorState, ahead, raised}
use Rattle.passkey_cbor.specs.Skipped.{SkipsLeadingItem}
use Rattle.passkey_cbor.specs.EncodedAt.{IsEncodedAt, Passes}
use Rattle.passkey_cbor.specs.Null.{BeginsNull, PassesNull, PassesNullAt}
use Rattle.passkey_cbor.proofs.items.EncodedFrom.{stands_front, only_one}
use Rattle.passkey_cbor.proofs.items.LeadingItems.{at_most_one}

-- ---- by the next byte

-- the bytes begin with one of the two that are null
abbrev NullByte : ℕ → Type 0
NullByte b = (b ≡ 246) ⊎ (b ≡ 247)

pub null_ahead : (bytes : List ℕ) (place : ℕ) → place < length bytes → NullByte (get_or bytes place 0)
    → BeginsNull (drop place bytes) true
null_ahead bytes place within is =
    let here : drop place bytes ≡ get_or bytes place 0 ∷ drop (suc place) bytes = drop-cons bytes place 0 within in
    let first : take 1 (drop place bytes) ≡ get_or bytes place 0 ∷ [] = ap (take 1) here in
    record {
      within = omega (arith, length-drop place bytes);
      encoded = elim is [
        | inl q ↦ inl (first ∙ ap (λ (b : ℕ). b ∷ []) q)
        | inr q ↦ inr (first ∙ ap (λ (b : ℕ). b ∷ []) q)
      ];
      shallow = omega arith;
    }

one_byte : (bytes : List ℕ) (len b : ℕ) → take len bytes ≡ b ∷ [] → len ≤ length bytes → get_or bytes 0 0 ≡ b
one_byte bytes len b e within =
    let size : len ≡ 1 = omega (arith, ap length e, length-take len bytes) in
    sym (get_or-take len bytes 0 0 (omega arith)) ∙ ap (λ (t : List ℕ). get_or t 0 0) e

at_start : (bytes : List ℕ) (place b : ℕ) → get_or (drop place bytes) 0 0 ≡ b → get_or bytes place 0 ≡ b
at_start bytes place b e =
    ap (λ (i : ℕ). get_or bytes i 0) (omega arith) ∙ sym (get_or-drop place bytes 0 0) ∙ e

-- null is one of two bytes
null_byte : (bytes : List ℕ) (len : ℕ) → IsLeadingItem bytes null len → NullByte (get_or bytes 0 0) × (0 < length bytes)
null_byte bytes len f =
    let size : 0 < length bytes = elim f.encoded [
      | inl e ↦ omega (arith, ap length e, length-take len bytes)
      | inr e ↦ omega (arith, ap length e, length-take len bytes)
    ] in (
      elim f.encoded [
        | inl e ↦ inl (one_byte bytes len 246 e f.within)
        | inr e ↦ inr (one_byte bytes len 247 e f.within)
      ],
      size,
    )

-- other bytes aren't null
pub null_else : (bytes : List ℕ) (place : ℕ) → place < length bytes → (get_or bytes place 0 ≡ 246 → ⊥)
    → BeginsNull (drop place bytes) (get_or bytes place 0 == 247)
null_else bytes place within other = elim (cases_eq (get_or bytes place 0) 247) [
  | inl is ↦ subst (BeginsNull (drop place bytes)) (sym (ap (λ (b : ℕ). b == 247) is))
      (null_ahead bytes place within (inr is))
  | inr neither ↦ subst (BeginsNull (drop place bytes)) (sym (ne_eqb (get_or bytes place 0) 247 neither))
      (λ len f. elim (null_byte (drop place bytes) len f).0 [
        | inl q ↦ other (at_start bytes place 246 q)
        | inr q ↦ neither (at_start bytes place 247 q)
      ])
]

-- ---- by the calls of the cursor

null_heads : (bytes : List ℕ) → IsLeadingItem bytes null 1 → heads_of (take 1 bytes) ≡ 1
unfolding heads_of heads_by head_at head_after simple_at
null_heads bytes f = elim f.encoded [ inl e ↦ ap heads_of e | inr e ↦ ap heads_of e ]

pub skips_null : (a b : CursorState) (found : Bool) → IsLeadingItem (ahead a) null 1 → SkipsLeadingItem a b found
    → PassesNull a b found
skips_null a b true f p =
    let same = at_most_one (ahead a) p.item null p.len 1 p.front f in
    let counted : heads_of (take p.len (ahead a)) ≡ 1 =
    ap (λ (n : ℕ). heads_of (take n (ahead a))) same.1 ∙ null_heads (ahead a) f in
    record { front = f; passed = p; heads = p.counted ∙ ap (raised a.heads) counted }
skips_null a b false f p = absurd (p.none null 1 f)

pub null_passed : (x : Item) (to : ℕ) (a b : CursorState) (found : Bool) → IsLeadingItem (ahead a) null 1
    → IsEncodedAt x a.bytes a.place to → Passes to a b found → PassesNullAt x to a b found
null_passed x to a b true f l p = (sym (only_one x null a.bytes a.place to 1 l f).0, p)
null_passed x to a b false f l p = absurd (cc p.is_found)

pub not_null : (x : Item) (to : ℕ) (a : CursorState) → BeginsNull (ahead a) false → IsEncodedAt x a.bytes a.place to
    → x ≡ null → ⊥
not_null x to a none l e =
    none (to - a.place) (subst (λ (i : Item). IsLeadingItem (ahead a) i (to - a.place)) e (stands_front x a.bytes a.place to l))
