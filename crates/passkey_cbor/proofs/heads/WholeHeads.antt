-- That a cursor passes whole heads, and counts at least as many, call after call.
use Rattle.std.proofs.Common.{◌≡◌, ◌∙◌, ℕ, ◌+◌, ◌≤◌, Bool, true, false, List, [], ◌∷◌, ◌++◌, take, drop, Option, Some, None, refl, sym, ap, append_assoc, arith, ◌⊎◌, inl, inr}
use Rattle.std.proofs.lemmas.Bool.{cases_eq, ne_eqb}
use Rattle.std.proofs.lemmas.List.{append-nil, drop-drop, take-append-drop}
use Rattle.passkey_cbor.specs.EncodedAt.{goes_on, Looks}
use Rattle.passkey_cbor.specs.Found.{PassesHead}
use Rattle.passkey_cbor.specs.HeadCount.{content_len, AreHeads, heads_of, CountsHeads}
use Rattle.passkey_cbor.specs.Heads.{break}
use Rattle.passkey_cbor.specs.Lent.{Region, PassesString}
use Rattle.passkey_cbor.specs.Skipped.{PassesLeadingItem}
use Rattle.passkey_cbor.specs.CursorState.{CursorState, ahead, raised}
use Rattle.passkey_cbor.specs.declared.head.Head.{Head}
use Rattle.passkey_cbor.specs.declared.head.Head.TheVariants as head
use Rattle.passkey_cbor.proofs.heads.HeadCounts.{are_heads_then}
use Rattle.passkey_cbor.proofs.heads.Raised.{raised_then}

pub no_heads : AreHeads 0 []
no_heads = record { heads = []; number = refl; encoded = refl }

pub counts_none : (a : CursorState) → CountsHeads a a
counts_none a = record { number = 0; text = []; heads = no_heads; parts = refl; counted = omega arith }

pub counts_then : (a b c : CursorState) → CountsHeads a b → CountsHeads b c → CountsHeads a c
counts_then a b c p q = record {
  number = p.number + q.number;
  text = p.text ++ q.text;
  heads = are_heads_then p.number q.number p.text q.text p.heads q.heads;
  parts = p.parts ∙ ap (λ (t : List ℕ). p.text ++ t) q.parts ∙ sym (append_assoc p.text q.text (ahead c));
  counted = raised_then a.heads b.heads c.heads p.number q.number p.counted q.counted;
}

-- the cursor doesn't move, and its count of heads doesn't decrease
pub counts_stay : (a b : CursorState) → b.bytes ≡ a.bytes → b.place ≡ a.place → a.heads ≤ b.heads → CountsHeads a b
counts_stay a b same at rises = record {
  number = 0;
  text = [];
  heads = no_heads;
  parts = ap (λ (n : ℕ). drop n a.bytes) (sym at) ∙ ap (drop b.place) (sym same);
  counted = rises;
}

-- what was passed from one offset on is whole heads
counts_from : (a b : CursorState) (len : ℕ) → b.place ≡ a.place + len → b.bytes ≡ a.bytes
    → AreHeads (heads_of (take len (ahead a))) (take len (ahead a))
    → raised a.heads (heads_of (take len (ahead a))) ≤ b.heads → CountsHeads a b
counts_from a b len at same heads counted = record {
  number = heads_of (take len (ahead a));
  text = take len (ahead a);
  heads = heads;
  parts = sym (take-append-drop len (ahead a)) ∙ ap (λ (t : List ℕ). take len (ahead a) ++ t)
      (drop-drop len a.place a.bytes ∙ ap (λ (n : ℕ). drop n a.bytes) (sym at) ∙ ap (drop b.place) (sym same));
  counted = counted;
}

pub counts_skip : (a b : CursorState) → PassesLeadingItem a b → CountsHeads a b
counts_skip a b p = counts_from a b p.len p.place p.bytes p.whole (omega (arith, p.counted))

pub counts_string : (is_text : Bool) (a b : CursorState) (r : Region) → PassesString is_text a b r → CountsHeads a b
counts_string is_text a b r p = counts_from a b p.len p.place p.bytes p.all_heads (omega (arith, p.counted))

-- a head that no content follows
pub counts_head : (a b : CursorState) (h : Head) → content_len h ≡ 0 → PassesHead a b h → CountsHeads a b
counts_head a b h none p = record {
  number = 1;
  text = p.text;
  heads = record {
    heads = h ∷ [];
    number = refl;
    encoded = record {
      front = p.text;
      back = [];
      first =
          record { front = p.text; back = []; first = p.encoded; second = sym none; whole = sym (append-nil p.text) };
      second = refl;
      whole = sym (append-nil p.text);
    };
  };
  parts = p.parts;
  counted = omega (arith, p.heads);
}

one_break : AreHeads 1 (break ∷ [])
one_break = record {
  heads = head.Break ∷ [];
  number = refl;
  encoded = record {
    front = break ∷ [];
    back = [];
    first = record { front = break ∷ []; back = []; first = refl; second = refl; whole = refl };
    second = refl;
    whole = refl;
  };
}

false_is_true : false ≡ true → ⊥
false_is_true e = cc

-- the break that ends a list
broken : (bytes : List ℕ) → false ≡ goes_on None bytes → (rest : List ℕ) × (bytes ≡ break ∷ rest)
broken [] e = absurd cc
broken (b ∷ bytes) e = by_test (cases_eq b break) where
  by_test : (b ≡ break) ⊎ (b ≡ break → ⊥) → (rest : List ℕ) × (b ∷ bytes ≡ break ∷ rest)
  by_test (inl is) = (bytes, ap (λ (n : ℕ). n ∷ bytes) is)
  by_test (inr other) = absurd (false_is_true (rw (ne_eqb b break other) at e))

ended : (a b : CursorState) → b.bytes ≡ a.bytes → b.place ≡ a.place + 1 → b.heads ≡ raised a.heads 1
    → (q : (rest : List ℕ) × (ahead a ≡ break ∷ rest)) → CountsHeads a b
ended a b same at one q = record {
  number = 1;
  text = break ∷ [];
  heads = one_break;
  parts = q.1 ∙ ap (λ (t : List ℕ). break ∷ t) (sym (ap (drop 1) q.1) ∙ drop-drop 1 a.place a.bytes
      ∙ ap (λ (n : ℕ). drop n a.bytes) (sym at) ∙ ap (drop b.place) (sym same));
  counted = omega (arith, one);
}

-- whether a list goes on; at its end the break is passed
pub counts_more : (before after : Option ℕ) (a b : CursorState) (found : Bool) → Looks before after a b found → a.heads ≤ b.heads
    → CountsHeads a b
counts_more before after a b true k rises = counts_stay a b k.bytes (k.stays refl) rises
counts_more (Some n) after a b false k rises = counts_stay a b k.bytes (omega (arith, k.passes refl)) rises
counts_more None after a b false k rises =
    ended a b k.bytes (omega (arith, k.passes refl)) k.heads (broken (ahead a) k.answer)
