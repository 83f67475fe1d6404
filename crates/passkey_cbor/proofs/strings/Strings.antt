-- Strings, in one piece or in chunks: their encodings decode to them, and bytes that decode to them encode
-- them.
use Rattle.std.proofs.Common.{◌≡◌, ℕ, suc, Bool, true, false, cond, List, ◌++◌, length, Option, Some, None, refl, sym, ap, subst, ◌∙◌, append_assoc, inl, inr}
use Rattle.std.specs.List.{concat}
use Rattle.std.proofs.lemmas.Str.{IsUtf8-from_is_utf8, is_utf8-from_IsUtf8}
use Rattle.passkey_cbor.specs.Bytes.{IsBytes}
use Rattle.passkey_cbor.specs.Languages.{Language, Then}
use Rattle.passkey_cbor.specs.Heads.{Heads}
use Rattle.passkey_cbor.specs.Encoding.{Definite, Strings}
use Rattle.passkey_cbor.specs.HeadEncoding.{LengthHeads, IsEncodingOfHead}
use Rattle.passkey_cbor.specs.Inside.{IsAllowed, major_type, Content}
use Rattle.passkey_cbor.specs.HeadReading.{take_at as taken_at, head_at}
use Rattle.passkey_cbor.specs.Reading.{Reader, start, is_break, list_at, is_allowed, piece_at, chunk_len, chunk, string_at}
use Rattle.passkey_cbor.specs.Lent.{string_head}
use Rattle.passkey_cbor.specs.declared.head.Head.{Head}
use Rattle.passkey_cbor.specs.declared.head.Head.TheVariants as head
use Rattle.passkey_cbor.proofs.items.Binds.{some_is, none_is_some, bind_some, bind_at}
use Rattle.passkey_cbor.proofs.heads.Numbers.{taken_again, taken_is}
use Rattle.passkey_cbor.proofs.heads.HeadAgain.{head_again}
use Rattle.passkey_cbor.proofs.heads.HeadTakes.{Took, took_as, head_takes}
use Rattle.passkey_cbor.proofs.items.Lists.{Follows, list_at_again, list_takes}

-- ---- a reading that begins with a head

pub starts : {A : Type 0} (read : Reader A) (h : Head) (front rest t u : List ℕ) → IsEncodingOfHead h front
    → t ≡ front ++ rest → start read (t ++ u) ≡ read h (rest ++ u)
starts read h front rest t u s e =
    let regroup : t ++ u ≡ front ++ (rest ++ u) = ap (λ (r : List ℕ). r ++ u) e ∙ append_assoc front rest u in
    ap (start read) regroup ∙ bind_at (head_at (front ++ (rest ++ u))) (h, rest ++ u) (λ h. read h.0 h.1)
    (head_again h front (rest ++ u) s)

-- a head was taken, and then what follows it
pub took_after : (P Q : Language) (bytes r u : List ℕ) → Took P bytes r → Took Q r u → Took (Then P Q) bytes u
took_after P Q bytes r u one two = record {
  text = one.text ++ two.text;
  encoded = record { front = one.text; back = two.text; first = one.encoded; second = two.encoded; whole = refl };
  parts = one.parts ∙ ap (λ (s : List ℕ). one.text ++ s) two.parts ∙ sym (append_assoc one.text two.text u);
  rest_fits = two.rest_fits;
}

-- ---- a piece

pub is_allowed-is : (is_text : Bool) (s : List ℕ) → IsAllowed is_text s → is_allowed is_text s ≡ true
is_allowed-is false s h = refl
is_allowed-is true s h = is_utf8-from_IsUtf8 s h

is-is_allowed : (is_text : Bool) (s : List ℕ) → is_allowed is_text s ≡ true → IsAllowed is_text s
is-is_allowed false s e = tt
is-is_allowed true s e = IsUtf8-from_is_utf8 s e

pub piece_again : (is_text : Bool) (s u : List ℕ) → IsAllowed is_text s
    → piece_at is_text (length s) (s ++ u) ≡ Some (s, u)
unfolding piece_at
piece_again is_text s u h = rw (taken_again s u, is_allowed-is is_text s h) refl

pub piece_takes : (is_text : Bool) (n : ℕ) (bytes s u : List ℕ) → IsBytes bytes
    → piece_at is_text n bytes ≡ Some (s, u) → Took (Content is_text (Some n) s) bytes u
unfolding piece_at
piece_takes is_text n bytes s u fits e =
    let b = bind_some (taken_at n bytes) (λ t. cond (is_allowed is_text t.0) (Some t) None) (s, u) e in
    by_test b.0 (is_allowed is_text b.0.0) refl b.1 b.2 where
      by_test : (t : List ℕ × List ℕ) (allowed_text : Bool) → is_allowed is_text t.0 ≡ allowed_text → taken_at n bytes ≡ Some t
          → cond allowed_text (Some t) None ≡ Some (s, u) → Took (Content is_text (Some n) s) bytes u
      by_test t false is f g = absurd (none_is_some (s, u) g)
      by_test t true is f g =
          let p = some_is t (s, u) g in
          let k = taken_is n bytes s u fits (f ∙ g) in
          record {
            text = s;
            encoded = (
              (
                sym k.long,
                is-is_allowed is_text s (ap (λ (q : List ℕ × List ℕ). is_allowed is_text q.0) (sym p) ∙ is),
              ),
              refl,
            );
            parts = k.parts;
            rest_fits = k.rest_fits;
          }

-- ---- chunks

chunk_len-again : (is_text : Bool) (n : ℕ) → chunk_len is_text (string_head is_text (Some n)) ≡ Some n
chunk_len-again false n = refl
chunk_len-again true n = refl

chunk_len-is : (is_text : Bool) (h : Head) (n : ℕ) → chunk_len is_text h ≡ Some n → h ≡ string_head is_text (Some n)
chunk_len-is false (head.Bytes len) n e = ap head.Bytes e
chunk_len-is true (head.Bytes len) n e = absurd (none_is_some n e)
chunk_len-is false (head.Text len) n e = absurd (none_is_some n e)
chunk_len-is true (head.Text len) n e = ap head.Text e
chunk_len-is is_text (head.Unsigned m) n e = absurd (none_is_some n e)
chunk_len-is is_text (head.Negative m) n e = absurd (none_is_some n e)
chunk_len-is is_text (head.Array len) n e = absurd (none_is_some n e)
chunk_len-is is_text (head.Map len) n e = absurd (none_is_some n e)
chunk_len-is is_text (head.Tag m) n e = absurd (none_is_some n e)
chunk_len-is is_text (head.Simple m) n e = absurd (none_is_some n e)
chunk_len-is is_text (head.Float f) n e = absurd (none_is_some n e)
chunk_len-is is_text head.Break n e = absurd (none_is_some n e)

no_break_head : (is_text : Bool) (len : Option ℕ) → is_break (string_head is_text len) ≡ false
no_break_head false len = refl
no_break_head true len = refl

pub encodes_string_head : (is_text : Bool) (len : Option ℕ) (t : List ℕ) → LengthHeads (major_type is_text) len t
    → IsEncodingOfHead (string_head is_text len) t
encodes_string_head false len t s = s
encodes_string_head true len t s = s

pub string_head_encodes : (is_text : Bool) (len : Option ℕ) (t : List ℕ)
    → IsEncodingOfHead (string_head is_text len) t → LengthHeads (major_type is_text) len t
string_head_encodes false len t s = s
string_head_encodes true len t s = s

abbrev pub AChunk : Bool → List ℕ → Language
AChunk is_text = Definite (IsAllowed is_text) (major_type is_text)

chunk_again : (is_text : Bool) (s t u : List ℕ) → AChunk is_text s t → start (chunk is_text) (t ++ u) ≡ Some (s, u)
chunk_again is_text s t u d =
    let p = d.1 in
    let h = string_head is_text (Some (length s)) in
    starts (chunk is_text) h p.front s t u (encodes_string_head is_text (Some (length s)) p.front p.first)
    (p.whole ∙ ap (λ (r : List ℕ). p.front ++ r) p.second)
    ∙ bind_at (chunk_len is_text h) (length s) (λ n. piece_at is_text n (s ++ u))
    (chunk_len-again is_text (length s))
    ∙ piece_again is_text s u d.0

-- the head and the length of a chunk that was decoded
record ChunkHead (is_text : Bool) (h : Head) (r s u : List ℕ) : Type 0 where
  len : ℕ
  head_is : h ≡ string_head is_text (Some len)
  content : piece_at is_text len r ≡ Some (s, u)

chunk_head : (is_text : Bool) (h : Head) (r s u : List ℕ) → chunk is_text h r ≡ Some (s, u)
    → ChunkHead is_text h r s u
chunk_head is_text h r s u e =
    let n = bind_some (chunk_len is_text h) (λ n. piece_at is_text n r) (s, u) e in
    record { len = n.0; head_is = chunk_len-is is_text h n.0 n.1; content = n.2 }

-- a chunk is its head and what follows it
chunk_encoded : (is_text : Bool) (n : ℕ) (s t : List ℕ)
    → Then (IsEncodingOfHead (string_head is_text (Some n))) (Content is_text (Some n) s) t → AChunk is_text s t
chunk_encoded is_text n s t p = (
  p.second.0.1,
  record {
    front = p.front;
    back = p.back;
    first = subst (λ (k : ℕ). Heads (major_type is_text) k p.front) p.second.0.0
        (string_head_encodes is_text (Some n) p.front p.first);
    second = p.second.1;
    whole = p.whole;
  },
)

chunk_takes : (is_text : Bool) (s bytes u : List ℕ) → IsBytes bytes → start (chunk is_text) bytes ≡ Some (s, u)
    → Took (AChunk is_text s) bytes u
chunk_takes is_text s bytes u fits e =
    let b = bind_some (head_at bytes) (λ h. chunk is_text h.0 h.1) (s, u) e in
    let c = chunk_head is_text b.0.0 b.0.1 s u b.2 in
    let h = head_takes bytes (string_head is_text (Some c.len)) b.0.1 fits
    (b.1 ∙ ap (λ (k : Head). Some (k, b.0.1)) c.head_is) in
    let both = took_after _ _ bytes b.0.1 u h (piece_takes is_text c.len b.0.1 s u h.rest_fits c.content) in
    took_as _ (AChunk is_text s) bytes u both (chunk_encoded is_text c.len s both.text both.encoded)

pub follows_chunk : (is_text : Bool) → Follows (AChunk is_text) (chunk is_text)
follows_chunk is_text = record {
  again = chunk_again is_text;
  takes = chunk_takes is_text;
  no_break = λ h r y e. ap is_break (chunk_head is_text h r y.0 y.1 e).head_is ∙ no_break_head is_text _;
}

-- ---- a string after its head

pub string_again : (is_text : Bool) (len : Option ℕ) (s t u : List ℕ) → Content is_text len s t
    → string_at is_text len (t ++ u) ≡ Some (s, u)
unfolding string_at
string_again is_text (Some n) s t u c = rw (c.0.0, c.1) (piece_again is_text s u c.0.1)
string_again is_text None s t u c =
    let cs = c.first in
    bind_at (list_at (chunk is_text) None (t ++ u)) (cs.0, u) (λ cs. Some (concat cs.0, cs.1))
    (list_at_again (AChunk is_text) (chunk is_text) (follows_chunk is_text) None cs.0 t u
    (record { front = c.front; back = c.back; first = cs.1.1; second = c.second; whole = c.whole }))
    ∙ ap (λ (r : List ℕ). Some (r, u)) cs.1.0

pub string_takes : (is_text : Bool) (len : Option ℕ) (bytes s u : List ℕ) → IsBytes bytes
    → string_at is_text len bytes ≡ Some (s, u) → Took (Content is_text len s) bytes u
unfolding string_at
string_takes is_text (Some n) bytes s u fits e = piece_takes is_text n bytes s u fits e
string_takes is_text None bytes s u fits e =
    let cs = bind_some (list_at (chunk is_text) None bytes) (λ cs. Some (concat cs.0, cs.1)) (s, u) e in
    let p = some_is (concat cs.0.0, cs.0.1) (s, u) cs.2 in
    let t = list_takes (AChunk is_text) (chunk is_text) (follows_chunk is_text) (suc (length bytes)) None bytes
    cs.0.0 u fits (cs.1 ∙ ap (λ (q : List ℕ × List ℕ). Some (cs.0.0, q.1)) p) in
    took_as _ (Content is_text None s) bytes u t (record {
      front = t.encoded.front;
      back = t.encoded.back;
      first = (cs.0.0, (ap (λ (q : List ℕ × List ℕ). q.0) p, t.encoded.first));
      second = t.encoded.second;
      whole = t.encoded.whole;
    })

-- ---- both encodings of a string are a head and what follows it

pub record Headed (major : ℕ) (After : Option ℕ → Language) (t : List ℕ) : Type 0 where
  pub len : Option ℕ
  pub parts : Then (LengthHeads major len) (After len) t

pub string_headed : (is_text : Bool) (s t : List ℕ) → Strings (IsAllowed is_text) (major_type is_text) s t
    → Headed (major_type is_text) (λ len. Content is_text len s) t
string_headed is_text s t (inl d) =
    let p = d.1 in
    record {
      len = Some (length s);
      parts = record {
        front = p.front;
        back = p.back;
        first = p.first;
        second = ((refl, d.0), p.second);
        whole = p.whole;
      };
    }
string_headed is_text s t (inr p) = record { len = None; parts = p }

pub headed_string : (is_text : Bool) (s t : List ℕ) (len : Option ℕ) → Then (LengthHeads (major_type is_text) len)
    (Content is_text len s) t → Strings (IsAllowed is_text) (major_type is_text) s t
headed_string is_text s t (Some n) p =
    inl (
      p.second.0.1,
      record {
        front = p.front;
        back = p.back;
        first = subst (λ (k : ℕ). Heads (major_type is_text)
            k p.front) p.second.0.0 p.first;
        second = p.second.1;
        whole = p.whole;
      },
    )
headed_string is_text s t None p = inr p
