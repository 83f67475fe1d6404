-- How many heads bytes have (RFC 8949, section 3).
use Rattle.std.specs.Prelude.{◌≡◌, ℕ, zero, suc, ◌-◌, ◌≤◌, List, ◌++◌, length, take, drop, nat_lt, if◌then◌else◌, Option, Some, None, unwrap_or}
use Rattle.passkey_cbor.specs.Languages.{Language, Then, Each}
use Rattle.passkey_cbor.specs.HeadEncoding.{IsEncodingOfHead}
use Rattle.passkey_cbor.specs.HeadReading.{◌>>=◌, Read, head_at}
use Rattle.passkey_cbor.specs.CursorState.{CursorState, ahead, raised}
use Rattle.passkey_cbor.specs.declared.head.Head.{Head}
use Rattle.passkey_cbor.specs.declared.head.Head.TheVariants as head

-- how many bytes of content follow this head before the next one: those of a string or a chunk of definite length
abbrev pub content_len : Head → ℕ
content_len (head.Unsigned n) = 0
content_len (head.Negative n) = 0
content_len (head.Bytes len) = unwrap_or len 0
content_len (head.Text len) = unwrap_or len 0
content_len (head.Array len) = 0
content_len (head.Map len) = 0
content_len (head.Tag n) = 0
content_len (head.Simple n) = 0
content_len (head.Float f) = 0
content_len head.Break = 0

-- a head, and the content of its string
abbrev pub WithContent : Head → Language
WithContent h = Then (IsEncodingOfHead h) (λ s. length s ≡ content_len h)

-- The bytes are n heads, each followed by the content of its string. The elements of a list, the chunks of a
-- string and a break have heads of their own.
pub record AreHeads (n : ℕ) (bytes : List ℕ) : Type 0 where
  pub heads : List Head
  pub number : length heads ≡ n
  pub encoded : Each WithContent heads bytes

-- one more head than in the bytes after its content; none if no head is there
abbrev pub one_more_head : (List ℕ → ℕ) → Read Head → ℕ
one_more_head others None = 0
one_more_head others (Some h) = suc (others (drop (content_len h.0) h.1))

-- the fuel bounds the number of heads
unfoldable pub heads_by : ℕ → List ℕ → ℕ
heads_by zero bytes = 0
heads_by (suc fuel) bytes = one_more_head (heads_by fuel) (head_at bytes)

-- how many heads the bytes have; each has at least one byte, so this fuel is enough
unfoldable pub heads_of : List ℕ → ℕ
heads_of bytes = heads_by (length bytes) bytes

-- how many heads the bytes from one offset to the other have
abbrev pub heads_between : List ℕ → ℕ → ℕ → ℕ
heads_between bytes from to = heads_of (take (to - from) (drop from bytes))

-- The cursor passed whole heads, each with the content of its string, and counted at least as many.
pub record CountsHeads (old new : CursorState) : Type 0 where
  pub number : ℕ
  pub text : List ℕ
  pub heads : AreHeads number text
  pub parts : ahead old ≡ text ++ ahead new
  pub counted : raised old.heads number ≤ new.heads

-- ---- by the bytes ahead, as the private calls of a cursor pass them

-- the bytes after n bytes of content; `None` if there are fewer
abbrev pub after_content : ℕ → List ℕ → Option (List ℕ)
after_content n bytes = if nat_lt (length bytes) n then None else Some (drop n bytes)

-- the bytes after n heads, each with its content; `None` if they aren't there
unfoldable pub after_heads : ℕ → List ℕ → Option (List ℕ)
after_heads zero bytes = Some bytes
after_heads (suc n) bytes = head_at bytes >>= λ h. after_content (content_len h.0) h.1 >>= after_heads n

-- The cursor passed this many bytes of content, and then heads, each with its content. It counted each of these
-- heads.
pub record Spans (content : ℕ) (old new : CursorState) : Type 0 where
  pub number : ℕ
  pub reads : (after_content content (ahead old) >>= after_heads number) ≡ Some (ahead new)
  pub counted : new.heads ≡ raised old.heads number
