-- The chunks of a string, one after the other.
use Rattle.std.proofs.Common.{◌≡◌, ◌∙◌, ℕ, ◌<◌, Bool, List, [], ◌∷◌, ◌++◌, length, Option, Some, None, refl, sym, ap, subst, append_assoc}
use Rattle.std.specs.List.{concat}
use Rattle.passkey_cbor.specs.Bytes.{IsBytes}
use Rattle.passkey_cbor.specs.Heads.{break}
use Rattle.passkey_cbor.specs.HeadEncoding.{IsEncodingOfHead}
use Rattle.passkey_cbor.specs.HeadReading.{head_at}
use Rattle.passkey_cbor.specs.Inside.{Content}
use Rattle.passkey_cbor.specs.Reading.{chunk_len, chunk, piece_at, string_at}
use Rattle.passkey_cbor.specs.declared.head.Head.{Head}
use Rattle.passkey_cbor.specs.declared.head.Head.TheVariants as head
use Rattle.passkey_cbor.proofs.skipping.After.{string_piece}
use Rattle.passkey_cbor.proofs.items.Binds.{bind_at}
use Rattle.passkey_cbor.proofs.heads.HeadAgain.{head_again}
use Rattle.passkey_cbor.proofs.heads.HeadTakes.{Took}
use Rattle.passkey_cbor.proofs.items.Lists.{Follows}
use Rattle.passkey_cbor.proofs.strings.Strings.{AChunk, follows_chunk, string_again}
use Rattle.passkey_malformed.specs.Stops.{Begins, StringLeads, Chunks, NoHead, NoPiece, NoChunkAfter, no_head, no_content, StopsInChunks}
use Rattle.passkey_malformed.specs.declared.why.Why.{Why}
use Rattle.passkey_malformed.specs.declared.why.Why.TheVariants as reason
use Rattle.passkey_malformed.proofs.Lists.{none_yet, one_more, one_long}

-- Whole chunks were passed.
pub record ChunksGo (is_text : Bool) (bytes here : List ℕ) : Type 0 where
  pub chunks : List (List ℕ)
  pub passed : Begins (Chunks is_text chunks) bytes here
  pub fits : IsBytes here

pub chunks_start : (is_text : Bool) (bytes : List ℕ) → IsBytes bytes → ChunksGo is_text bytes bytes
chunks_start is_text bytes fits = record { chunks = []; passed = none_yet (AChunk is_text) bytes; fits = fits }

module _ (is_text : Bool) (bytes here following : List ℕ) (h : Head) (go : ChunksGo is_text bytes here)
    (b : Begins (IsEncodingOfHead h) here following) where
  chunk_took : (n : ℕ) (next s : List ℕ) → chunk_len is_text h ≡ Some n
      → Begins (Content is_text (Some n) s) following next → Took (AChunk is_text s) here next
  chunk_took n next s len c =
      let at : head_at here ≡ Some (h, following) = ap head_at b.parts ∙ head_again h b.text following b.encoded in
      let piece : piece_at is_text n following ≡ Some (s, next) =
      sym (string_piece is_text (Some n) n following refl) ∙ ap (string_at is_text (Some n)) c.parts
      ∙ string_again is_text (Some n) s c.text next c.encoded in
      let all : Follows (AChunk is_text) (chunk is_text) = follows_chunk is_text in
      all.takes s here next go.fits
      (bind_at (head_at here) (h, following) (λ g. chunk is_text g.0 g.1) at
      ∙ bind_at (chunk_len is_text h) n (λ k. piece_at is_text k following) len ∙ piece)

  pub chunks_go : (n : ℕ) (next : List ℕ) → chunk_len is_text h ≡ Some n → StringLeads is_text (Some n) following next
      → ChunksGo is_text bytes next
  chunks_go n next len s =
      let t = chunk_took n next s.0 len s.1 in
      let one : Begins (AChunk is_text s.0) here next = record { text = t.text; encoded = t.encoded; parts = t.parts } in
      record {
        chunks = go.chunks ++ s.0 ∷ [];
        passed = one_more (AChunk is_text) go.chunks s.0 bytes here next go.passed one;
        fits = t.rest_fits;
      }

  pub chunk_long : (n : ℕ) (next : List ℕ) → chunk_len is_text h ≡ Some n → StringLeads is_text (Some n) following next
      → length next < length here
  chunk_long n next len s =
      let t = chunk_took n next s.0 len s.1 in
      one_long (AChunk is_text) (chunk is_text) (follows_chunk is_text) s.0 here next
      (record { text = t.text; encoded = t.encoded; parts = t.parts })

  pub chunks_end : h ≡ head.Break → StringLeads is_text None bytes following
  chunks_end is =
      let stop : b.text ≡ break ∷ [] = subst (λ (g : Head). IsEncodingOfHead g b.text) is b.encoded in (
        concat go.chunks,
        record {
          text = go.passed.text ++ b.text;
          encoded = record {
            front = go.passed.text;
            back = b.text;
            first = (go.chunks, (refl, go.passed.encoded));
            second = stop;
            whole = refl;
          };
          parts = go.passed.parts ∙ ap (λ (r : List ℕ). go.passed.text ++ r) b.parts
              ∙ sym (append_assoc go.passed.text b.text following);
        },
      )

  stopped : (h ≡ head.Break → ⊥) → (why : Why) (rest : List ℕ)
      → NoChunkAfter is_text (chunk_len is_text h) here following why rest → StopsInChunks is_text bytes why rest
  stopped other why rest n =
      record { chunks = go.chunks; here = here; passed = go.passed; stop = no_content h following other b n }

  pub chunk_cut : (h ≡ head.Break → ⊥) → (n : ℕ) (why : Why) (rest : List ℕ) → chunk_len is_text h ≡ Some n
      → NoPiece is_text n following why rest → StopsInChunks is_text bytes why rest
  chunk_cut other n why rest len p = stopped other why rest
      (subst (λ (o : Option ℕ). NoChunkAfter is_text o here following why rest) (sym len) p)

  pub no_chunk : (h ≡ head.Break → ⊥) → chunk_len is_text h ≡ None
      → StopsInChunks is_text bytes reason.BadChunk here
  no_chunk other len = stopped other reason.BadChunk here
      (subst (λ (o : Option ℕ). NoChunkAfter is_text o here following reason.BadChunk here) (sym len) (refl, refl))

pub no_chunk_head : (is_text : Bool) (bytes here : List ℕ) (why : Why) (rest : List ℕ) → ChunksGo is_text bytes here
    → NoHead here why rest → StopsInChunks is_text bytes why rest
no_chunk_head is_text bytes here why rest go n =
    record { chunks = go.chunks; here = here; passed = go.passed; stop = no_head n }
