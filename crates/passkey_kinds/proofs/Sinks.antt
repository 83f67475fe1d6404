-- What sinks hold after the members of a record: a counter, an encoder, and a list of members.
use Rattle.passkey_kinds.proofs.Common.{◌∙◌, pairs_len-pairs_of, pairs_len, Item, pairs_of, IsWritable, ArePairsWritable, shortest_head, written, pairs_written, Members, AllAccepted, append_member, encode_member, put_all, Place, record_tree, under, laid, ◌≡◌, ◌<◌, ◌+◌, ℕ, suc, arith, List, [], ◌∷◌, ◌++◌, length, Option, Some, None, refl, sym, append_assoc, ◌^◌, append-nil}
use Rattle.passkey_kinds.specs.Tree.{put_one}
use Rattle.passkey_kinds.proofs.Levels.{laid_has}

-- ---- two lists of places, one after the other, in any sink

pub accepted_both : (Accepts : Item → Type 0) (ps qs : List Place) → AllAccepted Accepts ps → AllAccepted Accepts qs
    → AllAccepted Accepts (ps ++ qs)
accepted_both Accepts [] qs h k = k
accepted_both Accepts (p ∷ ps) qs h k = (h.0, accepted_both Accepts ps qs h.1 k)

-- ---- what a sink holds after the members that the places are laid out as

module _ {S : Type 0} (step : Item → Item → S → S) (after : S → Members → S) (none : (s : S) → after s [] ≡ s)
    (more : (s : S) (key x : Item) (ms : Members) → after (step key x s) ms ≡ after s ((key, x) ∷ ms)) where
  after_one : (s : S) (key : Item) (o : Option Item) (ms : Members)
      → after (put_one step s key o) ms ≡ after s (under key o ++ ms)
  unfolding put_one
  after_one s key None ms = refl
  after_one s key (Some x) ms = more s key x ms

  after_all : (s : S) (ps : List Place) → put_all step s ps ≡ after s (laid ps)
  after_all s [] = sym (none s)
  after_all s (p ∷ ps) = after_all (put_one step s p.0 p.1) ps ∙ after_one s p.0 p.1 (laid ps)

-- a list of members, a counter, and an encoder
pub appended_all : (ms : Members) (ps : List Place) → put_all append_member ms ps ≡ ms ++ laid ps
appended_all =
    after_all append_member (λ ms rest. ms ++ rest) append-nil (λ ms key x rest. append_assoc ms ((key, x) ∷ []) rest)

abbrev pub count_one : Item → Item → ℕ → ℕ
count_one key x n = suc n

counted_all : (n : ℕ) (ps : List Place) → put_all count_one n ps ≡ n + length (laid ps)
counted_all = after_all count_one (λ n ms. n + length ms) (λ n. omega arith) (λ n key x ms. omega arith)

encoded_all : (bytes : List ℕ) (ps : List Place)
    → put_all encode_member bytes ps ≡ bytes ++ pairs_written (pairs_of (laid ps))
encoded_all = after_all encode_member (λ s ms. s ++ pairs_written (pairs_of ms)) append-nil
    (λ s key x ms. grind (arith, append_assoc))

accepted_all : (ps : List Place) → AllAccepted IsWritable ps → ArePairsWritable (pairs_of (laid ps))
accepted_all = laid_has IsWritable (λ ms. ArePairsWritable (pairs_of ms)) (λ key x ms k v rest. ((k, v), rest)) tt

-- ---- a record, encoded as a head with the number of its members, and the members

members_len : (ps : List Place) → put_all count_one 0 ps ≡ pairs_len (pairs_of (laid ps))
members_len ps = omega (arith, counted_all 0 ps, pairs_len-pairs_of (laid ps))

pub record_written : (ps : List Place) (n : ℕ) (old following new : List ℕ) → n ≡ put_all count_one 0 ps
    → following ≡ old ++ shortest_head 5 n → new ≡ put_all encode_member following ps
    → new ≡ old ++ written (record_tree ps)
record_written ps n old following new count head put = grind (arith, encoded_all, append_assoc, members_len)

pub record_writable : (ps : List Place) (n : ℕ) → n ≡ put_all count_one 0 ps → n < 2 ^ 64
    → AllAccepted IsWritable ps → IsWritable (record_tree ps)
record_writable ps n count fits accepted = grind (arith, members_len, accepted_all)
