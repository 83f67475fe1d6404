-- The members of a key, encoded one after the other.
use Rattle.std.proofs.Common.{◌≡◌, ℕ, ◌+◌, ◌<◌, ◌≤◌, ◌^◌, List, [], ◌∷◌, ◌++◌, length, map, take, get_or, refl, sym, ap, subst, ◌∙◌, append_assoc, length-append}
use Rattle.std.proofs.lemmas.List.{append-nil, map_more, take_all}
use Rattle.passkey_cbor.specs.Encoding.{pairs_len}
use Rattle.passkey_cbor.specs.Item.{Item, pairs_of}
use Rattle.passkey_cbor.specs.Written.{shortest_head, written, pairs_written}
use Rattle.passkey_cbor.specs.Writable.{IsWritable, ArePairsWritable}
use Rattle.passkey_cbor.proofs.items.Items.{pairs_len-pairs_of}
use Rattle.passkey_cose.specs.KeyLabels.{Members}
use Rattle.passkey_cose.specs.KeyParts.{KeyParts, key_members, key_item}
use Rattle.passkey_cose.specs.KeyWritten.{Appended}

written_both : (ms ns : Members) → pairs_written (pairs_of (ms ++ ns)) ≡ pairs_written (pairs_of ms)
    ++ pairs_written (pairs_of ns)
written_both [] ns = refl
written_both (m ∷ ms) ns = ap (λ (s : List ℕ). (written m.0 ++ written m.1) ++ s) (written_both ms ns)
    ∙ sym (append_assoc (written m.0 ++ written m.1) (pairs_written (pairs_of ms)) (pairs_written (pairs_of ns)))

writable_both : (ms ns : Members) → ArePairsWritable (pairs_of ms) → ArePairsWritable (pairs_of ns)
    → ArePairsWritable (pairs_of (ms ++ ns))
writable_both [] ns h k = k
writable_both (m ∷ ms) ns h k = (h.0, writable_both ms ns h.1 k)

appended_then : (ms ns : Members) (a b c : List ℕ) → Appended ms a b → Appended ns b c → Appended (ms ++ ns) a c
appended_then ms ns a b c h k = record {
  bytes = k.bytes ∙ ap (λ (s : List ℕ). s ++ pairs_written (pairs_of ns)) h.bytes
      ∙ append_assoc a (pairs_written (pairs_of ms)) (pairs_written (pairs_of ns))
      ∙ ap (λ (s : List ℕ). a ++ s) (sym (written_both ms ns));
  writable = writable_both ms ns h.writable k.writable;
}

-- one member more
appended_one : (ms : Members) (m : Item × Item) (a b c d : List ℕ) → Appended ms a b → c ≡ b ++ written m.0
    → d ≡ c ++ written m.1 → IsWritable m.0 → IsWritable m.1 → Appended (ms ++ m ∷ []) a d
appended_one ms m a b c d h key value k v =
    let one : Appended (m ∷ []) b d = record {
      bytes = value ∙ ap (λ (s : List ℕ). s ++ written m.1) key ∙ append_assoc b (written m.0) (written m.1)
          ∙ ap (λ (s : List ℕ). b ++ s) (sym (append-nil (written m.0 ++ written m.1)));
      writable = ((k, v), tt);
    } in appended_then ms (m ∷ []) a b d h one

-- the same in a loop over what represents members
pub appended_turn : {X : Type 0} (view : X → Item × Item) (xs : List X) (i : ℕ) (x : X) (a b c d : List ℕ) → i < length xs
    → x ≡ get_or xs i x → Appended (map view (take i xs)) a b → c ≡ b ++ written (view x).0
    → d ≡ c ++ written (view x).1 → IsWritable (view x).0 → IsWritable (view x).1
    → Appended (map view (take (i + 1) xs)) a d
appended_turn {X = X} view xs i x a b c d lt is h key value k v =
    let done = map view (take i xs) in
    let more : map view (take (i + 1) xs) ≡ done ++ view x ∷ [] =
    map_more view xs i x lt ∙ ap (λ (y : X). done ++ view y ∷ []) (sym is) in
    subst (λ (ms : Members). Appended ms a d) (sym more) (appended_one done (view x) a b c d h key value k v)

pub appended_all : {X : Type 0} (view : X → Item × Item) (xs : List X) (i : ℕ) (a b : List ℕ) → length xs ≤ i
    → Appended (map view (take i xs)) a b → Appended (map view xs) a b
appended_all {X = X} view xs i a b le h = subst (λ (ys : List X). Appended (map view ys) a b) (take_all i xs le) h

-- how many members the head of a key's map tells
members_len : (k : KeyParts) (common : Members) (n : ℕ) → common ++ k.params ≡ key_members k
    → n ≡ length common + length k.params → n ≡ pairs_len (pairs_of (key_members k))
members_len k common n all count =
    count ∙ sym (length-append common k.params) ∙ ap length all ∙ pairs_len-pairs_of (key_members k)

-- the head of a map, the members under the common labels, and the others
pub key_written : (k : KeyParts) (common : Members) (n : ℕ) (a b c d : List ℕ)
    → common ++ k.params ≡ key_members k → n ≡ length common + length k.params → b ≡ a ++ shortest_head 5 n
    → Appended common b c → Appended k.params c d → d ≡ a ++ written (key_item k)
key_written k common n a b c d all count head h p =
    let both = appended_then common k.params b c d h p in
    let ms = pairs_written (pairs_of (key_members k)) in
    both.bytes ∙ ap (λ (ms : Members). b ++ pairs_written (pairs_of ms)) all
    ∙ ap (λ (s : List ℕ). s ++ ms) head ∙ append_assoc a (shortest_head 5 n) ms
    ∙ ap (λ (i : ℕ). a ++ (shortest_head 5 i ++ ms)) (members_len k common n all count)

pub key_writable : (k : KeyParts) (common : Members) (n : ℕ) (b c d : List ℕ)
    → common ++ k.params ≡ key_members k → n ≡ length common + length k.params → n < 2 ^ 64
    → Appended common b c → Appended k.params c d → IsWritable (key_item k)
key_writable k common n b c d all count fits h p = (
  subst (λ (i : ℕ). i < 2 ^ 64) (members_len k common n all count) fits,
  subst (λ (ms : Members). ArePairsWritable (pairs_of ms)) all (appended_then common k.params b c d h p).writable,
)
