-- Views are alone at their places, and so are the parts of authenticator data.
use Rattle.std.proofs.Common.{◌≡◌, ℕ, ◌+◌, Bool, true, false, List, ◌++◌, drop, Option, Some, None, refl, sym, ap, subst, ◌∙◌, arith}
use Rattle.passkey_cbor.specs.Item.{Item}
use Rattle.passkey_cbor.specs.HeadReading.{head_at}
use Rattle.passkey_cbor.specs.HeadEncoding.{IsEncodingOfHead}
use Rattle.passkey_cbor.specs.EncodedAt.{Lies, IsEncodedAt}
use Rattle.passkey_cbor.specs.declared.head.Head.{Head}
use Rattle.passkey_cbor.proofs.items.Binds.{some_is}
use Rattle.passkey_cbor.proofs.items.EncodedFrom.{only_one, stands_front}
use Rattle.passkey_cbor.proofs.heads.HeadAgain.{head_again}
use Rattle.passkey_view.specs.declared.data_view.AttestedView.{AttestedView}
use Rattle.passkey_view.specs.declared.item_view.ItemView.{ItemView}
use Rattle.passkey_view.specs.DataView.{IsMapAt, IsAttestedAt, IsWhere, following}
use Rattle.passkey_view.specs.ItemView.{IsViewOf, HasItemAt}

head_there : (h : Head) (bytes : List ℕ) (from to : ℕ) → Lies (IsEncodingOfHead h) bytes from to
    → head_at (drop from bytes) ≡ Some (h, drop to bytes)
head_there h bytes from to l = ap head_at l.parts ∙ head_again h l.text (drop to bytes) l.encoded

-- the views of what is at one place have the same head, and the same end
module _ (bytes : List ℕ) (o : ℕ) (v w : ItemView) (p : HasItemAt bytes o v) (q : HasItemAt bytes o w) where
  pub same_head : v.head ≡ w.head
  same_head = ap (λ (r : Head × List ℕ). r.0) (some_is (v.head, drop v.content bytes) (w.head, drop w.content bytes)
      (sym (head_there v.head bytes o v.content p.1.headed) ∙ head_there w.head bytes o w.content q.1.headed))

  pub same_end : v.end ≡ w.end
  same_end =
      let one = only_one p.0 q.0 bytes o v.end _ p.1.whole (stands_front q.0 bytes o w.end q.1.whole) in
      omega (arith, one.1, p.1.whole.forward, q.1.whole.forward)

-- ---- parts whose flags are set

pub where_set : {A : Type 0} (P : A → Type 0) (b : Bool) → b ≡ true → ((x : A) → P x → ⊥) → (found : Option A)
    → IsWhere b P found → ⊥
where_set P true is none (Some x) w = none x w
where_set P true is none None w = w
where_set P false is none found w = absurd cc

same_parts : (bytes : List ℕ) (a b : AttestedView) → IsAttestedAt bytes a → IsAttestedAt bytes b
    → a.public_key.end ≡ b.public_key.end
same_parts bytes a b p q =
    let len : b.credential_id_len ≡ a.credential_id_len = q.id_len ∙ sym p.id_len in
    same_end bytes (55 + a.credential_id_len) a.public_key b.public_key p.key.here
    (subst (λ (n : ℕ). HasItemAt bytes (55 + n) b.public_key) len q.key.here)

pub same_after : (bytes : List ℕ) (b : Bool) (one other : Option AttestedView) → IsWhere b (IsAttestedAt bytes) one
    → IsWhere b (IsAttestedAt bytes) other → following one ≡ following other
same_after bytes true (Some a) (Some b) p q = same_parts bytes a b p q
same_after bytes true (Some a) None p q = absurd q
same_after bytes true None other p q = absurd p
same_after bytes false (Some a) other p q = absurd p
same_after bytes false None (Some b) p q = absurd q
same_after bytes false None None p q = refl
