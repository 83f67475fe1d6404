-- Views of data items: at a cursor, and in bytes with more in front.
use Rattle.std.proofs.Common.{◌≡◌, ℕ, ◌+◌, ◌-◌, ◌<◌, ◌≤◌, List, ◌++◌, length, take, drop, Some, refl, sym, ap, subst, ◌∙◌, add_comm, zero-add, arith}
use Rattle.std.proofs.lemmas.List.{length-drop, drop-drop, length-take, take-append-drop}
use Rattle.std.proofs.Math.Seq.{take-length}
use Rattle.passkey_cbor.specs.Item.{Item}
use Rattle.passkey_cbor.specs.Languages.{Language}
use Rattle.passkey_cbor.specs.LeadingItem.{IsLeadingItem, max_depth}
use Rattle.passkey_cbor.specs.Inside.{Within, Inside}
use Rattle.passkey_cbor.proofs.items.EncodedFrom.{front_long, front_stands}
use Rattle.passkey_cbor.specs.HeadEncoding.{IsEncodingOfHead}
use Rattle.passkey_cbor.specs.CursorState.{CursorState, ahead, MovesForward}
use Rattle.passkey_cbor.specs.Skipped.{PassesLeadingItem}
use Rattle.passkey_cbor.specs.Found.{PassesHead}
use Rattle.passkey_cbor.specs.EncodedAt.{Lies, IsEncodedAt, Opens}
use Rattle.passkey_cbor.specs.declared.head.Head.{Head}
use Rattle.passkey_view.specs.declared.item_view.ItemView.{ItemView}
use Rattle.passkey_view.specs.ItemView.{IsViewOf, moved}
use Rattle.passkey_view.specs.Member.{HasMember}

-- a cursor that skipped an item moved on
pub skipped_on : (a b : CursorState) → PassesLeadingItem a b → a.place < b.place
skipped_on a b p = omega (arith, p.place, front_long p.item (ahead a) p.len p.front)

-- ---- an item that was passed, and its head after the cursor went back

pub is_inside : (a b : CursorState) → MovesForward a b → a.place ≤ length a.bytes
is_inside a b w = omega (arith, w.forward, w.within, ap length w.same)

module _ (a s b c : CursorState) (h : Head) (p : PassesLeadingItem a s) (same_bytes : b.bytes ≡ a.bytes)
    (same_place : b.place ≡ a.place) (q : PassesHead b c h) (inside : a.place ≤ length a.bytes) where
  whole : IsEncodedAt p.item a.bytes a.place s.place
  whole = subst (IsEncodedAt p.item a.bytes a.place) (sym p.place)
      (front_stands p.item a.bytes a.place p.len p.front)

  again : IsEncodedAt p.item b.bytes b.place s.place
  again = rw (same_bytes, same_place) whole

  pub view_of : ((x : Item) (to : ℕ) → IsEncodedAt x b.bytes b.place to → Opens x to c (Some h))
      → IsViewOf p.item a.bytes a.place (record { head = h; from = a.place; content = c.place; end = s.place })
  view_of opens =
      let rest = opens p.item s.place again in
      let same : c.bytes ≡ a.bytes = q.bytes ∙ same_bytes in
      record {
        from_is = refl;
        whole = whole;
        headed = record {
          text = q.text;
          encoded = q.encoded;
          parts = rw (← same_place, ← same_bytes) (q.parts ∙ ap (λ (l : List ℕ). q.text ++ drop c.place l) q.bytes);
          forward = omega (arith, q.place, same_place);
          within = omega (arith, rest.forward, rest.within, ap length same);
        };
        rest = subst (λ (l : List ℕ). Lies (Inside h p.item) l c.place s.place) same rest;
      }

-- ---- bytes with more in front

-- the slice from an offset on
pub sliced : (bytes : List ℕ) (o : ℕ) → take (length bytes - o) (drop o bytes) ≡ drop o bytes
sliced bytes o = rw (← length-drop o bytes) (take-length (drop o bytes))

module _ (bytes : List ℕ) (o : ℕ) (inside : o ≤ length bytes) where
  pub further : (P : Language) (from to : ℕ) → Lies P (drop o bytes) from to → Lies P bytes (from + o) (to + o)
  further P from to l = record {
    text = l.text;
    encoded = l.encoded;
    parts = rw (add_comm from o, add_comm to o, ← drop-drop from o bytes, ← drop-drop to o bytes) l.parts;
    forward = omega (arith, l.forward);
    within = omega (arith, l.within, length-drop o bytes);
  }

  pub nearer : (P : Language) (to : ℕ) → Lies P bytes o to → Lies P (drop o bytes) 0 (to - o)
  nearer P to l = record {
    text = l.text;
    encoded = l.encoded;
    parts = l.parts ∙ ap (λ (r : List ℕ). l.text ++ r) (ap (λ (n : ℕ). drop n bytes) (omega (arith, l.forward))
        ∙ sym (drop-drop (to - o) o bytes));
    forward = omega arith;
    within = omega (arith, l.within, length-drop o bytes);
  }

  pub moved_from : (x : Item) (v : ItemView) (from : ℕ) → IsViewOf x (drop o bytes) from v
      → IsViewOf x bytes (from + o) (moved o v)
  moved_from x v from w = record {
    from_is = omega (arith, w.from_is);
    whole = further _ from v.end w.whole;
    headed = further _ from v.content w.headed;
    rest = further _ v.content v.end w.rest;
  }

  pub moved_view : (x : Item) (v : ItemView) → IsViewOf x (drop o bytes) 0 v → IsViewOf x bytes o (moved o v)
  moved_view x v w = subst (λ (n : ℕ). IsViewOf x bytes n (moved o v)) (zero-add o) (moved_from x v 0 w)

  pub moved_member : (key : Item) (v : ItemView) → HasMember key (drop o bytes) 0 v → HasMember key bytes o (moved o v)
  moved_member key v m =
      let f = m.is_first in
      record {
        members = m.members;
        container = moved o m.container;
        is_map = moved_view _ m.container m.is_map;
        is_first = record {
          before = f.before;
          following = f.following;
          value = f.value;
          key_at = f.key_at + o;
          whole = f.whole;
          first = f.first;
          earlier = further _ m.container.content f.key_at f.earlier;
          here = further _ f.key_at v.from f.here;
          value_is = moved_from f.value v v.from f.value_is;
        };
      }
