-- Which data items are keys.
use Rattle.std.proofs.Common.{◌≡◌, ◌↔◌, ℕ, ℤ, pos, negsuc, Bool, true, false, List, Option, Some, None, IsTrue, refl, sym, ap, subst, ◌∙◌, arith}
use Rattle.std.proofs.lemmas.Bool.Decides.{nat_tests}
use Rattle.passkey_cbor.specs.Item.{Item, number, text_string}
use Rattle.passkey_cbor.specs.CursorState.{CursorState}
use Rattle.passkey_cbor.specs.Lent.{Region, IsNamed, HoldsString}
use Rattle.passkey_cbor.specs.Inside.{Inside}
use Rattle.passkey_cbor.specs.EncodedAt.{Opens}
use Rattle.passkey_cbor.specs.declared.head.Head.{Head}
use Rattle.passkey_cbor.specs.declared.head.Head.TheVariants as head
use Rattle.passkey_view.specs.Member.{IsHeadOfNumber}

number_inside : (h : Head) (x : Item) (z : ℤ) (t : List ℕ) → Inside h x t → IsHeadOfNumber z (Some h) ↔ (x ≡ number z)
number_inside (head.Unsigned n) x z t i = grind (arith, i.0)
number_inside (head.Negative n) x z t i = grind (arith, i.0)
number_inside (head.Simple n) x z t i = grind (arith, nat_tests, i.0)
number_inside _ x z t i = grind arith

-- a head is that of a number exactly if its data item is the number
pub is_number : (found : Option Head) (x : Item) (z : ℤ) (to : ℕ) (b : CursorState) → Opens x to b found
    → IsHeadOfNumber z found ↔ (x ≡ number z)
is_number None x z to b o = absurd o
is_number (Some h) x z to b o = number_inside h x z o.text o.encoded

-- a text string is named exactly if its data item is the name
pub is_name : (r : Region) (x : Item) (s name : List ℕ) (found : Bool) → x ≡ text_string s → HoldsString true r s
    → IsNamed true r name found → IsTrue found ↔ (x ≡ text_string name)
is_name r x s name found e t same = let n = same s t in grind (arith, e, n)

pub is_other : (x : Item) (name : List ℕ) → ((s : List ℕ) → x ≡ text_string s → ⊥)
    → IsTrue false ↔ (x ≡ text_string name)
is_other x name other = let n = other name in grind (arith, n)

pub and_then : {P Q R : Type 0} → P ↔ Q → Q ↔ R → P ↔ R
and_then p q = grind arith
