-- From a record's fault and what it blames to an explanation.
use Rattle.std.proofs.Common.{◌≡◌, ℕ, ◌+◌, true, List, map, Option, Some, None, is_some, Result, Err, refl, sym, subst}
use Rattle.std.specs.Option.{IsSome}
use Rattle.passkey_cbor.specs.Item.{Item}
use Rattle.passkey_cbor.specs.LeadingItem.{IsLeadingItem}
use Rattle.passkey_explain.specs.Along.{LiesAlong, IsLocated}
use Rattle.passkey_explain.specs.declared.along.Extent.{Extent}
use Rattle.passkey_explain.specs.Blame.{Step, Blame, item_along, step_of, blame_of}
use Rattle.passkey_explain.proofs.BlameLaws.{inside}
use Rattle.passkey_kinds.specs.RecordReading.{shape_of}
use Rattle.passkey_explain.specs.Blaming.{blamed}
use Rattle.passkey_kinds.specs.Record.{Fields, Reads}
use Rattle.passkey_explain.specs.declared.blame.Blame.{Blame as CodeBlame}
use Rattle.passkey_kinds.specs.declared.fault.Fault.{Fault}
use Rattle.passkey_kinds.specs.declared.fault.Fault.TheVariants as fault

pub reads_fault : {A M : Type 0} (view : A → M) (takes : Type 0) (wanted : Result M Fault) (f : Fault)
    → (f ≡ fault.OutOfMemory → ⊥) → Reads view takes wanted (Err f) → wanted ≡ Err f
reads_fault view takes wanted fault.OutOfMemory not h = absurd (not refl)
reads_fault view takes wanted fault.DecodeFailed not h = absurd h
reads_fault view takes wanted fault.NotAMap not h = h
reads_fault view takes wanted fault.BadKey not h = h
reads_fault view takes wanted (fault.Repeated n) not h = h
reads_fault view takes wanted (fault.Refused n) not h = h
reads_fault view takes wanted (fault.Missing n) not h = h

pub there : {X : Type 0} (o : Option X) → is_some o ≡ true → (x : X) × (o ≡ Some x)
there (Some x) e = (x, refl)
there None e = absurd cc

pub located : (path : List Step) (i : Item) (bytes : List ℕ) (found : Option Extent) → IsLocated path i bytes found
    → IsSome found
located path i bytes (Some e) h = refl
located path i bytes None h = absurd h

module _ {P : Type 0} (t : Fields P) (i : Item) (bytes : List ℕ) (len : ℕ) (front : IsLeadingItem bytes i len)
    (b : CodeBlame) (is : blame_of b ≡ blamed (shape_of t) i) (found : Option Extent)
    (locates : (x part : Item) (n : ℕ) → IsLeadingItem bytes x n → item_along (map step_of b.path.items) x ≡ Some part
    → IsLocated (map step_of b.path.items) x bytes found) where
  -- where the steps lead that the record blames
  pub blamed_there : IsLocated (map step_of b.path.items) i bytes found
  blamed_there =
      let inside : is_some (item_along (blame_of b).path i) ≡ true =
      subst (λ (x : Blame). is_some (item_along x.path i) ≡ true) (sym is) (inside (shape_of t) i) in
      let part = there (item_along (map step_of b.path.items) i) inside in
      locates i part.0 len front part.1

  pub lies_there : (e : Extent) → found ≡ Some e
      → LiesAlong (blamed (shape_of t) i).path i bytes 0 e.offset (e.offset + e.len)
  lies_there e some =
      let at : IsLocated (map step_of b.path.items) i bytes (Some e) =
      subst (IsLocated (map step_of b.path.items) i bytes) some blamed_there in
      subst (λ (x : Blame). LiesAlong x.path i bytes 0 e.offset (e.offset + e.len)) is at
