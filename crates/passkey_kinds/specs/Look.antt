-- Looking at a type: what a part of it is decoded from, and whether it accepts a data item.
use Rattle.std.specs.Prelude.{◌≡◌, ℕ, Bool, true, false, List, [], ◌∷◌, map, Option, Some, None, Result, Ok, Err, IfOk, IfSome}
use Rattle.std.specs.Option.{option_and_then}
use Rattle.std.proofs.Common.{subst, sym}
use Rattle.passkey_kinds.specs.Base.{Item}
use Rattle.passkey_kinds.specs.Kind.{Typed, accepts}
use Rattle.passkey_kinds.specs.RecordReading.{entry_of}
use Rattle.passkey_kinds.specs.Shape.{Shape, leaf, list, record_of, Tested, entries_in, reached, part_of, kept_by}
use Rattle.passkey_kinds.specs.declared.fault.Refusal.{Refusal}
use Rattle.passkey_kinds.specs.declared.fault.Refusal.TheVariants.{Refused, OutOfMemory}
use Rattle.passkey_kinds.specs.declared.look.Form.{Form}
use Rattle.passkey_kinds.specs.declared.look.Look.{Look}
use Rattle.passkey_memory.specs.declared.OutOfMemory.{OutOfMemory as NoMemory}
use Rattle.passkey_kinds.specs.Shape as shape
use Rattle.passkey_kinds.specs.declared.look.Form.TheVariants as form

abbrev pub tested : {M : Type 0} → Typed M → Tested
tested k = record { accepts = accepts k; shape = k.shape }

-- the code's form is that of the shape
abbrev pub HasForm : Shape → Form → Type 0
HasForm (leaf w) (form.Leaf v) = v ≡ w
HasForm (list a s) form.List = Unit {0}
HasForm (shape.map a s) form.Map = Unit {0}
HasForm (record_of is_numbered rows) (form.Record b rs) =
    (b ≡ is_numbered) × (map entry_of rs.now ≡ entries_in rows)
HasForm (shape.tolerant a s) f = HasForm s f
HasForm _ _ = ⊥

pub record LooksAs (t : Tested) (i : Item) (look : Look) : Type 0 where
  pub accepted : look.is_accepted ≡ t.accepts i
  pub form : HasForm t.shape look.form
  pub kept : look.is_kept ≡ kept_by t.shape i

-- Looking at a part, if there is one, with a data item.
abbrev pub Looks : Option Tested → Item → Result Look NoMemory → Type 0
Looks (Some t) i result = IfOk result (LooksAs t i)
Looks None i result = Unit {0}

-- The same at the type that was decoded from the item, where it isn't said whether it accepts the item.
abbrev pub FoundAs : List ℕ → Shape → Item → Result Look NoMemory → Type 0
FoundAs [] s i result = IfOk result (λ l. HasForm s l.form × (l.is_kept ≡ kept_by s i))
FoundAs (n ∷ ns) s i result = Looks (option_and_then (reached ns) (part_of n s)) i result

-- nothing is said where nothing is there
pub says_nothing : {X : Type 0} (Holds : X → Type 0) {o : Option X} → o ≡ None → IfSome o Holds
says_nothing {X} Holds none = subst (λ (o : Option X). IfSome o Holds) (sym none) tt

-- whether the item was accepted
abbrev pub AcceptedIf : {A : Type 0} → Result A Refusal → Bool → Type 0
AcceptedIf (Ok x) b = b ≡ true
AcceptedIf (Err Refused) b = b ≡ false
AcceptedIf (Err OutOfMemory) b = ⊥
