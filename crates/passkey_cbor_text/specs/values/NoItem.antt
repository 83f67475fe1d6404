-- Where in a JSON value, and why, it is no data item; and the results of calls that look for one.
use Rattle.std.specs.Prelude.{◌≡◌, ℕ, List, [], ◌∷◌, reverse, Option, Some, None, Result, Ok, Err}
use Rattle.passkey_cbor_text.specs.declared.values.no_item.ItemFault.{ItemFault}
use Rattle.passkey_cbor_text.specs.declared.values.no_item.ItemFault.TheVariants as fault
use Rattle.passkey_cbor_text.specs.declared.values.no_item.ItemReason.{ItemReason}
use Rattle.passkey_cbor_text.specs.declared.values.no_item.NoItem.{NoItem as CodeNoItem}

-- The indices of the elements and members that lead to what is no data item, from the outermost on, and why it is none.
pub record NoItem : Type 0 where
  pub path : List ℕ
  pub reason : ItemReason

abbrev pub Read : Type 0 → Type 0
Read A = Result A NoItem

abbrev pub here : ItemReason → NoItem
here reason = record { path = []; reason = reason }

abbrev pub under : ℕ → NoItem → NoItem
under n e = record { path = n ∷ e.path; reason = e.reason }

-- ---- results, put together

abbrev pub or_reason : {A : Type 0} → ItemReason → Option A → Read A
or_reason reason (Some x) = Ok x
or_reason reason None = Err (here reason)

-- the result for the element or the member at this index
abbrev pub at : {A : Type 0} → ℕ → Read A → Read A
at n (Ok x) = Ok x
at n (Err e) = Err (under n e)

abbrev pub then_with : {A B : Type 0} → (A → Read B) → Read A → Read B
then_with f (Ok x) = f x
then_with f (Err e) = Err e

abbrev pub read_map : {A B : Type 0} → (A → B) → Read A → Read B
read_map f (Ok x) = Ok (f x)
read_map f (Err e) = Err e

-- ---- results of the code

-- the code has the indices from the innermost on
abbrev pub no_item_of : CodeNoItem → NoItem
no_item_of e = record { path = reverse e.path.items; reason = e.reason }

-- there is no data item, for this reason
abbrev pub FailsHere : ItemReason → ItemFault → Type 0
FailsHere reason (fault.NoItem e) = no_item_of e ≡ here reason
FailsHere reason fault.OutOfMemory = ⊥

abbrev pub FailsAs : {A : Type 0} → Read A → ItemFault → Type 0
FailsAs wanted (fault.NoItem e) = wanted ≡ Err (no_item_of e)
FailsAs wanted fault.OutOfMemory = Unit {0}

-- What is wanted is returned, or why there is none. Memory may run out.
abbrev pub Reads : {A B : Type 0} → (A → B) → Read B → Result A ItemFault → Type 0
Reads view wanted (Ok x) = wanted ≡ Ok (view x)
Reads view wanted (Err e) = FailsAs wanted e

-- The second fault is the first one's, of what holds the element or the member at this index.
abbrev pub IsUnder : ℕ → ItemFault → ItemFault → Type 0
IsUnder n (fault.NoItem e) (fault.NoItem outer) = no_item_of outer ≡ under n (no_item_of e)
IsUnder n fault.OutOfMemory (fault.NoItem outer) = ⊥
IsUnder n e fault.OutOfMemory = Unit {0}
