-- What one repair makes of a JSON value.
use denote.Bor.{Bor}
use Rattle.std.specs.Prelude.{ℕ, if◌then◌else◌, List, [], ◌∷◌, map, Option, Some, None}
use Rattle.std.specs.Option.{option_and_then}
use Rattle.std.specs.Str.{bytes_eq}
use Rattle.passkey_repair.specs.json.Changes.{Change, leave_out, become, change_for}
use Rattle.passkey_repair.specs.declared.json.changes.NewMember.{NewMember}
use Rattle.passkey_repair.specs.declared.json.changes.NewMember.TheVariants as new
use Rattle.passkey_repair.specs.declared.json.deviation.Deviation.{Deviation}
use Rattle.passkey_repair.specs.declared.json.repair.Repair.{Repair}
use Rattle.serde_json.specs.Data.{Data, object, Members, no_members, member, put}
use Rattle.serde_json.specs.Find.{get}
use Rattle.serde_json.specs.View.{view}

-- a deviation, the names of the objects around a member, from the outermost, and the member's name
pub record Edit : Type 0 where
  pub deviation : Deviation
  pub within : List (List ℕ)
  pub member : List ℕ

-- the members without the one with this name
abbrev pub without : List ℕ → Members → Members
without name no_members = no_members
without name (member n d ms) = if bytes_eq name n then ms else member n d (without name ms)

abbrev pub members_with_change : List ℕ → Change → Members → Members
members_with_change name leave_out ms = without name ms
members_with_change name (become d) ms = put name d ms

-- the object with its member changed; there is none if the value isn't an object
abbrev pub with_change : List ℕ → Change → Data → Option Data
with_change name change (object ms) = Some (object (members_with_change name change ms))
with_change name change _ = None

-- an object with the member repaired, if it has the deviation
abbrev pub edited_member : Deviation → List ℕ → Data → Option Data
edited_member deviation name d = option_and_then (λ change. with_change name change d) (change_for deviation name d)

-- a value with this edit made in the object that the names lead to
abbrev pub edited_within : (Data → Option Data) → List (List ℕ) → Data → Option Data
edited_within edit [] d = edit d
edited_within edit (name ∷ names) d =
    option_and_then (λ part. with_change name (become part) d) (option_and_then (edited_within edit names) (get name d))

-- the value with the edit made, if it fits
abbrev pub edited : Edit → Data → Option Data
edited e = edited_within (edited_member e.deviation e.member) e.within

-- ---- the code's types

abbrev pub change_of : NewMember → Change
change_of new.LeaveOut = leave_out
change_of (new.Become value) = become (view value)

abbrev pub texts_of : List (Bor (List ℕ)) → List (List ℕ)
texts_of names = map (λ (name : Bor (List ℕ)). name.now) names

abbrev pub edit_of : Repair → Edit
edit_of r = record { deviation = r.deviation; within = texts_of r.within.now; member = r.member.now }
