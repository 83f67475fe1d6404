-- Lists of an object's members, in any order.
use Rattle.std.specs.Prelude.{ℕ, Bool, false, ◌||◌, List, if◌then◌else◌, Result, Ok, Err, true}
use Rattle.std.specs.Str.{bytes_eq}
use Rattle.passkey_json.specs.Fault.{Fault, float}
use Rattle.serde_json.specs.Data.{Data, Members, no_members, member}
use Rattle.serde_json.specs.Written.{members_have_float}

-- the members whose names pass the test
abbrev pub members_where : (List ℕ → Bool) → Members → Members
members_where test no_members = no_members
members_where test (member name d ms) =
    if test name then member name d (members_where test ms) else members_where test ms

-- whether there is a member
abbrev pub any_member : Members → Bool
any_member no_members = false
any_member (member name d ms) = true

-- these members, and then those
abbrev pub joined : Members → Members → Members
joined no_members ns = ns
joined (member name d ms) ns = member name d (joined ms ns)

-- whether a member has this name
abbrev pub has_name : List ℕ → Members → Bool
has_name name no_members = false
has_name name (member other d ms) = bytes_eq name other || has_name name ms

-- the members, if none of them contains a float
abbrev pub without_floats : List ℕ → Members → Result Members Fault
without_floats name ms = if members_have_float ms then Err (float name) else Ok ms

-- ---- for private clauses

-- the members with d under the name: it replaces the value of the member with this name, or is the
-- last member if there is none
abbrev pub added : List ℕ → Data → Members → Members
added name d no_members = member name d no_members
added name d (member other e ms) =
    if bytes_eq name other then member other d ms else member other e (added name d ms)
