-- Kinds with their costs.
use Rattle.std.specs.Prelude.{ℕ, suc, max, true, false, List, Option}
use Rattle.passkey_kinds.specs.Base.{ByteMap}
use Rattle.passkey_kinds.specs.Kind.{Keeping, nothing, in_elements, in_members, unless_null, if_accepted, Kind, Typed, accepts}
use Rattle.passkey_kinds.specs.Shape.{Shape, leaf}
use Rattle.passkey_kinds.specs.declared.wanted.Wanted.{Wanted}
use Rattle.passkey_kinds.specs.Kind as kind
use Rattle.passkey_kinds.specs.Shape as shape
use Rattle.passkey_kinds.specs.declared.wanted.Wanted.TheVariants as wanted

-- an array whose elements are of this kind
abbrev pub list_shape : {M : Type 0} → Typed M → Shape
list_shape k = shape.list (accepts k) k.shape

-- a map from byte strings whose values are of this kind
abbrev pub map_shape : {M : Type 0} → Typed M → Shape
map_shape k = shape.map (accepts k) k.shape

-- any item, of which those are kept that the kind accepts
abbrev pub tolerant_shape : {M : Type 0} → Typed M → Shape
tolerant_shape k = shape.tolerant (accepts k) k.shape

-- a kind whose values take no memory, at the cost of this many heads for each byte, and what it wants
abbrev pub fixed : {M : Type 0} → ℕ → Wanted → Kind M → Typed M
fixed cost w k = record { of = k; takes = false; cost = cost; keeps = nothing; shape = leaf w }

-- a kind whose values may take memory, and what it wants
abbrev pub growing : {M : Type 0} → ℕ → Keeping → Wanted → Kind M → Typed M
growing cost keeps w k = record { of = k; takes = true; cost = cost; keeps = keeps; shape = leaf w }

abbrev pub below : ℕ → Typed ℕ
below limit = fixed 1 (wanted.Below limit) (kind.number_from limit)

abbrev pub size : Typed ℕ
size = fixed 1 wanted.Size kind.size_from

abbrev pub one_named : {T : Type 0} → (List ℕ → Option T) → Typed T
one_named named = fixed 2 wanted.Name (kind.name_from named)

-- text strings with a meaning
abbrev pub text_as : {M : Type 0} → Kind M → Typed M
text_as k = growing 2 nothing wanted.Text k

-- the value, or `None` for null; looking for null costs one head, and so does null
abbrev pub optional : {M : Type 0} → Typed M → Typed (Option M)
optional k = record {
  of = kind.optional_from k.of;
  takes = k.takes;
  cost = suc (max 1 k.cost);
  keeps = unless_null k.keeps;
  shape = k.shape;
}

-- the value, or `None` if the kind refuses the item, which costs one more pass over it
abbrev pub tolerated : {M : Type 0} → Typed M → Typed (Option M)
tolerated k = record {
  of = kind.tolerated_from k.of;
  takes = k.takes;
  cost = suc k.cost;
  keeps = if_accepted k.of k.keeps;
  shape = tolerant_shape k;
}

-- the value, or this default if the kind refuses the item
abbrev pub or_else : {M : Type 0} → M → Typed M → Typed M
or_else default k = record k {
  of = kind.or_else_from default k.of;
  cost = suc k.cost;
  keeps = if_accepted k.of k.keeps;
  shape = tolerant_shape k;
}

abbrev pub list : {M : Type 0} → Typed M → Typed (List M)
list k = record {
  of = kind.list_from k.of;
  takes = true;
  cost = suc k.cost;
  keeps = in_elements k.keeps;
  shape = list_shape k;
}

-- an array whose elements are tolerated
abbrev pub accepted : {M : Type 0} → Typed M → Typed (List M)
accepted k = record {
  of = kind.accepted_from k.of;
  takes = true;
  cost = suc (suc k.cost);
  keeps = in_elements (if_accepted k.of k.keeps);
  shape = list_shape (tolerated k);
}

abbrev pub map_from_bytes : {M : Type 0} → Typed M → Typed (ByteMap M)
map_from_bytes k = record {
  of = kind.byte_map_from k.of;
  takes = true;
  cost = suc (max 3 k.cost);
  keeps = in_members k.keeps;
  shape = map_shape k;
}
