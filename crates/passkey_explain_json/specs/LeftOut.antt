-- What the list of what a record leaves out of a JSON value says.
use Rattle.std.specs.Prelude.{◌≡◌, List, [], ◌∷◌, map, Some}
use Rattle.passkey_json.specs.Along.{IsOnce, IsRefusedAt, value_along}
use Rattle.passkey_json.specs.Dropped.{Drops, LeftOut, Told, dropped, told}
use Rattle.passkey_json.specs.Table.{PlainTable, table_shape}
use Rattle.passkey_json.specs.declared.dropped.DroppedValue.{DroppedValue}
use Rattle.serde_json.specs.Data.{Data}

-- The path leads to the value in the JSON value, and the blame's path from there to one because of which what is kept
-- there refuses the value, whatever else surrounds it.
pub record IsLeftOut (d : Data) (o : LeftOut) (v : Told) : Type 0 where
  pub leads : value_along o.path d ≡ Some o.value
  pub refused : IsRefusedAt o.kept.accepts o.value v.blame

abbrev pub EachLeftOut : Data → List LeftOut → List Told → Type 0
EachLeftOut d [] [] = Unit {0}
EachLeftOut d (o ∷ os) (v ∷ vs) = IsLeftOut d o v × EachLeftOut d os vs
EachLeftOut d _ _ = ⊥

-- These are the values that the record leaves out of the JSON value, and each is there and refused, if each object has
-- each name once.
pub record AreLeftOut {P : Type 0} (t : PlainTable P) (d : Data) (vs : List DroppedValue) : Type 0 where
  pub list : Drops (table_shape t) d vs
  pub left : IsOnce d → EachLeftOut d (dropped (table_shape t) d) (map told vs)
