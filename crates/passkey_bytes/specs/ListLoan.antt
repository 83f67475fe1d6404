-- The effect on a `List` of borrowing its vector mutably.
use Rattle.std.specs.Prelude.{List}
use Rattle.std.specs.Borrow.{Fml, Lends, MutBor, RattleType}
use Rattle.std.specs.contracts.alloc.Global as global
use Rattle.std.specs.contracts.impls.GlobalAllocator.TheImpl.{ghosts}
use Rattle.std.specs.contracts.vec.Vec as vec
use Rattle.std.specs.declared.alloc.Global.{Global}
use Rattle.std.specs.declared.vec.Vec.{Vec}
use Rattle.passkey_bytes.specs.contracts.list.List.{the_row}

-- once the borrow ends, the list has the items that the vector was left with
abbrev pub LendsVec : (T : RattleType) → MutBor (List T.Denot) → MutBor (Vec T.Denot Global) → Fml
LendsVec T list lent = Lends (the_row T) (vec.the_row T global.the_row ghosts) list lent (λ left. left.items)
