-- The effect on a `Bytes` of borrowing its vector mutably.
use Rattle.std.specs.Prelude.{ℕ, List}
use Rattle.std.specs.Borrow.{Fml, Lends, MutBor, RattleType, u8}
use Rattle.std.specs.contracts.alloc.Global as global
use Rattle.std.specs.contracts.impls.GlobalAllocator.TheImpl.{ghosts}
use Rattle.std.specs.contracts.vec.Vec as vec
use Rattle.std.specs.declared.alloc.Global.{Global}
use Rattle.std.specs.declared.vec.Vec.{Vec}
use Rattle.passkey_bytes.specs.contracts.bytes.Bytes.{the_row}

-- the type `Vec<u8>` in the logic
abbrev pub byte_vec : RattleType
byte_vec = vec.the_row u8 global.the_row ghosts

-- once the borrow ends, the byte string has the items that the vector was left with
abbrev pub LendsVec : MutBor (List ℕ) → MutBor (Vec ℕ Global) → Fml
LendsVec bytes lent = Lends the_row byte_vec bytes lent (λ left. left.items)
