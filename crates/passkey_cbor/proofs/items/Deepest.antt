-- The depth of a list of data items, one after the other.
use Rattle.std.proofs.Common.{◌≡◌, ℕ, ◌-◌, ◌<◌, ◌^◌, min, max}

-- the maximum so far and that of the rest make up the maximum of all, up to `usize::MAX`
pub record IsDeepest (deepest left all : ℕ) : Type 0 where
  pub same : min (max deepest left) (2 ^ 64 - 1) ≡ min all (2 ^ 64 - 1)
  pub fits : deepest < 2 ^ 64
