use Rattle.std.proofs.Common.{◌≡◌, refl, arith}
use Rattle.passkey_malformed.proofs.NoHeads.{cut_there, reserved_there, bad_simple_there, is_none, is_some}
use Rattle.passkey_malformed.proofs.heads.no_head.Goals as goal
use Rattle.passkey_malformed.proofs.heads.no_head.Goals.{else-initial-via-then-initial+else-not-is_empty, else-initial-via-else-initial}

pub returns-then-initial-ge28 : goal.returns-then-initial-ge28
returns-then-initial-ge28 c = (
  reserved_there _ _ _ (λ i. omega (arith, c.type_inv.bytes i)) c.requires c.in-Some.ensures.cases.0
      c.if-initial-ge28.true,
  refl,
)

pub returns-then-not-is_empty : goal.returns-then-not-is_empty
returns-then-not-is_empty c = (
  bad_simple_there _ _ _ (λ i. omega (arith, c.type_inv.bytes i)) c.requires c.in-Some.ensures.cases.0
      c.if-initial.true (is_some _ _ c.is_empty.ensures c.if-not-is_empty.true),
  refl,
)

pub returns-else-initial : goal.returns-else-initial
returns-else-initial c =
    cut_there _ _ _ (λ i. omega (arith, c.type_inv.bytes i)) c.requires c.in-Some.ensures.cases.0
    c.if-initial-ge28.false
    (λ (is : c.in-Some.initial.now ≡ 248). elim c.else-initial.branch [
      | else-initial-via-then-initial+else-not-is_empty w ↦ is_none _ _ w.is_empty.ensures w.if-not-is_empty.false
      | else-initial-via-else-initial w ↦ absurd (w.if-initial.false is)
    ])
    _ _ c.cut_off-in-Some.ensures.why c.cut_off-in-Some.ensures.rest
