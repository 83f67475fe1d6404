use Rattle.std.proofs.Common.{false, ℕ, Option, sym, subst, arith}
use Rattle.passkey_cbor.specs.Lent.{Region, IsRegion, IsSized, HoldsString}
use Rattle.passkey_cbor.proofs.token.BytesToken.fill.Goals as goal

pub fill_chunks-requires-clause-region : goal.fill_chunks-requires-clause-region
fill_chunks-requires-clause-region c = subst (λ (len : Option ℕ). IsRegion false
    (record { len = len; bytes = c.self.inside.region.now })) c.in-None.is c.self.invariant.0

pub fill_chunks-requires-clause-size : goal.fill_chunks-requires-clause-size
fill_chunks-requires-clause-size c s t = omega (
  arith,
  subst (λ (len : Option ℕ). IsSized false (record
      { len = len; bytes = c.self.inside.region.now }) c.self.inside.size) c.in-None.is c.self.invariant.1 s t,
)

pub returns-in-None-clause-filled : goal.returns-in-None-clause-filled
returns-in-None-clause-filled c =
    subst (λ (r : Region). HoldsString false r c.fill_chunks.new.into) c.self.view_is
    (subst (λ (len : Option ℕ). HoldsString false (record { len = len; bytes = c.self.inside.region.now })
    c.fill_chunks.new.into) (sym c.in-None.is) c.fill_chunks.ensures.filled)
