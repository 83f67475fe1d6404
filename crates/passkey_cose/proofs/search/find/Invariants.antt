use Rattle.std.specs.List.{find}
use Rattle.std.proofs.Common.{◌≡◌, drop, option_map}
use Rattle.passkey_cose.proofs.search.find.Given as goal

abbrev pub invariant-loop-other : goal.invariant-loop-other
invariant-loop-other g l = option_map (λ p. p.1) (find (λ p. g.L.PartialEq.eq l.label p.0)
    (drop l.other-index l.pairs)) ≡ option_map (λ p. p.1) (find (λ p. g.L.PartialEq.eq l.label p.0) l.pairs)
