use Rattle.std.proofs.Common.{◌≡◌, ◌+◌, drop, map}
use Rattle.passkey_registered.specs.CanonicalForm.{place_among}
use Rattle.passkey_registered.proofs.canonical_form.index_among.Given as goal

abbrev pub invariant-loop-index : goal.invariant-loop-index
invariant-loop-index l = l.index + place_among l.encoded (map (λ k. k.items) (drop l.index l.keys))
    ≡ place_among l.encoded (map (λ k. k.items) l.keys)
