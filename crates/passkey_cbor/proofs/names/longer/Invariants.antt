use Rattle.std.proofs.Common.{◌≡◌, ◌++◌, drop, map}
use Rattle.passkey_cbor.specs.Names.{begins_one}
use Rattle.passkey_cbor.proofs.names.longer.Given as goal

-- one of the names begins with these bytes exactly if one of those that are left does
abbrev pub invariant-loop-name : goal.invariant-loop-name
invariant-loop-name l = begins_one (l.joined ++ l.piece) (map (λ n. n.now) l.names)
    ≡ begins_one (l.joined ++ l.piece) (map (λ n. n.now) (drop l.name-index l.names))
