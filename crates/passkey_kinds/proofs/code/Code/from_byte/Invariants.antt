use Rattle.std.proofs.Common.{◌≡◌, drop, nat_eq}
use Rattle.passkey_iana.specs.Table.{numbered}
use Rattle.passkey_kinds.proofs.code.Code.from_byte.Given as goal

abbrev pub invariant-loop-value : goal.invariant-loop-value
invariant-loop-value g l = numbered nat_eq g.Self.Code.byte_of g.Self.Code.named l.byte
    ≡ numbered nat_eq g.Self.Code.byte_of (drop l.value-index l.value-items) l.byte
