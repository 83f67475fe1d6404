use Rattle.std.proofs.Common.{◌≡◌, ◌≤◌, ◌^◌, drop}
use Rattle.passkey_cbor_text.specs.values.Integers.{with_digits}
use Rattle.passkey_cbor_text.proofs.values.integer.natural.Given as goal

abbrev pub invariant-loop-digit : goal.invariant-loop-digit
invariant-loop-digit l =
    (with_digits l.number (drop l.digit-index l.digits) ≡ with_digits 0 l.digits) × (l.number ≤ 2 ^ 64)
