use Rattle.std.proofs.Common.{◌-◌, string_bytes}
use Rattle.passkey_cbor_text.proofs.Texts.{WritesDigits}
use Rattle.passkey_cbor_text.proofs.diagnose.float.push_digits_after.Given as goal

abbrev pub invariant-loop-place : goal.invariant-loop-place
invariant-loop-place l =
    WritesDigits (l.count - l._place) l.rest l.whole l.count l.initial.rest (string_bytes l.initial.out) (string_bytes l.out)
