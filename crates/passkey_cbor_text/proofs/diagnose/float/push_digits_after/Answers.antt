use Rattle.std.proofs.Common.{arith, ap, ◌∙◌, ◌-◌, ◌+◌, ◌++◌, List, ℕ, string_bytes}
use Rattle.std.proofs.lemmas.Str.{encode_ascii}
use Rattle.passkey_cbor_text.proofs.Texts.{digit_below, digit_written}
use Rattle.passkey_cbor_text.proofs.diagnose.float.push_digits_after.Goals as goal

pub loop-place-preserved : goal.loop-place-preserved
loop-place-preserved c =
    let digit = digit_below c.loop-place.rest c.args.whole c.loop-place.invariant.below in
    digit_written (c.args.count - c.loop-place._place) (c.args.count - (c.loop-place._place + 1)) c.loop-place.rest
    c.args.whole c.args.count c.args.rest c.from.result (string_bytes c.args.out.now) (string_bytes c.loop-place.out)
    (string_bytes c.push.new.self) (omega arith) c.loop-place.invariant c.from.ensures
    ((c.in_ok-push.ensures).bytes ∙ ap (λ (s : List ℕ). string_bytes c.loop-place.out ++ s)
    (encode_ascii c.from.result (omega (arith, c.from.ensures, digit))))
