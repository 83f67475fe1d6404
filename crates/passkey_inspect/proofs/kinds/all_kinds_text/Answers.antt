use Rattle.std.proofs.Common.{arith, ◌∙◌, string_bytes}
use Rattle.passkey_inspect.proofs.Lines.{lines_more}
use Rattle.passkey_inspect.proofs.kinds.all_kinds_text.Goals as goal

pub loop-place-preserved : goal.loop-place-preserved
loop-place-preserved c = (
  lines_more c.loop-place.place (string_bytes c.loop-place.text) _ _ c.in_ok-push_str.ensures.bytes c.loop-place.invariant.0
      (c.as_str.ensures.value ∙ c.in_ok-kind_line.ensures),
  omega (arith, c.loop-place-test.true),
)
