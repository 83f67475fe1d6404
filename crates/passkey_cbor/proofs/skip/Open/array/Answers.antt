use Rattle.std.proofs.Common.{Option, ℕ, ap, sym, ◌∙◌}
use Rattle.passkey_cbor.specs.Courses.{items_course}
use Rattle.passkey_cbor.proofs.skipping.Courses.{open_items, open_to_break}
use Rattle.passkey_cbor.proofs.skip.Open.array.Goals as goal

pub returns-in-Some : goal.returns-in-Some
returns-in-Some c levels bytes = open_items levels c.in-Some.len bytes
    ∙ ap (λ (l : Option ℕ). items_course levels l bytes) (sym c.in-Some.is)

pub returns-in-None : goal.returns-in-None
returns-in-None c levels bytes = open_to_break levels bytes
    ∙ ap (λ (l : Option ℕ). items_course levels l bytes) (sym c.in-None.is)
