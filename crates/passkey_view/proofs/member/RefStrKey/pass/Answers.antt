use Rattle.std.proofs.Common.{◌∙◌}
use Rattle.passkey_view.proofs.Keys.{is_name, is_other}
use Rattle.passkey_view.proofs.member.RefStrKey.pass.Goals as goal

pub returns-in-Some-clause-passes : goal.returns-in-Some-clause-passes
returns-in-Some-clause-passes c = λ x to l.
    let s = c.in-Some.ensures.lends x to l in
    record {
      is = is_name _ x s.0 _ _ s.1.0 s.1.1.tells c.eq_name.ensures.same;
      place = c.eq_name.ensures.looks.place ∙ s.1.1.place;
      bytes = c.eq_name.ensures.looks.bytes ∙ s.1.1.bytes;
    }

pub returns-then-skip-clause-passes : goal.returns-then-skip-clause-passes
returns-then-skip-clause-passes c = λ x to l.
    let other = c.in-None.ensures.lends x to l in
    let p = c.if-skip.ensures.passes x to (rw (other.1.bytes, other.1.place) l) in
    record { is = is_other x _ other.0; place = p.place; bytes = p.bytes ∙ other.1.bytes }

pub returns-else-skip-clause-passes : goal.returns-else-skip-clause-passes
returns-else-skip-clause-passes c = λ x to l.
    let other = c.in-None.ensures.lends x to l in
    let p = c.if-skip.ensures.passes x to (rw (other.1.bytes, other.1.place) l) in
    let found = p.is_found in
    absurd cc
