use Rattle.std.proofs.Common.{◌∙◌, ◌++◌, ap, map, sym}
use Rattle.std.proofs.lemmas.Iterator.Adapters.{YieldsList-from_vec}
use Rattle.std.proofs.lemmas.Iterator.Consumers.{YieldsList-end}
use Rattle.std.proofs.lemmas.List.{map-id}
use Rattle.passkey_json.proofs.Dropping.{are_under}
use Rattle.passkey_json.specs.Blame.{step_of}
use Rattle.passkey_json.specs.Dropped.{told, told_under}
use Rattle.passkey_json.proofs.dropped.append_part.Goals as goal

pub returns : goal.returns
returns c = λ os h.
    let s = step_of c.args.step.now in
    let i = c.into_iter-inner-iterator.ensures.into_iter_gives in
    let all = YieldsList-end (YieldsList-from_vec c.args.part.items i.0 (i.1 ∙ c.args.part.ok.0)) c.loop-inner.yielded
    c.loop-inner.inner-iterator c.loop-inner.yielded_by _ c.next.new.self c.in-None.is c.next.ensures.steps in (
      map (told_under s) (map told c.args.part.items),
      (
        are_under os s _ h,
        c.loop-inner.invariant
            ∙ ap (λ vs. map told c.args.dropped.now.items ++ map (told_under s) (map told vs))
            (sym (map-id c.loop-inner.yielded) ∙ all.0),
      ),
    )
