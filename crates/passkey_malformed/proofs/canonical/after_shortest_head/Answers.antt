use Rattle.std.proofs.Common.{◌∙◌, sym, subst}
use Rattle.passkey_malformed.specs.Breaks.{longer, none}
use Rattle.passkey_malformed.specs.Stops.{NoHead}
use Rattle.passkey_malformed.proofs.Breaking.{begins_shortest, is_longer}
use Rattle.passkey_malformed.proofs.canonical.after_shortest_head.Goals as goal

pub returns-in-Err : goal.returns-in-Err
returns-in-Err c =
    none c.in-Err.stop.why c.not_well_formed.ensures.rule c.in-Err.ensures.0
    (subst (NoHead c.args.bytes.now c.in-Err.stop.why) (sym c.not_well_formed.ensures.rest) c.in-Err.ensures.1)

pub returns-then-bytes-following : goal.returns-then-bytes-following
returns-then-bytes-following c =
    longer c.in-Ok.found.0 c.in-Ok.found.1.now c.in-Ok.ensures
    (is_longer _ _ _ c.in-Ok.ensures (λ e. c.if-bytes-following.true (e ∙ sym c.shortest_len.ensures)))
    c.broken.ensures.rule c.broken.ensures.rest

pub returns : goal.returns
returns c = begins_shortest _ _ _ c.in-Ok.ensures (c.if-bytes-following.false ∙ c.shortest_len.ensures)
