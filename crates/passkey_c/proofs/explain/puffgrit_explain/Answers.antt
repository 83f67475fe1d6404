use Rattle.std.proofs.Common.{Option, subst}
use Rattle.passkey_c.proofs.Explaining.{explains_of}
use Rattle.passkey_c.proofs.explain.puffgrit_explain.Goals as goal
use Rattle.passkey_c.specs.Explaining.{AcceptsAsked, Explaining, ExplainsAs, Memory, TellsAsked}
use Rattle.passkey_c.specs.Asked.{demands_in}
use Rattle.passkey_catalogue.specs.Catalogue.{definition}
use Rattle.passkey_malformed.specs.declared.demands.Demands.{Demands}
use Rattle.passkey_catalogue.specs.declared.kind.Kind.{Kind}

pub returns-in-Some : goal.returns-in-Some
returns-in-Some c =
    let d = definition c.in-Some.kind in
    let input = c.args.input.now in
    let old : Memory = record
    { read = c.args.read.now; refusal = c.args.refusal.now; text = c.args.out.now; len = c.args.len.now } in
    let new : Memory = record
    { read = c.tell.new.read; refusal = c.tell.new.refusal; text = c.tell.new.out; len = c.tell.new.len } in
    subst (λ (k : Option Kind). ExplainsAs k (demands_in c.args.kind) input old new c.tell.result) c.in-Some.ensures
    (subst (λ (a : Option Demands). Explaining (AcceptsAsked a d input) (TellsAsked a d input) old new c.tell.result)
    c.demands_in-demands.ensures
    (explains_of (AcceptsAsked c.demands_in-demands.result d input) (TellsAsked c.demands_in-demands.result d input)
    c.judge_asked-verdict.result c.judge_asked-verdict.ensures c.tell.ensures))
