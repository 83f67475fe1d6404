use Rattle.std.proofs.Common.{Option, subst}
use Rattle.passkey_c.proofs.Asking.{asked_as, asked_of}
use Rattle.passkey_c.proofs.rewrite.puffgrit_rewrite.Goals as goal
use Rattle.passkey_c.specs.Rewriting.{Rewrites}
use Rattle.passkey_c.specs.Writing.{Outputs}
use Rattle.passkey_c.specs.Asked.{demands_in}
use Rattle.passkey_catalogue.specs.Catalogue.{definition}
use Rattle.passkey_catalogue.specs.Rewriting.{Encodes, IsRefusal}
use Rattle.passkey_catalogue.specs.declared.kind.Kind.{Kind}

pub returns-in-Some : goal.returns-in-Some
returns-in-Some c =
    let d = definition c.in-Some.kind in
    let input = c.args.input.now in
    let old : Outputs = record { read = c.args.read.now; out = c.args.out.now; len = c.args.len.now } in
    let new : Outputs = record { read = c.write.new.read; out = c.write.new.out; len = c.write.new.len } in
    subst (λ (k : Option Kind). Rewrites k (demands_in c.args.kind) input old new c.write.result) c.in-Some.ensures
    (asked_as c.demands_in-demands.ensures c.is_item.ensures
    (asked_of _ (Encodes d input) (IsRefusal d input) c.demands_in-demands.result c.is_item.result input
    c.encode-made.result c.admitted.result c.encode-made.ensures.ok c.encode-made.ensures.err c.admitted.ensures
    c.write.ensures))
