use Rattle.std.proofs.Common.{IfOk, Option, string_bytes, subst}
use Rattle.passkey_catalogue.specs.declared.any_json_kind.AnyJsonKind.{AnyJsonKind}
use Rattle.passkey_inspect.proofs.records.rewrite.Goals as goal
use Rattle.passkey_inspect.specs.Prints.{RewritesTextAs}

-- The call's clause is that of the kind.
pub returns-in-Some : goal.returns-in-Some
returns-in-Some c =
    let input = c.args.input.now in
    subst (λ (k : Option AnyJsonKind). IfOk c.rewrite_json.result (λ text. RewritesTextAs k input (string_bytes text)))
    c.in-Some.ensures c.rewrite_json.ensures.ok
