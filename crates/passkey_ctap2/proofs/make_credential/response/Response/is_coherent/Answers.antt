use Rattle.passkey_kinds.proofs.Common.{◌∙◌, nat_lt, Bool, ◌&&◌, ap, sym}
use Rattle.passkey_kinds.specs.Numbered.{is_shallow}
use Rattle.passkey_ctap2.specs.MakeResponse.{make_response, make_response_parts}
use Rattle.passkey_ctap2.proofs.MakeMessages.{statement_decides}
use Rattle.passkey_ctap2.proofs.make_credential.response.Response.is_coherent.Goals as goal

pub returns-then-is_coherent : goal.returns-then-is_coherent
returns-then-is_coherent c =
    let r = make_response_parts c.args.self.now in
    ap (λ n. nat_lt n 256) c.depth.ensures
    ∙ statement_decides r
    ∙ sym (ap (λ (b : Bool). b && is_shallow make_response r) (sym c.is_coherent.ensures ∙ c.if-is_coherent.true))
