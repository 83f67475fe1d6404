use Rattle.std.proofs.Common.{ℕ, List, Option, Some, option_map, ap, arith}
use Rattle.passkey_json.proofs.Base64url.{base64url_back}
use Rattle.passkey_json.proofs.bytes.text.Goals as goal

pub returns-clause-reads_back : goal.returns-clause-reads_back
returns-clause-reads_back c =
    let e = base64url_back c.args.bytes.now (λ i. omega (arith, c.type_inv.bytes i)) in
    record { plain = e; some = ap (λ (o : Option (List ℕ)). option_map Some o) e }
