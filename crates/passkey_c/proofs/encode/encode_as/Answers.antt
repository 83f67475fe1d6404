use Rattle.std.proofs.Common.{List, ℕ, option_map, string_bytes, subst}
use Rattle.passkey_c.proofs.Encoding.{unencoded_by}
use Rattle.passkey_c.proofs.encode.encode_as.Goals as goal
use Rattle.passkey_c.specs.Values.{IsRejection, unread}
use Rattle.passkey_catalogue.specs.Catalogue.{definition}
use Rattle.passkey_catalogue.specs.Rewriting.{IsRefusal}

pub returns-in-Err-clause-err : goal.returns-in-Err-clause-err
returns-in-Err-clause-err c = unread c.in-Err.fault c.in-Err.ensures.err c.unread.ensures.0 c.unread.ensures.1

pub returns-clause-err : goal.returns-clause-err
returns-clause-err c =
    let d = definition c.args.kind in
    let fault = c.in-Err-encode.fault in
    let u = c.rejected.result in
    let told = option_map string_bytes u.text in
    unencoded_by fault c.in-Ok.input.items c.in-Ok.ensures.ok
    (subst (λ (b : List ℕ). IsRefusal d b fault) c.as_slice.ensures.value c.in-Err-encode.ensures.err)
    (subst (λ (b : List ℕ). IsRejection d b fault u.status told) c.as_slice-in-Err-encode.ensures.value
    c.rejected.ensures)
