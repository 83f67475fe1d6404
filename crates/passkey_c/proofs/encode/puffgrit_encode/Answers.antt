use Rattle.std.proofs.Common.{Option, subst}
use Rattle.passkey_c.proofs.Encoding.{encoded_of}
use Rattle.passkey_c.proofs.encode.puffgrit_encode.Goals as goal
use Rattle.passkey_c.specs.Values.{EncodesAs, Encoding, IsUnencoded}
use Rattle.passkey_catalogue.specs.Catalogue.{definition}
use Rattle.passkey_catalogue.specs.Values.{EncodesValues}
use Rattle.passkey_catalogue.specs.declared.kind.Kind.{Kind}

pub returns-in-Some : goal.returns-in-Some
returns-in-Some c =
    let d = definition c.in-Some.kind in
    let json = c.args.json.now in
    let args = c.args in
    let told = c.tell_encoding.new in
    let old : Encoding = record { out = args.out.now; len = args.len.now; why = args.why.now; why_size = args.why_size.now } in
    let new : Encoding = record { out = told.out; len = told.len; why = told.why; why_size = told.why_size } in
    subst (λ (k : Option Kind). EncodesAs k json old new c.tell_encoding.result) c.in-Some.ensures
    (encoded_of _ (EncodesValues d json) (IsUnencoded d json) c.encode_as.result c.encode_as.ensures.ok c.encode_as.ensures.err
    c.tell_encoding.ensures)
