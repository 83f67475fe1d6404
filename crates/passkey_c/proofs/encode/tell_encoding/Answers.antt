use Rattle.std.proofs.Common.{List, ℕ, refl, string_bytes, subst}
use Rattle.passkey_c.proofs.Encoding.{encoded_by, told_as, untold}
use Rattle.passkey_c.proofs.encode.tell_encoding.Goals as goal
use Rattle.passkey_c.specs.Values.{IsPut}

pub returns-in-Ok : goal.returns-in-Ok
returns-in-Ok c =
    rw c.in-Ok.is (encoded_by c.in-Ok.bytes.items
    (subst (λ (b : List ℕ). IsPut b c.args.out.now c.put_encoding.new.out c.put_encoding.new.len c.put_encoding.result)
    c.as_slice.ensures.value c.put_encoding.ensures))

pub returns-in-None : goal.returns-in-None
returns-in-None c = rw c.in-Err.is (untold c.in-Err.refused (rw c.in-None.is refl))

pub returns : goal.returns
returns c =
    let text = string_bytes c.in-Some.text in
    rw c.in-Err.is (told_as c.in-Err.refused text c.as_bytes-bytes.result.now (rw c.in-Some.is refl)
    c.as_bytes-bytes.ensures.value c.put_front.ensures refl)
