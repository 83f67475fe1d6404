use Rattle.passkey_bytes.proofs.bytes.Bytes.from_items.Goals as goal

pub returns : goal.returns
returns g c =
    let run = c.in_ok-bytes.ensures.runs tt in
    (run.0, run.1, run.2, run.3.0)
