use Rattle.std.proofs.Common.{◌≡◌, ℕ, ◌+◌, subst, arith}
use Rattle.passkey_view.specs.DataView.{IsMapAt}
use Rattle.passkey_view.proofs.data_view.attested_at.Goals as goal

pub returns-in-None : goal.returns-in-None
returns-in-None c = λ a m.
    let len : a.credential_id_len ≡ c.from-len.result = grind (arith, m.id_len) in
    c.in-None.ensures a.public_key (subst (λ (n : ℕ). IsMapAt c.args.bytes.now (55 + n) a.public_key) len m.key)
