use Rattle.std.proofs.Common.{[], ◌∷◌}
use Rattle.std.specs.Int.{w32, w64, to_be_bytes}
use Rattle.passkey_tpm.proofs.Appended.{four_appended}
use Rattle.passkey_tpm.proofs.cert_info.push_clock_info.Goals as goal

pub returns-clause-written : goal.returns-clause-written
returns-clause-written c =
    let info = c.args.info.now in
    let e = four_appended c.args.out.now.items (to_be_bytes w64 info.clock) (to_be_bytes w32 info.reset_count)
    (to_be_bytes w32 info.restart_count) (info.safe ∷ []) in
    cc (
      e,
      c.in_ok-extend_from_slice.ensures.items,
      c.in_ok-extend_from_slice-2.ensures.items,
      c.in_ok-extend_from_slice-3.ensures.items,
      c.in_ok-push.ensures.items,
    )
