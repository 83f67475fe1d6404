use Rattle.std.proofs.Common.{◌≡◌, ◌∙◌, sym}
use Rattle.passkey_kinds.specs.declared.fault.WriteFault.TheVariants.{OutOfMemory, NumberTooLarge}
use Rattle.passkey_rewrite.proofs.rewriting.rewrite_front_message.Goals as goal

-- a decoded message is coherent, so encoding it can only run out of memory
pub unreachable-requires : goal.unreachable-requires
unreachable-requires g c =
    let b = c.in_ok-message.ensures.reads in
    let coherent = c.decoded_is_coherent.ensures c.args.bytes.now (g.M.Record.parts c.in_ok-message.message)
    (record { item = b.item; len = b.len; front = b.front; holds = b.holds.1 }) in
    let no : NumberTooLarge ≡ OutOfMemory =
    sym c.in-Err-NumberTooLarge.field-0-is ∙ c.in-Err-NumberTooLarge.ensures.memory coherent in
    absurd cc
