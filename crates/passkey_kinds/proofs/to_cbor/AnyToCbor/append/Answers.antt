use Rattle.passkey_kinds.proofs.Steps.{record_writable}
use Rattle.passkey_kinds.proofs.to_cbor.AnyToCbor.append.Goals as goal

pub returns-clause-writable : goal.returns-clause-writable
returns-clause-writable g c =
    record_writable (g.R.ToCborMap.places c.args.self.now) c.put_members.new.sink.members
    c.in_ok-put_members.ensures.put c.map_head.ensures.writable c.in_ok-put_members-2.ensures.accepts
