use Rattle.passkey_explain.proofs.Explaining.{blamed_there, lies_there, located, reads_fault}
use Rattle.passkey_explain.proofs.Refusals.{item_fault, item_refused}
use Rattle.passkey_kinds.proofs.Steps.{refl}
use Rattle.passkey_kinds.specs.Look.{tested}
use Rattle.passkey_kinds.specs.RecordReading.{nested}
use Rattle.passkey_kinds.specs.Words.{item_of, read_item}
use Rattle.passkey_explain.proofs.explanation.explain_item.Goals as goal

pub unwrap-extent-requires : goal.unwrap-extent-requires
unwrap-extent-requires g c =
    let locates = rw c.deref.ensures.value at c.locate.ensures in
    located _ _ _ _ (blamed_there g.M.Record.fields (item_of c.args.value.now) c.args.bytes.now c.requires.0 c.requires.1
    c.in_ok-blame.blame (c.in_ok-blame.ensures (tested (nested g.M.Record.fields)) refl) c.locate.result locates)

pub returns : goal.returns
returns g c =
    let locates = rw c.deref.ensures.value at c.locate.ensures in
    let told = rw (← c.in_ok-fault-in-Err.ensures.0) at c.in-Err.ensures in
    let t = g.M.Record.fields in
    let i = item_of c.args.value.now in
    let fault = reads_fault g.M.Record.parts _ (read_item t i) c.in_ok-fault-in-Err.fault
    c.in_ok-fault-in-Err.ensures.1 told in
    record {
      fault = fault;
      blame = c.in_ok-blame.ensures (tested (nested t)) refl;
      of_fault = item_fault t i c.in_ok-fault-in-Err.fault fault;
      refused = item_refused t i c.in_ok-fault-in-Err.fault fault;
      lies = lies_there g.M.Record.fields (item_of c.args.value.now) c.args.bytes.now c.requires.0 c.requires.1
          c.in_ok-blame.blame (c.in_ok-blame.ensures (tested (nested g.M.Record.fields)) refl) c.locate.result locates c.unwrap-extent.result c.unwrap-extent.ensures;
    }

pub explain_at-requires : goal.explain_at-requires
explain_at-requires g c = (tested (nested g.M.Record.fields), refl)
