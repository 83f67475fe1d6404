use Rattle.std.proofs.Common.{refl}
use Rattle.passkey_json.proofs.Elements.{array_free, back_all, back_more, written_all, written_more}
use Rattle.passkey_json.proofs.written.array.Goals as goal

pub loop-element-init : goal.loop-element-init
loop-element-init g c =
    let none = c.in_ok-values.ensures.items in
    record { written = rw none refl; reads_back = λ back. back; without_floats = rw none refl }

pub loop-element-preserved : goal.loop-element-preserved
loop-element-preserved g c =
    let json = g.T.ToJson.json c.args.form in
    let so_far = c.loop-element.invariant in
    let written = c.in_ok-to_json.ensures in
    record {
      written = written_more json c.args.elements.now c.loop-element.element-index c.element-item.result _ _ _
          c.element-item.is c.loop-element-test.true c.in_ok-push_value.ensures.written written.written
          so_far.written;
      reads_back = λ back. so_far.reads_back (back_more json g.T.FromJson.kind c.args.elements.now
          c.loop-element.element-index c.element-item.result c.element-item.is c.loop-element-test.true
          written.reads_back back);
      without_floats = c.in_ok-push_value.ensures.without_floats written.without_floats so_far.without_floats;
    }

pub returns-clause-written : goal.returns-clause-written
returns-clause-written g c =
    written_all (g.T.ToJson.json c.args.form) c.args.elements.now c.loop-element.element-index
    c.loop-element.values c.loop-element-test.false c.loop-element.invariant.written

pub returns-clause-reads_back : goal.returns-clause-reads_back
returns-clause-reads_back g c =
    back_all (g.T.ToJson.json c.args.form) g.T.FromJson.kind c.args.elements.now c.loop-element.element-index
    c.loop-element-test.false c.loop-element.invariant.reads_back

pub returns-clause-without_floats : goal.returns-clause-without_floats
returns-clause-without_floats g c = array_free c.loop-element.values c.loop-element.invariant.without_floats
