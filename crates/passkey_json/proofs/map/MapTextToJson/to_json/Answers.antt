use Rattle.std.specs.FinMap as fin
use Rattle.std.specs.Map.Iter.{deref_pair}
use Rattle.std.proofs.Common.{◌≡◌, ◌∙◌, sym, ap, subst}
use Rattle.std.proofs.lemmas.Map.Iter.{rest_more}
use Rattle.passkey_bytes.proofs.Placed.{entries_by_bytes}
use Rattle.passkey_json.proofs.MapsBack.{EachBack, map_back, put_all, put_members, put_more}
use Rattle.passkey_json.proofs.map.MapTextToJson.to_json.Goals as goal
use Rattle.passkey_json.specs.Written.{so_far}
use Rattle.serde_json.specs.Data.{no_members}

pub loop-name-init : goal.loop-name-init
loop-name-init g c =
    let json = g.T.ToJson.json c.args.form in
    let entries = c.into_iter-name-iterator.result in
    let are : entries ≡ fin.entries c.args.self.now =
    entries_by_bytes c.args.self.now entries c.into_iter-name-iterator.ensures.into_iter_gives.0 in
    record {
      written = ap (λ ms. put_members json ms entries) c.new-members.ensures ∙ ap (put_members json no_members) are
          ∙ put_all json c.args.self.now;
      reads_back = subst (EachBack g.T.FromJson.kind json) are;
    }

pub loop-name-preserved : goal.loop-name-preserved
loop-name-preserved g c =
    let json = g.T.ToJson.json c.args.form in
    let next = rest_more deref_pair c.loop-name.name-iterator c.next.new.self c.next.result
    (c.in-Some.name, c.in-Some.member) c.in-Some.is c.next.ensures.steps in
    record {
      written = put_more json (so_far c.loop-name.members) (so_far c.put.new.self) c.loop-name.name-iterator
          c.next.new.self c.as_str.result.now c.in-Some.name.now c.in-Some.member.now next c.as_str.ensures.same
          c.in_ok-put.ensures.written ∙ c.loop-name.invariant.written;
      reads_back = λ back. c.loop-name.invariant.reads_back
          (subst (EachBack g.T.FromJson.kind json) (sym next) (c.in_ok-put.ensures.reads_back, back));
    }

pub returns-clause-reads_back : goal.returns-clause-reads_back
returns-clause-reads_back g c =
    let json = g.T.ToJson.json c.args.form in
    map_back g.T.FromJson.kind json c.args.self.now (c.loop-name.invariant.reads_back
    (subst (EachBack g.T.FromJson.kind json) (sym c.in-None.ensures.steps.0) tt))
