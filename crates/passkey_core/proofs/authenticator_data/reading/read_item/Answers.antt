use Rattle.std.proofs.Common.{rules, arith, ◌∙◌, ℕ, ◌+◌, ◌-◌, ◌^◌, min, ap}
use Rattle.std.proofs.lemmas.List.{length-take, length-drop}
use Rattle.std.proofs.lemmas.Result.{err_from_is_err_and}
use Rattle.passkey_cbor.specs.Bytes.{IsBytes}
use Rattle.passkey_cbor.specs.View.{item_of}
use Rattle.passkey_core.proofs.DataCounting.{Added, item_made, item_fails}
use Rattle.passkey_core.proofs.authenticator_data.reading.read_item.Goals as goal

pub returns-in_err-value-clause-counts : goal.returns-in_err-value-clause-counts
returns-in_err-value-clause-counts c =
    let added : Added c.args.count.now c.add.new.count c.value-value.new.self = record {
      heads = c.add.ensures.heads
          ∙ ap (λ (n : ℕ). min (c.args.count.now.heads + n) (2 ^ 128 - 1)) c.count.ensures.heads;
      nodes = c.add.ensures.nodes
          ∙ ap (λ (n : ℕ). min (c.args.count.now.nodes + n) (2 ^ 128 - 1)) c.count.ensures.nodes;
      heads_rise = c.add.ensures.heads_rise;
      nodes_rise = c.add.ensures.nodes_rise;
    } in
    let p = err_from_is_err_and c.from_residual.result c.from_residual.ensures.1 in
    let fits : IsBytes c.args.bytes.now = search rules in
    rw (p.1, p.2) (item_fails c.args.bytes.now c.new-cursor.result c.value-value.new.self c.in_err-value.field-0.0
    c.args.count.now c.add.new.count fits c.new-cursor.ensures c.in_err-value.ensures.front added)

pub returns-clause-counts : goal.returns-clause-counts
returns-clause-counts c =
    let added : Added c.args.count.now c.add.new.count c.value-value.new.self = record {
      heads = c.add.ensures.heads
          ∙ ap (λ (n : ℕ). min (c.args.count.now.heads + n) (2 ^ 128 - 1)) c.count.ensures.heads;
      nodes = c.add.ensures.nodes
          ∙ ap (λ (n : ℕ). min (c.args.count.now.nodes + n) (2 ^ 128 - 1)) c.count.ensures.nodes;
      heads_rise = c.add.ensures.heads_rise;
      nodes_rise = c.add.ensures.nodes_rise;
    } in
    item_made c.args.bytes.now c.new-cursor.result c.value-value.new.self (item_of c.in_ok-value.value)
    c.args.count.now c.add.new.count c.in_ok-value.value _ c.new-cursor.ensures c.in_ok-value.ensures.front
    added (simp (length-take, length-drop) (omega (arith, c.place.ensures)))
