use Rattle.std.proofs.Common.{rules}
use Rattle.passkey_cbor.specs.View.{item_of}
use Rattle.passkey_explain_data.proofs.Statements.{statement_found, statement_lies}
use Rattle.passkey_explain_data.proofs.statement.explain_item.Goals as goal

pub unwrap-extent-requires : goal.unwrap-extent-requires
unwrap-extent-requires c =
    statement_found c.args.format (item_of c.args.value.now) c.args.bytes.now c.requires.0 c.requires.1
    c.in_ok-blame.blame c.in_ok-blame.ensures c.locate_blame.result c.locate_blame.ensures

pub returns : goal.returns
returns c = record {
  fault = search rules;
  blame = c.in_ok-blame.ensures;
  lies = statement_lies c.args.format (item_of c.args.value.now) c.args.bytes.now c.requires.0 c.requires.1
      c.in_ok-blame.blame c.in_ok-blame.ensures c.locate_blame.result c.locate_blame.ensures c.unwrap-extent.result
      c.unwrap-extent.ensures;
}
