use Rattle.std.proofs.Common.{Some, arith, refl, subst}
use Rattle.passkey_explain.proofs.Explaining.{located}
use Rattle.passkey_explain.specs.Along.{IsLocated}
use Rattle.passkey_explain_data.specs.KeyBlame.{key_path}
use Rattle.passkey_explain_data.proofs.DataPassing.{lies_within}
use Rattle.passkey_explain_data.proofs.KeyVerdict.{key_leads}
use Rattle.passkey_explain_data.proofs.passing.no_key.Goals as goal

pub unwrap-found-requires : goal.unwrap-found-requires
unwrap-found-requires c =
    let lead = key_leads c.requires.0 c.args.refusal c.requires.1.1 in
    located (key_path c.args.refusal.blame) c.requires.0 c.args.rest.now c.locate_key.result
    (c.locate_key.ensures c.requires.0 lead.0 c.args.len c.requires.1.0 lead.1)

pub overflow_add-extent : goal.overflow_add-extent
overflow_add-extent c =
    let path = key_path c.args.refusal.blame in
    let item = c.requires.0 in
    let lead = key_leads item c.args.refusal c.requires.1.1 in
    let found : IsLocated path item c.args.rest.now (Some c.unwrap-found.result) =
    subst (IsLocated path item c.args.rest.now) c.unwrap-found.ensures
    (c.locate_key.ensures item lead.0 c.args.len c.requires.1.0 lead.1) in
    let within = lies_within path item c.args.rest.now 0 c.unwrap-found.result.offset _ found in
    omega (arith, within, c.offset_in.ensures)

pub returns : goal.returns
returns c =
    let path = key_path c.args.refusal.blame in
    let item = c.requires.0 in
    let lead = key_leads item c.args.refusal c.requires.1.1 in
    record {
      item = item;
      len = c.args.len;
      leads = c.requires.1.0;
      refusal = c.args.refusal;
      blamed = c.requires.1.1;
      extent = c.unwrap-found.result;
      lies = subst (IsLocated path item c.args.rest.now) c.unwrap-found.ensures
          (c.locate_key.ensures item lead.0 c.args.len c.requires.1.0 lead.1);
      is = rw (c.extent_in.ensures, c.offset_in.ensures) refl;
    }
