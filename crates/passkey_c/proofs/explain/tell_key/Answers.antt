use Rattle.std.proofs.Common.{append_assoc, subst, ◌∙◌}
use Rattle.passkey_explain.proofs.Explaining.{located}
use Rattle.passkey_explain.specs.Along.{IsLocated}
use Rattle.passkey_explain_data.specs.KeyBlame.{key_path}
use Rattle.passkey_explain_data.proofs.KeyVerdict.{key_leads}
use Rattle.passkey_c.proofs.explain.tell_key.Goals as goal

pub unwrap-found-requires : goal.unwrap-found-requires
unwrap-found-requires c =
    let h = c.requires.1.1 in
    let lead = key_leads c.requires.0 c.args.refused h.1 in
    located (key_path c.args.refused.blame) c.requires.0 c.args.input.now c.locate_key.result
    (c.locate_key.ensures c.requires.0 lead.0 c.requires.1.0 h.0 lead.1)

pub returns : goal.returns
returns c =
    let path = key_path c.args.refused.blame in
    let item = c.requires.0 in
    let h = c.requires.1.1 in
    let lead = key_leads item c.args.refused h.1 in
    record {
      item = item;
      len = c.requires.1.0;
      leads = h.0;
      refused = c.args.refused;
      blamed = h.1;
      fault = c.data_status.ensures;
      lies = subst (IsLocated path item c.args.input.now) c.unwrap-found.ensures
          (c.locate_key.ensures item lead.0 c.requires.1.0 h.0 lead.1);
      says = c.in_ok-text.ensures.ok ∙ (simp append_assoc);
    }
