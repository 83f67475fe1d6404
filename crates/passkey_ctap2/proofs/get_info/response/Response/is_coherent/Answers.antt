use Rattle.passkey_kinds.proofs.Common.{◌∙◌, Bool, ◌&&◌, option_map, ap, sym}
use Rattle.std.specs.Int.NonZero.{non_zero_u128_get}
use Rattle.passkey_kinds.specs.Numbered.{has_room}
use Rattle.passkey_ctap2.specs.GetInfo.{is_encodable, get_info_parts}
use Rattle.passkey_ctap2.proofs.GetInfos.{told, parts_decide}
use Rattle.passkey_ctap2.proofs.get_info.response.Response.is_coherent.Goals as goal

pub returns-then-is_ok : goal.returns-then-is_ok
returns-then-is_ok c =
    let r = get_info_parts c.args.self.now in
    let told_true = sym c.if-is_ok.true ∙ c.is_ok.ensures.value ∙ told (is_encodable (option_map non_zero_u128_get
    c.args.self.now.max_msg_size)) c.size_item.result c.size_item.ensures.encoded c.size_item.ensures.fault in
    c.fits_in_message.ensures
    ∙ ap (λ (b : Bool). b && has_room r.certifications) told_true
    ∙ parts_decide r
