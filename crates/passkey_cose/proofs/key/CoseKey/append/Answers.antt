use Rattle.std.proofs.Common.{◌≡◌, ◌+◌, ◌++◌, ◌∙◌, List, length, map, subst, ap, arith}
use Rattle.std.proofs.lemmas.List.{length-map}
use Rattle.passkey_cbor.specs.Encoder.{encoding}
use Rattle.passkey_cbor.specs.View.{pair_of}
use Rattle.passkey_cbor.specs.declared.value.Value.{Value}
use Rattle.passkey_cose.specs.Key.{key_parts}
use Rattle.passkey_cose.specs.KeyLabels.{Members}
use Rattle.passkey_cose.specs.KeyParams.{param_of}
use Rattle.passkey_cose.specs.KeyParts.{key_members}
use Rattle.passkey_cose.specs.KeyWritten.{Appended}
use Rattle.passkey_cose.proofs.KeyAppended.{key_written, key_writable}
use Rattle.passkey_cose.proofs.key.CoseKey.append.Goals as goal

pub returns-clause-written : goal.returns-clause-written
returns-clause-written c =
    let k = key_parts c.args.self.now in
    let common = map pair_of c.as_slice-common.result.now in
    let all : common ++ k.params ≡ key_members k =
    ap (λ (ps : List (Value × Value)). map pair_of ps ++ k.params) c.as_slice-common.ensures.value
    ∙ c.in_ok-values.ensures in
    let count : c.in_ok-members_len.field-0 ≡ length common + length k.params =
    omega (
      arith,
      c.in_ok-members_len.ensures,
      length-map c.as_slice-common.result.now pair_of,
      length-map c.params-params.result.now param_of,
      ap length c.params-params.ensures.value,
    ) in
    key_written k common c.in_ok-members_len.field-0 (encoding c.args.encoder.now) (encoding c.map_head.new.self)
    (encoding c.append_pairs.new.encoder) (encoding c.append_params.new.encoder) all count
    c.in_ok-map_head.ensures.written c.in_ok-append_pairs.ensures
    (subst (λ (ms : Members). Appended ms (encoding c.append_pairs.new.encoder)
    (encoding c.append_params.new.encoder)) c.params-params.ensures.value c.in_ok-append_params.ensures)

pub returns-clause-writable : goal.returns-clause-writable
returns-clause-writable c =
    let k = key_parts c.args.self.now in
    let common = map pair_of c.as_slice-common.result.now in
    let all : common ++ k.params ≡ key_members k =
    ap (λ (ps : List (Value × Value)). map pair_of ps ++ k.params) c.as_slice-common.ensures.value
    ∙ c.in_ok-values.ensures in
    let count : c.in_ok-members_len.field-0 ≡ length common + length k.params =
    omega (
      arith,
      c.in_ok-members_len.ensures,
      length-map c.as_slice-common.result.now pair_of,
      length-map c.params-params.result.now param_of,
      ap length c.params-params.ensures.value,
    ) in
    key_writable k common c.in_ok-members_len.field-0 (encoding c.map_head.new.self)
    (encoding c.append_pairs.new.encoder) (encoding c.append_params.new.encoder) all count
    c.in_ok-map_head.ensures.writable c.in_ok-append_pairs.ensures
    (subst (λ (ms : Members). Appended ms (encoding c.append_pairs.new.encoder)
    (encoding c.append_params.new.encoder)) c.params-params.ensures.value c.in_ok-append_params.ensures)
