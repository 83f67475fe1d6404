use Rattle.std.specs.Option.{option_and_then}
use Rattle.std.proofs.Common.{rules, ◌≡◌, ◌∙◌, ◌<◌, [], length, map, true, Some, None, option_map, unwrap_or, inl, inr, refl, ap}
use Rattle.passkey_cbor.specs.View.{pair_of}
use Rattle.passkey_memory.proofs.Failing.{on_err}
use Rattle.passkey_iana.specs.Iana.{algorithm_named}
use Rattle.passkey_cose.specs.KeyFaults.{first_fault}
use Rattle.passkey_cose.specs.KeyFields.{parts_held}
use Rattle.passkey_cose.specs.KeyLabels.{are_separate}
use Rattle.passkey_cose.specs.KeyParams.{params_of}
use Rattle.passkey_cose.specs.KeyParts.{KeyParts, key_members}
use Rattle.passkey_cose.specs.KeyReading.{further, bytes_in, name_in, ops_in, under, key_from}
use Rattle.passkey_cose.specs.Pairs.{values_in}
use Rattle.passkey_cose.specs.Registered.{named_of}
use Rattle.passkey_cose.proofs.KeyFurther.{further_separate}
use Rattle.passkey_cose.proofs.KeyHeld.{some_ops, under_good}
use Rattle.passkey_cose.proofs.KeyRound.{read_good}
use Rattle.passkey_cose.proofs.reading.read_parts.Goals as goal

pub invariant_of-result : goal.invariant_of-result
invariant_of-result c =
    let ms = map pair_of (values_in c.args.pairs) in
    let params : params_of c.in_ok-params.params.items ≡ further ms = search rules in
    let separate : are_separate (params_of c.in_ok-params.params.items) ≡ true =
    rw params (further_separate [] ms c.requires.good refl) in
    let kty = named_of c.args.kty in
    let ids : option_map (λ v. v.items) c.in_ok-key_id.key_id ≡ option_and_then bytes_in (under 2 ms) =
    rw c.as_slice-common.ensures at c.in_ok-key_id.ensures.same in
    let algs : option_map named_of c.in_ok-alg.alg ≡ option_and_then (name_in algorithm_named) (under 3 ms) =
    rw c.as_slice-common.ensures at c.in_ok-alg.ensures.same in
    let ops : map named_of (unwrap_or (option_map (λ v. v.items) c.in_ok-key_ops.key_ops) [])
    ≡ unwrap_or (option_map ops_in (under 4 ms)) [] =
    rw c.as_slice-common.ensures at c.in_ok-key_ops.ensures.same in
    let ivs : option_map (λ v. v.items) c.in_ok-base_iv.base_iv ≡ option_and_then bytes_in (under 5 ms) =
    rw c.as_slice-common.ensures at c.in_ok-base_iv.ensures.same in
    let held : KeyParts = parts_held c.args.kty c.in_ok-key_id.key_id c.in_ok-alg.alg c.in_ok-key_ops.key_ops
    c.in_ok-base_iv.base_iv (Some c.in_ok-params.params) in
    let same : held ≡ key_from ms kty = λ i. (let k : KeyParts = record {
      kty = kty;
      key_id = ids i;
      alg = algs i;
      key_ops = ops i;
      base_iv = ivs i;
      params = params i;
    } in k) in
    let good : first_fault [] (key_members held) ≡ None = ap (λ (k : KeyParts). first_fault [] (key_members k)) same
    ∙ read_good ms kty c.requires.good c.requires.typed in
    record { separate = separate; good = good }

pub returns-in_err-key_ops-clause-grows : goal.returns-in_err-key_ops-clause-grows
returns-in_err-key_ops-clause-grows c =
    let ms = map pair_of (values_in c.args.pairs) in
    let some : 0 < length (unwrap_or (option_map ops_in (under 4 ms)) []) =
    some_ops (under 4 ms) (under_good 4 [] ms c.requires.good)
    (rw c.as_slice-common.ensures at c.in_err-key_ops.ensures.grows) in
    on_err c.from_residual-in_err-key_ops.result (inr (inr (inr (inl some))))
