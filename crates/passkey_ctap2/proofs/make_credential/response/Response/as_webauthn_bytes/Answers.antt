use Rattle.passkey_kinds.proofs.Steps.{◌∙◌, ℕ, List, [], ◌++◌, ap, refl, shortest_head, item_of-Map, data_parts, record_written}
use Rattle.passkey_kinds.specs.Tree.{put_one}
use Rattle.passkey_ctap2.specs.MakeResponse.{attestation_places}
use Rattle.passkey_ctap2.proofs.make_credential.response.Response.as_webauthn_bytes.Goals as goal

pub returns-clause-written : goal.returns-clause-written
unfolding put_one
returns-clause-written c =
    c.into_vec.ensures
    ∙ record_written (attestation_places (data_parts c.args.self.now.auth_data)) 3 [] c.map_head.new.self.bytes.items
    c.put-3.new.self.bytes.items refl
    (c.in_ok-map_head.ensures.written ∙ ap (λ (s : List ℕ). s ++ shortest_head 5 3) c.new-encoder.ensures)
    (rw (
      c.in_ok-put-3.ensures.put,
      c.in_ok-put-2.ensures.put,
      c.in_ok-put.ensures.put,
      item_of-Map c.new.result,
      c.new.ensures.items,
    ) refl)
