use Rattle.std.proofs.Common.{arith, refl}
use Rattle.passkey_catalogue.proofs.Structures.{bytes_again}
use Rattle.passkey_catalogue.proofs.structure.rewrite_pub_area.Goals as goal
use Rattle.passkey_tpm.specs.PubArea.{pub_area_in, pub_area_parts, pub_area_written}

-- The law says that the encoding is the bytes.
pub returns-clause-ok : goal.returns-clause-ok
returns-clause-ok c = (
  bytes_again pub_area_in pub_area_written c.args.bytes.now _ (pub_area_parts c.in-Some._area) c.in-Some.ensures
      (c.read_pub_area_is_written_back.ensures c.args.bytes.now _ (λ i. omega (arith, c.type_inv.bytes i)))
      c.in_ok-from_slice.ensures.items,
  refl,
)
