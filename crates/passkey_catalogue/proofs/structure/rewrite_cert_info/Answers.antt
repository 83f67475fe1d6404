use Rattle.std.proofs.Common.{arith, refl}
use Rattle.passkey_catalogue.proofs.Structures.{bytes_again}
use Rattle.passkey_catalogue.proofs.structure.rewrite_cert_info.Goals as goal
use Rattle.passkey_tpm.specs.CertInfo.{cert_info_in, cert_info_parts, cert_info_written}

-- The law says that the encoding is the bytes.
pub returns-clause-ok : goal.returns-clause-ok
returns-clause-ok c = (
  bytes_again cert_info_in cert_info_written c.args.bytes.now _ (cert_info_parts c.in-Some._info) c.in-Some.ensures
      (c.read_cert_info_is_written_back.ensures c.args.bytes.now _ (λ i. omega (arith, c.type_inv.bytes i)))
      c.in_ok-from_slice.ensures.items,
  refl,
)
