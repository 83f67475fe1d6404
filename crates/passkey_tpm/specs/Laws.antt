-- Laws of certInfo and pubArea.
use Rattle.std.specs.Prelude.{◌≡◌, ℕ, List, Some}
use Rattle.passkey_tpm.specs.CertInfo.{CertInfoParts, IsCertInfo, cert_info_in, cert_info_written}
use Rattle.passkey_tpm.specs.Parts.{IsBytes}
use Rattle.passkey_tpm.specs.PubArea.{PubAreaParts, IsPubArea, pub_area_in, pub_area_written}

abbrev pub CertInfoIsReadBack : Type 0
CertInfoIsReadBack = (c : CertInfoParts) → IsCertInfo c → cert_info_in (cert_info_written c) ≡ Some c

abbrev pub PubAreaIsReadBack : Type 0
PubAreaIsReadBack = (a : PubAreaParts) → IsPubArea a → pub_area_in (pub_area_written a) ≡ Some a

-- What is decoded is encoded as the bytes that it was decoded from.
abbrev pub CertInfoIsWrittenBack : Type 0
CertInfoIsWrittenBack = (bytes : List ℕ) (c : CertInfoParts) → IsBytes bytes → cert_info_in bytes ≡ Some c
    → cert_info_written c ≡ bytes

abbrev pub PubAreaIsWrittenBack : Type 0
PubAreaIsWrittenBack = (bytes : List ℕ) (a : PubAreaParts) → IsBytes bytes → pub_area_in bytes ≡ Some a
    → pub_area_written a ≡ bytes
