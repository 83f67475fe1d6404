-- Entries of the large-blob array (CTAP 2.1, section 6.10.3).
use Rattle.std.specs.Prelude.{[], codes, ◌∷◌}
use Rattle.passkey_kinds.specs.Coded.{bytes}
use Rattle.passkey_kinds.specs.Numbered.{long}
use Rattle.passkey_kinds.specs.Words.{PlainTable, required_at}
use Rattle.passkey_commands.specs.declared.large_blobs.large_blob.LargeBlob.{LargeBlob}

abbrev pub large_blob : PlainTable LargeBlob
large_blob = record {
  blank = record { ciphertext = []; nonce = []; orig_size = 0 };
  members = required_at 1 (codes "ciphertext") bytes (λ r. r.ciphertext) (λ x r. record r { ciphertext = x })
      ∷ required_at 2 (codes "nonce") bytes (λ r. r.nonce) (λ x r. record r { nonce = x })
      ∷ required_at 3 (codes "origSize") long (λ r. r.orig_size) (λ x r. record r { orig_size = x })
      ∷ [];
}
