-- Messages of authenticatorLargeBlobs: decoding their encodings again, their nesting levels, and their canonical form.
use Rattle.passkey_kinds.proofs.Numbered.{long_back, numbered_law, IsNumbered}
use Rattle.passkey_kinds.proofs.Steps.{shortest_head, plainly, puts_value, puts_default, no_more, ◌▸◌, refl, byte_back, bytes_back, anything, optional_place}
use Rattle.passkey_commands.specs.large_blobs.LbRequest.{lb_request}
use Rattle.passkey_commands.specs.large_blobs.LbResponse.{lb_response}
use Rattle.passkey_commands.specs.large_blobs.LargeBlob.{large_blob}

-- ---- requests

pub lb_request_law : IsNumbered 0 lb_request
unfolding shortest_head
lb_request_law = numbered_law 0 lb_request (λ r. refl) (λ r. refl) (λ r. refl)
    (λ k r. search (plainly) depth 12) (λ r fits.
    puts_default (optional_place long_back refl r.get (search)) refl ▸
    puts_default (optional_place bytes_back refl r.set (anything r.set)) refl ▸
    puts_value long_back r.offset (search) ▸
    puts_default (optional_place long_back refl r.length (search)) refl ▸
    puts_default (optional_place bytes_back refl r.pin_uv_auth_param (anything r.pin_uv_auth_param)) refl ▸
    puts_default (optional_place byte_back refl r.pin_uv_auth_protocol (search)) refl ▸
    no_more)

-- ---- responses

pub lb_response_law : IsNumbered 0 lb_response
unfolding shortest_head
lb_response_law = numbered_law 0 lb_response (λ r. refl) (λ r. refl) (λ r. refl)
    (λ k r. search (plainly) depth 7) (λ r fits.
    puts_default (optional_place bytes_back refl r.config (anything r.config)) refl ▸
    no_more)

-- ---- entries of the large-blob array

pub large_blob_law : IsNumbered 0 large_blob
unfolding shortest_head
large_blob_law = numbered_law 0 large_blob (λ r. refl) (λ r. refl) (λ r. refl)
    (λ k r. search (plainly) depth 9) (λ r fits.
    puts_value bytes_back r.ciphertext (search) ▸
    puts_value bytes_back r.nonce (search) ▸
    puts_value long_back r.orig_size (search) ▸
    no_more)
