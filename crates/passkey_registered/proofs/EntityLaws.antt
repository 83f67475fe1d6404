-- Relying parties, users, credentials and options of requests: they can be decoded again, have few levels, and their
-- keys ascend.
use Rattle.passkey_kinds.proofs.Steps.{IsLawful, all_of_anything, anything, lawful, list_plain, list_same, no_more, plainly, puts_default, puts_value, refl, shortest_head, text_back, truth_back, ◌▸◌}
use Rattle.passkey_registered.proofs.ExactValues.{exact_bytes_back, present_place}
use Rattle.passkey_registered.specs.Entities.{descriptor, request_options, rp, user}

pub rp_law : IsLawful 0 rp
unfolding shortest_head
rp_law = lawful 0 rp (λ r. refl) (λ r. refl) (λ r. refl) (λ k r. search plainly) (λ r fits.
    puts_value text_back r.id tt ▸
    puts_default (present_place text_back r.name (anything r.name)) refl ▸
    no_more)

pub user_law : IsLawful 0 user
unfolding shortest_head
user_law = lawful 0 user (λ u. refl) (λ u. refl) (λ u. refl) (λ k u. search plainly) (λ u fits.
    puts_value exact_bytes_back u.id tt ▸
    puts_default (present_place text_back u.name (anything u.name)) refl ▸
    puts_default (present_place text_back u.display_name (anything u.display_name)) refl ▸
    no_more)

pub descriptor_law : IsLawful 1 descriptor
unfolding shortest_head
descriptor_law = lawful 1 descriptor (λ d. refl) (λ d. refl) (λ d. refl) (λ k d. search (plainly, list_plain k)) (λ d fits.
    puts_value exact_bytes_back d.id tt ▸
    puts_value text_back d.ty tt ▸
    puts_default (present_place (list_same text_back) d.transports (all_of_anything d.transports)) refl ▸
    no_more)

pub request_options_law : IsLawful 0 request_options
unfolding shortest_head
request_options_law = lawful 0 request_options (λ o. refl) (λ o. refl) (λ o. refl) (λ k o. search plainly) (λ o fits.
    puts_default (present_place truth_back o.rk (anything o.rk)) refl ▸
    puts_default (present_place truth_back o.up (anything o.up)) refl ▸
    puts_default (present_place truth_back o.uv (anything o.uv)) refl ▸
    no_more)
