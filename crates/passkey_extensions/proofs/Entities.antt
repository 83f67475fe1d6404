-- Relying parties and users can be decoded again, have one level, and their keys ascend.
use Rattle.passkey_kinds.proofs.Steps.{arith, shortest_head, IsLawful, lawful, text_back, bytes_back, optional_place, plainly, puts_value, puts_default, no_more}
use Rattle.passkey_extensions.specs.Entities.{rp, user}

pub rp_law : IsLawful 0 rp
unfolding shortest_head
rp_law = grind (arith, lawful, plainly, puts_value, text_back, puts_default, optional_place, no_more)

pub user_law : IsLawful 0 user
unfolding shortest_head
user_law = grind (arith, lawful, plainly, puts_value, bytes_back, puts_default, optional_place, text_back, no_more)
