use Rattle.std.proofs.Common.{◌≡◌, ◌∙◌, sym, List, ℕ, [], ◌∷◌, length, IsTrue, Bool, ◌==◌, refl}
use Rattle.passkey_cbor.specs.Canonical.{IsCanonical}
use Rattle.passkey_cbor.specs.CanonicalReading.{BeginsItem}
use Rattle.passkey_cbor.specs.LeadingItem.{max_depth}
use Rattle.passkey_memory.proofs.Emptiness.{not_none}
use Rattle.passkey_cbor.proofs.items.CanonicalItems.{only_one, is_whole, whole_is, is_false}
use Rattle.passkey_cbor.proofs.canonical.is_canonical.Goals as goal

pub returns-in-None : goal.returns-in-None
returns-in-None c =
    ((λ t. absurd (is_false t)), (λ is. absurd (c.in-None.ensures [] (whole_is c.args.bytes.now is))))

not_both : (c : ℕ) (rest : List ℕ) → [] ≡ c ∷ rest → ⊥
not_both c rest e = absurd cc

judged : (bytes rest : List ℕ) → BeginsItem max_depth bytes rest → (b : Bool) → b ≡ (length rest == 0)
    → (IsTrue b → IsCanonical bytes) × (IsCanonical bytes → IsTrue b)
judged bytes [] item b e = ((λ t. is_whole bytes item), (λ is. rw e refl))
judged bytes (c ∷ rest) item b e = (
  (λ t. absurd (is_false (sym (not_none (length rest)) ∙ sym e ∙ t))),
  (λ is. let same =
      only_one max_depth bytes [] (c ∷ rest) (whole_is bytes is) item in absurd (not_both c rest same.1)),
)

pub returns-in-Some : goal.returns-in-Some
returns-in-Some c =
    judged c.args.bytes.now c.in-Some.rest.now c.in-Some.ensures c.is_empty.result c.is_empty.ensures
