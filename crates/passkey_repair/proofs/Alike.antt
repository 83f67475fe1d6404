-- Messages that are decoded from the item as it is.
use Rattle.passkey_cbor.specs.Item.{Item}
use Rattle.passkey_cbor.specs.Laws.{AtMostOneLeadingItem}
use Rattle.passkey_cbor.specs.LeadingItem.{IsLeadingItem}
use Rattle.passkey_kinds.specs.Message.{Begins, ReadsMessage}
use Rattle.passkey_kinds.specs.Record.{Fields, read_item}
use Rattle.passkey_kinds.specs.declared.fault.Fault.{Fault}
use Rattle.passkey_kinds.specs.declared.fault.Fault.TheVariants as fault
use Rattle.passkey_repair.specs.messages.Edit.{Edit}
use Rattle.passkey_repair.specs.messages.Laws.{DecodedDecodeAlike, DecodedIsNotRefused}
use Rattle.passkey_repair.specs.messages.Repaired.{read_lenient, read_repaired, repaired, unchanged, with_edits}
use Rattle.passkey_repair.specs.messages.Views.{lenient_view}
use Rattle.std.proofs.Common.{Bool, Err, List, Ok, Result, [], ap, if◌then◌else◌, is_ok, refl, sym, unwrap_or, ℕ, ◌∙◌, ◌≡◌}
use Rattle.std.specs.Result.{result_ok}

module _ {A P : Type 0} (law : AtMostOneLeadingItem) (parts : A → P) (t : Fields P) (edits : List Edit) (bytes : List ℕ)
    (m : A) (n : ℕ) (s : ReadsMessage parts (read_item t) bytes (Ok (m, n))) where
  same : (i : Item) (len : ℕ) → IsLeadingItem bytes i len → read_lenient t edits i ≡ with_edits [] (Ok (parts m))
  same i len front =
      let strict : read_item t i ≡ Ok (parts m) =
      ap (read_item t) (sym (law bytes s.item i s.len len s.front front).0) ∙ s.holds.1 in
      ap (λ (b : Bool). read_repaired t (if b then unchanged i else repaired edits i)) (ap is_ok strict)
      ∙ ap (with_edits []) strict

  no_fault : {X : Type 0} (e : Fault) → Begins bytes (λ i len. read_lenient t edits i ≡ Err e) → X
  no_fault e q =
      let bad : with_edits [] (Ok (parts m)) ≡ Err e = sym (same q.item q.len q.front) ∙ q.holds in
      cc

pub decoded_decode_alike : {A P : Type 0} → AtMostOneLeadingItem → (parts : A → P) (t : Fields P) (edits : List Edit)
    → DecodedDecodeAlike parts t edits
decoded_decode_alike {P = P} law parts t edits bytes m n l k s q =
    let one = law bytes s.item q.item s.len q.len s.front q.front in
    let held = ap (λ (r : Result (P × List Edit) Fault). unwrap_or (result_ok r) (lenient_view parts l))
    (sym q.holds.1 ∙ same law parts t edits bytes m n s q.item q.len q.front) in
    (held, sym q.holds.0 ∙ sym one.1 ∙ s.holds.0)

pub decoded_is_not_refused : {A P : Type 0} → AtMostOneLeadingItem → (parts : A → P) (t : Fields P) (edits : List Edit)
    → DecodedIsNotRefused parts t edits
decoded_is_not_refused law parts t edits bytes m n fault.DecodeFailed s q = absurd (q s.item s.len s.front)
decoded_is_not_refused law parts t edits bytes m n fault.OutOfMemory s q = refl
decoded_is_not_refused law parts t edits bytes m n fault.NotAMap s q =
    no_fault law parts t edits bytes m n s fault.NotAMap q
decoded_is_not_refused law parts t edits bytes m n fault.BadKey s q =
    no_fault law parts t edits bytes m n s fault.BadKey q
decoded_is_not_refused law parts t edits bytes m n (fault.Repeated k) s q =
    no_fault law parts t edits bytes m n s (fault.Repeated k) q
decoded_is_not_refused law parts t edits bytes m n (fault.Refused k) s q =
    no_fault law parts t edits bytes m n s (fault.Refused k) q
decoded_is_not_refused law parts t edits bytes m n (fault.Missing k) s q =
    no_fault law parts t edits bytes m n s (fault.Missing k) q
