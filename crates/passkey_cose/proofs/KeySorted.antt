-- The members of a key in the order in which they are written: none is bad, and they are read as the same key.
use Rattle.std.proofs.Common.{◌≡◌, ℕ, pos, Bool, true, false, not, ◌||◌, ◌∷◌, ◌++◌, [], Option, Some, None, if◌then◌else◌, refl, ap, ◌∙◌}
use Rattle.std.proofs.lemmas.Bool.{or_parts, or_from}
use Rattle.std.proofs.lemmas.List.{append-nil}
use Rattle.std.proofs.lemmas.List.Folds.{list_any-append}
use Rattle.passkey_cbor.specs.Item.{Item, number}
use Rattle.passkey_cbor.specs.Same.{item_eq}
use Rattle.passkey_cose.specs.KeyFaults.{name_fault, value_fault, member_fault, first_fault}
use Rattle.passkey_cose.specs.KeyLabels.{Members, is_label, is_common, has_label, are_separate}
use Rattle.passkey_cose.specs.KeyParts.{member}
use Rattle.passkey_cose.specs.KeyReading.{under, further}
use Rattle.passkey_cose.specs.declared.error.CoseError.TheVariants.{DuplicateMapKey}
use Rattle.passkey_cose.proofs.KeyFurther.{none_either}
use Rattle.passkey_cose.proofs.KeyHeld.{GoodUnder}
use Rattle.passkey_cose.proofs.KeySeparate.{unequal_flip, has_label-push, separate_parts}

-- the common members before the others
abbrev pub sorted : Option Item → Option Item → Option Item → Option Item → Option Item → Members → Members
sorted a b c d e ms = member 1 a ++ (member 2 b ++ (member 3 c ++ (member 4 d ++ (member 5 e ++ further ms))))

-- ---- labels other than the five common ones

pub record IsUncommon (label : Item) : Type 0 where
  pub not_1 : is_label 1 label ≡ false
  pub not_2 : is_label 2 label ≡ false
  pub not_3 : is_label 3 label ≡ false
  pub not_4 : is_label 4 label ≡ false
  pub not_5 : is_label 5 label ≡ false

pub uncommon : (label : Item) → is_common label ≡ false → IsUncommon label
uncommon label e =
    let p = or_parts (is_label 1 label)
    (is_label 2 label || (is_label 3 label || (is_label 4 label || (is_label 5 label || false)))) e in
    let q =
    or_parts (is_label 2 label) (is_label 3 label || (is_label 4 label || (is_label 5 label || false))) p.1 in
    let r = or_parts (is_label 3 label) (is_label 4 label || (is_label 5 label || false)) q.1 in
    let s = or_parts (is_label 4 label) (is_label 5 label || false) r.1 in
    let t = or_parts (is_label 5 label) false s.1 in
    record { not_1 = p.0; not_2 = q.0; not_3 = r.0; not_4 = s.0; not_5 = t.0 }

-- ---- the same key

under_skip : (n k : ℕ) (o : Option Item) (rest : Members) → is_label n (number (pos k)) ≡ false
    → under n (member k o ++ rest) ≡ under n rest
under_skip n k None rest e = refl
under_skip n k (Some i) rest e = rw e refl

under_here : (n : ℕ) (o : Option Item) (rest : Members) → is_label n (number (pos n)) ≡ true → under n rest ≡ None
    → under n (member n o ++ rest) ≡ o
under_here n None rest e h = h
under_here n (Some i) rest e h = rw e refl

under_further : (n : ℕ) → ((label : Item) → IsUncommon label → is_label n label ≡ false) → (ms : Members)
    → under n (further ms) ≡ None
under_further n other [] = refl
under_further n other (m ∷ ms) =
    (elim (is_common m.0)
    as (λ (b : Bool). is_common m.0 ≡ b → under n (if not b then m ∷ further ms else further ms) ≡ None) [
      | true ↦ λ h. under_further n other ms
      | false ↦ λ h. rw (other m.0 (uncommon m.0 h)) (under_further n other ms)
    ]) refl

pub under_1 : (a b c d e : Option Item) (ms : Members) → under 1 (sorted a b c d e ms) ≡ a
under_1 a b c d e ms = under_here 1 a _ refl (under_skip 1 2 b _ refl ∙ under_skip 1 3 c _ refl
    ∙ under_skip 1 4 d _ refl ∙ under_skip 1 5 e _ refl ∙ under_further 1 (λ l u. u.not_1) ms)

pub under_2 : (a b c d e : Option Item) (ms : Members) → under 2 (sorted a b c d e ms) ≡ b
under_2 a b c d e ms = under_skip 2 1 a _ refl ∙ under_here 2 b _ refl (under_skip 2 3 c _ refl
    ∙ under_skip 2 4 d _ refl ∙ under_skip 2 5 e _ refl ∙ under_further 2 (λ l u. u.not_2) ms)

pub under_3 : (a b c d e : Option Item) (ms : Members) → under 3 (sorted a b c d e ms) ≡ c
under_3 a b c d e ms = under_skip 3 1 a _ refl ∙ under_skip 3 2 b _ refl ∙ under_here 3 c _ refl
    (under_skip 3 4 d _ refl ∙ under_skip 3 5 e _ refl ∙ under_further 3 (λ l u. u.not_3) ms)

pub under_4 : (a b c d e : Option Item) (ms : Members) → under 4 (sorted a b c d e ms) ≡ d
under_4 a b c d e ms = under_skip 4 1 a _ refl ∙ under_skip 4 2 b _ refl ∙ under_skip 4 3 c _ refl
    ∙ under_here 4 d _ refl (under_skip 4 5 e _ refl ∙ under_further 4 (λ l u. u.not_4) ms)

pub under_5 : (a b c d e : Option Item) (ms : Members) → under 5 (sorted a b c d e ms) ≡ e
under_5 a b c d e ms = under_skip 5 1 a _ refl ∙ under_skip 5 2 b _ refl ∙ under_skip 5 3 c _ refl
    ∙ under_skip 5 4 d _ refl ∙ under_here 5 e _ refl (under_further 5 (λ l u. u.not_5) ms)

further_skip : (k : ℕ) (o : Option Item) (rest : Members) → is_common (number (pos k)) ≡ true
    → further (member k o ++ rest) ≡ further rest
further_skip k None rest e = refl
further_skip k (Some i) rest e = rw e refl

further-further : (ms : Members) → further (further ms) ≡ further ms
further-further [] = refl
further-further (m ∷ ms) =
    (elim (is_common m.0) as (λ (b : Bool). is_common m.0 ≡ b
    → further (if not b then m ∷ further ms else further ms) ≡ (if not b then m ∷ further ms else further ms)) [
      | true ↦ λ h. further-further ms
      | false ↦ λ h. rw h (ap (λ (ns : Members). m ∷ ns) (further-further ms))
    ]) refl

pub further_sorted : (a b c d e : Option Item) (ms : Members) → further (sorted a b c d e ms) ≡ further ms
further_sorted a b c d e ms = further_skip 1 a _ refl ∙ further_skip 2 b _ refl ∙ further_skip 3 c _ refl
    ∙ further_skip 4 d _ refl ∙ further_skip 5 e _ refl ∙ further-further ms

-- ---- no member is bad

pub has_label-split : (xs ys : Members) (label : Item) → has_label xs label ≡ false → has_label ys label ≡ false
    → has_label (xs ++ ys) label ≡ false
has_label-split xs ys label x y = list_any-append (λ (m : Item × Item). item_eq label m.0) xs ys
    ∙ or_from (has_label xs label) (has_label ys label) x y

pub has_label-member : (k : ℕ) (o : Option Item) (label : Item) → is_label k label ≡ false
    → has_label (member k o) label ≡ false
has_label-member k None label e = refl
has_label-member k (Some i) label e = or_from (is_label k label) false e refl

fault_member : (earlier : Members) (k : ℕ) (o : Option Item) (rest : Members) → name_fault (number (pos k)) ≡ None
    → has_label earlier (number (pos k)) ≡ false → GoodUnder k o → first_fault (earlier ++ member k o) rest ≡ None
    → first_fault earlier (member k o ++ rest) ≡ None
fault_member earlier k None rest name new good h = rw append-nil at h
fault_member earlier k (Some i) rest name new good h = rw (name, new, good) h

pub uncommon_value : (label value : Item) → IsUncommon label → value_fault label value ≡ None
uncommon_value label value u = rw (u.not_1, u.not_3, u.not_2, u.not_5, u.not_4) refl

-- each label is a signed 64-bit number or a text, isn't common, and doesn't occur before
abbrev pub AreNew : Members → Members → Type 0
AreNew earlier [] = Unit {0}
AreNew earlier (m ∷ ms) =
    (is_common m.0 ≡ false) × (name_fault m.0 ≡ None) × (has_label earlier m.0 ≡ false) × AreNew earlier ms

still_new : (earlier : Members) (m : Item × Item) (ms : Members) → has_label ms m.0 ≡ false → AreNew earlier ms
    → AreNew (earlier ++ m ∷ []) ms
still_new earlier m [] e h = tt
still_new earlier m (n ∷ ns) e h =
    let parts = or_parts (item_eq m.0 n.0) (has_label ns m.0) e in
    (h.0, h.1, has_label-push earlier m n.0 h.2 (unequal_flip m.0 n.0 parts.0), still_new earlier m ns parts.1 h.3)

fault_new : (earlier ms : Members) → are_separate ms ≡ true → AreNew earlier ms → first_fault earlier ms ≡ None
fault_new earlier [] sep h = refl
fault_new earlier (m ∷ ms) sep h =
    let parts = separate_parts m ms sep in
    let rest = fault_new (earlier ++ m ∷ []) ms parts.1 (still_new earlier m ms parts.0 h.3) in
    rw (h.1, h.2, uncommon_value m.0 m.1 (uncommon m.0 h.0)) rest

-- these members have only common labels
abbrev pub AreCommon : Members → Type 0
AreCommon ms = (label : Item) → IsUncommon label → has_label ms label ≡ false

further_new : (before : Members) → AreCommon before → (earlier ms : Members) → first_fault earlier ms ≡ None
    → AreNew before (further ms)
further_new before common earlier [] e = tt
further_new before common earlier (m ∷ ms) e =
    let parts = none_either (member_fault earlier m) (first_fault (earlier ++ m ∷ []) ms) e in
    let name = none_either (name_fault m.0)
    (if has_label earlier m.0 then Some DuplicateMapKey else value_fault m.0 m.1) parts.0 in
    let rest = further_new before common (earlier ++ m ∷ []) ms parts.1 in
    (elim (is_common m.0)
    as (λ (b : Bool). is_common m.0 ≡ b → AreNew before (if not b then m ∷ further ms else further ms)) [
      | true ↦ λ h. rest
      | false ↦ λ h. (h, name.0, common m.0 (uncommon m.0 h), rest)
    ]) refl

fault_further : (before ms : Members) → AreCommon before → first_fault [] ms ≡ None
    → are_separate (further ms) ≡ true → first_fault before (further ms) ≡ None
fault_further before ms common e sep = fault_new before (further ms) sep (further_new before common [] ms e)

pub sorted_good : (a b c d e : Option Item) (ms : Members) → GoodUnder 1 a → GoodUnder 2 b → GoodUnder 3 c
    → GoodUnder 4 d → GoodUnder 5 e → first_fault [] ms ≡ None → are_separate (further ms) ≡ true
    → first_fault [] (sorted a b c d e ms) ≡ None
sorted_good a b c d e ms ga gb gc gd ge good sep =
    let m1 : Members = member 1 a in
    let m2 : Members = m1 ++ member 2 b in
    let m3 : Members = m2 ++ member 3 c in
    let m4 : Members = m3 ++ member 4 d in
    let m5 : Members = m4 ++ member 5 e in
    let before : (k : ℕ) (o : Option Item) (ns : Members) (label : Item) → has_label ns label ≡ false
    → is_label k label ≡ false → has_label (ns ++ member k o) label ≡ false =
    λ k o ns label x y. has_label-split ns (member k o) label x (has_label-member k o label y) in
    let common : AreCommon m5 = λ l u. before 5 e m4 l (before 4 d m3 l
    (before 3 c m2 l (before 2 b m1 l (has_label-member 1 a l u.not_1) u.not_2) u.not_3) u.not_4) u.not_5 in
    let n2 : Item = number (pos 2) in
    let n3 : Item = number (pos 3) in
    let n4 : Item = number (pos 4) in
    let n5 : Item = number (pos 5) in
    fault_member [] 1 a _ refl refl ga
    (fault_member m1 2 b _ refl (has_label-member 1 a n2 refl) gb
    (fault_member m2 3 c _ refl (before 2 b m1 n3 (has_label-member 1 a n3 refl) refl) gc
    (fault_member m3 4 d _ refl (before 3 c m2 n4 (before 2 b m1 n4 (has_label-member 1 a n4 refl) refl) refl) gd
    (fault_member m4 5 e _ refl
    (before 4 d m3 n5 (before 3 c m2 n5 (before 2 b m1 n5 (has_label-member 1 a n5 refl) refl) refl) refl) ge
    (fault_further m5 ms common good sep)))))
