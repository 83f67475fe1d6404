-- Lists of elements: their encodings decode to them, and bytes that decode to them encode them.
use Rattle.std.proofs.Common.{◌≡◌, ℕ, zero, suc, ◌<◌, ◌≤◌, Bool, true, false, cond, List, [], ◌∷◌, ◌++◌, length, Option, Some, None, refl, sym, ap, subst, ◌∙◌, append_assoc, append-nil, arith}
use Rattle.std.proofs.lemmas.List.{length-append}
use Rattle.passkey_cbor.specs.Bytes.{IsBytes}
use Rattle.passkey_cbor.specs.Languages.{Language, Each}
use Rattle.passkey_cbor.specs.Heads.{break}
use Rattle.passkey_cbor.specs.Inside.{Left}
use Rattle.passkey_cbor.specs.HeadReading.{◌>>=◌, Read, head_at}
use Rattle.passkey_cbor.specs.Reading.{Reader, start, is_break, Step, end, element, step_at, after_step, list_by, list_at}
use Rattle.passkey_cbor.specs.declared.head.Head.{Head}
use Rattle.passkey_cbor.specs.declared.head.Head.TheVariants as head
use Rattle.passkey_cbor.proofs.items.Binds.{some_is, none_is_some, bind_some, bind_at}
use Rattle.passkey_cbor.proofs.heads.HeadAgain.{head_again}
use Rattle.passkey_cbor.proofs.heads.HeadTakes.{Took, head_takes}

-- one more element after the others
pub each_and_one : {A : Type 0} (P : A → Language) (xs : List A) (x : A) (s t : List ℕ) → Each P xs s → P x t
    → Each P (xs ++ x ∷ []) (s ++ t)
each_and_one P [] x s t e p =
    record { front = t; back = []; first = p; second = refl; whole = ap (λ (r : List ℕ). r ++ t) e ∙ sym (append-nil t) }
each_and_one P (y ∷ ys) x s t e p = record {
  front = e.front;
  back = e.back ++ t;
  first = e.first;
  second = each_and_one P ys x e.back t e.second p;
  whole = ap (λ (r : List ℕ). r ++ t) e.whole ∙ append_assoc e.front e.back t;
}

-- The reader decodes exactly the encodings in the language.
pub record Follows {A : Type 0} (P : A → Language) (read : Reader A) : Type 0 where
  pub again : (x : A) (t u : List ℕ) → P x t → start read (t ++ u) ≡ Some (x, u)
  pub takes : (x : A) (bytes u : List ℕ) → IsBytes bytes → start read bytes ≡ Some (x, u) → Took (P x) bytes u
  pub no_break : (h : Head) (bytes : List ℕ) (y : A × List ℕ) → read h bytes ≡ Some y → is_break h ≡ false

-- ---- encodings are decoded

pub head_long : (bytes : List ℕ) (h : Head) (u : List ℕ) → head_at bytes ≡ Some (h, u) → 0 < length bytes
unfolding head_at
head_long [] h u e = absurd (none_is_some (h, u) e)
head_long (b ∷ bytes) h u e = omega arith

-- the encoding of an element has at least one byte
pub encoded_long : {A : Type 0} (P : A → Language) (read : Reader A) (f : Follows P read) (x : A) (t : List ℕ)
    → P x t → 0 < length t
encoded_long P read f x t s =
    let e = f.again x t [] s in
    let b = bind_some (head_at (t ++ [])) (λ h. read h.0 h.1) (x, []) e in
    omega (arith, head_long (t ++ []) b.0.0 b.0.1 b.1, length-append t [])

pub each_long : {A : Type 0} (P : A → Language) (read : Reader A) (f : Follows P read) (xs : List A) (t : List ℕ)
    → Each P xs t → length xs ≤ length t
each_long P read f [] t s = omega arith
each_long P read f (x ∷ xs) t s =
    rw s.whole (omega (
      arith,
      encoded_long P read f x s.front s.first,
      each_long P read f xs s.back s.second,
      length-append s.front s.back,
    ))

pub left_long : {A : Type 0} (P : A → Language) (read : Reader A) (f : Follows P read) (left : Option ℕ)
    (xs : List A) (t : List ℕ) → Left P left xs t → length xs ≤ length t
left_long P read f (Some n) xs t s = each_long P read f xs t s.1
left_long P read f None xs t s =
    rw s.whole (omega (arith, each_long P read f xs s.front s.first, length-append s.front s.back))

-- one step of a list, at an element
step_again : {A : Type 0} (P : A → Language) (read : Reader A) (f : Follows P read)
    (others : Option ℕ → List ℕ → Read (List A)) (left after : Option ℕ) (x : A) (t u : List ℕ)
    → ((h : Head) (r : List ℕ) → is_break h ≡ false → head_at (t ++ u) ≡ Some (h, r)
    → step_at left (t ++ u) ≡ Some (element after h r))
    → P x t → (step_at left (t ++ u) >>= after_step read others) ≡ (others after u >>= λ xs. Some (x ∷ xs.0, xs.1))
step_again P read f others left after x t u steps s =
    let b = bind_some (head_at (t ++ u)) (λ h. read h.0 h.1) (x, u) (f.again x t u s) in
    bind_at (step_at left (t ++ u)) (element after b.0.0 b.0.1) (after_step read others)
    (steps b.0.0 b.0.1 (f.no_break b.0.0 b.0.1 (x, u) b.2) b.1)
    ∙ bind_at (read b.0.0 b.0.1) (x, u) (λ x. others after x.1 >>= λ xs. Some (x.0 ∷ xs.0, xs.1)) b.2

step_known : (n : ℕ) (bytes : List ℕ) (h : Head) (r : List ℕ) → is_break h ≡ false → head_at bytes ≡ Some (h, r)
    → step_at (Some (suc n)) bytes ≡ Some (element (Some n) h r)
unfolding step_at
step_known n bytes h r goes_on e = rw e refl

pub step_unknown : (bytes : List ℕ) (h : Head) (r : List ℕ) → is_break h ≡ false → head_at bytes ≡ Some (h, r)
    → step_at None bytes ≡ Some (element None h r)
unfolding step_at
step_unknown bytes h r goes_on e = rw (e, goes_on) refl

pub list_again : {A : Type 0} (P : A → Language) (read : Reader A) (f : Follows P read) (fuel : ℕ) (left : Option ℕ)
    (xs : List A) (t u : List ℕ) → Left P left xs t → length xs < fuel
    → list_by read fuel left (t ++ u) ≡ Some (xs, u)
unfolding list_by step_at
list_again P read f zero left xs t u s lt = absurd (omega arith)
list_again P read f (suc fuel) (Some n) [] t u s lt = rw (s.0, s.1) refl
list_again P read f (suc fuel) (Some n) (x ∷ xs) t u s lt =
    let e = s.1 in
    let regroup : t ++ u ≡ e.front ++ (e.back ++ u) = rw e.whole (append_assoc e.front e.back u) in
    rw (s.0, regroup) (step_again P read f (list_by read fuel) (Some (suc (length xs))) (Some (length xs)) x e.front
    (e.back ++ u) (step_known (length xs) (e.front ++ (e.back ++ u))) e.first
    ∙ bind_at (list_by read fuel (Some (length xs)) (e.back ++ u)) (xs, u) (λ xs. Some (x ∷ xs.0, xs.1))
    (list_again P read f fuel (Some (length xs)) xs e.back u (refl, e.second) (omega arith)))
list_again P read f (suc fuel) None [] t u s lt =
    rw (s.whole, s.first, s.second) (rw (head_again head.Break (break ∷ []) u refl) refl)
list_again P read f (suc fuel) None (x ∷ xs) t u s lt =
    let e = s.first in
    let rest = e.back ++ s.back in
    let regroup : t ++ u ≡ e.front ++ (rest ++ u) = rw (s.whole, e.whole) (simp append_assoc) in
    rw regroup (step_again P read f (list_by read fuel) None None x e.front (rest ++ u)
    (step_unknown (e.front ++ (rest ++ u))) e.first
    ∙ bind_at (list_by read fuel None (rest ++ u)) (xs, u) (λ xs. Some (x ∷ xs.0, xs.1)) (list_again P read f fuel
    None xs rest u (record { front = e.back; back = s.back; first = e.second; second = s.second; whole = refl })
    (omega arith)))

pub list_at_again : {A : Type 0} (P : A → Language) (read : Reader A) (f : Follows P read) (left : Option ℕ)
    (xs : List A) (t u : List ℕ) → Left P left xs t → list_at read left (t ++ u) ≡ Some (xs, u)
list_at_again P read f left xs t u s =
    list_again P read f (suc (length (t ++ u))) left xs t u s
    (omega (arith, left_long P read f left xs t s, length-append t u))

-- ---- what was decoded is encoded

-- an element was taken, and then the others
took_more : {A : Type 0} (P : A → Language) (left after : Option ℕ) (x : A) (xs : List A) (bytes r u : List ℕ)
    → ((t s : List ℕ) → P x t → Left P after xs s → Left P left (x ∷ xs) (t ++ s))
    → Took (P x) bytes r → Took (Left P after xs) r u → Took (Left P left (x ∷ xs)) bytes u
took_more P left after x xs bytes r u joins one others = record {
  text = one.text ++ others.text;
  encoded = joins one.text others.text one.encoded others.encoded;
  parts = one.parts ∙ ap (λ (s : List ℕ). one.text ++ s) others.parts ∙ sym (append_assoc one.text others.text u);
  rest_fits = others.rest_fits;
}

joins_known : {A : Type 0} (P : A → Language) (n : ℕ) (x : A) (xs : List A) (t s : List ℕ) → P x t
    → Left P (Some n) xs s → Left P (Some (suc n)) (x ∷ xs) (t ++ s)
joins_known P n x xs t s p l = (ap suc l.0, record { front = t; back = s; first = p; second = l.1; whole = refl })

joins_unknown : {A : Type 0} (P : A → Language) (x : A) (xs : List A) (t s : List ℕ) → P x t → Left P None xs s
    → Left P None (x ∷ xs) (t ++ s)
joins_unknown P x xs t s p l = record {
  front = t ++ l.front;
  back = l.back;
  first = record { front = t; back = l.front; first = p; second = l.first; whole = refl };
  second = l.second;
  whole = ap (λ (r : List ℕ). t ++ r) l.whole ∙ sym (append_assoc t l.front l.back);
}

-- a list that begins with an element: the element, and the others after it
pub record Parted {A : Type 0} (read : Reader A) (others : List ℕ → Read (List A)) (bytes : List ℕ) (xs : List A)
    (u : List ℕ) : Type 0 where
  pub first : A
  pub rest : List ℕ
  pub more : List A
  pub one : start read bytes ≡ Some (first, rest)
  pub after : others rest ≡ Some (more, u)
  pub whole : xs ≡ first ∷ more

pub parted : {A : Type 0} (read : Reader A) (others : Option ℕ → List ℕ → Read (List A)) (left : Option ℕ)
    (bytes : List ℕ) (h : Head) (r : List ℕ) (xs : List A) (u : List ℕ)
    → head_at bytes ≡ Some (h, r) → after_step read others (element left h r) ≡ Some (xs, u)
    → Parted read (others left) bytes xs u
parted {A = A} read others left bytes h r xs u e f =
    let x = bind_some (read h r) (λ x. others left x.1 >>= λ xs. Some (x.0 ∷ xs.0, xs.1)) (xs, u) f in
    let ys = bind_some (others left x.0.1) (λ xs. Some (x.0.0 ∷ xs.0, xs.1)) (xs, u) x.2 in
    let p = some_is (x.0.0 ∷ ys.0.0, ys.0.1) (xs, u) ys.2 in
    record {
      first = x.0.0;
      rest = x.0.1;
      more = ys.0.0;
      one = bind_at (head_at bytes) (h, r) (λ h. read h.0 h.1) e ∙ x.1;
      after = ys.1 ∙ ap (λ (q : List A × List ℕ). Some (ys.0.0, q.1)) p;
      whole = ap (λ (q : List A × List ℕ). q.0) (sym p);
    }

break_is : (h : Head) → is_break h ≡ true → h ≡ head.Break
break_is head.Break e = refl
break_is _ e = absurd cc

took_parted : {A : Type 0} (P : A → Language) (read : Reader A) (f : Follows P read) (left after : Option ℕ)
    (others : List ℕ → Read (List A)) (bytes : List ℕ) (xs : List A) (u : List ℕ)
    → ((x : A) (ys : List A) (t s : List ℕ) → P x t → Left P after ys s → Left P left (x ∷ ys) (t ++ s))
    → ((r : List ℕ) (ys : List A) → IsBytes r → others r ≡ Some (ys, u) → Took (Left P after ys) r u)
    → IsBytes bytes → Parted read others bytes xs u → Took (Left P left xs) bytes u
took_parted {A = A} P read f left after others bytes xs u joins following fits p =
    let one = f.takes p.first bytes p.rest fits p.one in
    subst (λ (ys : List A). Took (Left P left ys) bytes u) (sym p.whole) (took_more P left after p.first p.more
    bytes p.rest u (joins p.first p.more) one (following p.rest p.more one.rest_fits p.after))

took_end : {A : Type 0} (P : A → Language) (bytes r : List ℕ) (xs : List A) (u : List ℕ) → IsBytes bytes
    → head_at bytes ≡ Some (head.Break, r) → (let done : List A × List ℕ = ([], r) in Some done) ≡ Some (xs, u)
    → Took (Left P None xs) bytes u
took_end {A = A} P bytes r xs u fits e f =
    let p = some_is ([], r) (xs, u) f in
    let t = head_takes bytes head.Break r fits e in
    let none : [] ≡ xs = ap (λ (q : List A × List ℕ). q.0) p in
    let left : r ≡ u = ap (λ (q : List A × List ℕ). q.1) p in
    subst (λ (v : List ℕ). Took (Left P None xs) bytes v) left
    (subst (λ (ys : List A). Took (Left P None ys) bytes r) none (record {
      text = t.text;
      encoded = record { front = []; back = t.text; first = refl; second = t.encoded; whole = refl };
      parts = t.parts;
      rest_fits = t.rest_fits;
    }))

-- one step of a list that a break ends
took_unknown : {A : Type 0} (P : A → Language) (read : Reader A) (f : Follows P read) (others : Option ℕ → List ℕ
    → Read (List A)) (bytes : List ℕ) (h : Head) (r : List ℕ) (s : Step) (ends : Bool) (xs : List A) (u : List ℕ)
    → IsBytes bytes
    → ((r : List ℕ) (ys : List A) → IsBytes r → others None r ≡ Some (ys, u) → Took (Left P None ys) r u)
    → is_break h ≡ ends → head_at bytes ≡ Some (h, r) → cond ends (Some (end r)) (Some (element None h r)) ≡ Some s
    → after_step read others s ≡ Some (xs, u) → Took (Left P None xs) bytes u
took_unknown P read f others bytes h r s true xs u fits following is e g k =
    took_end P bytes r xs u fits (e ∙ ap (λ (b : Head). Some (b, r)) (break_is h is))
    (ap (after_step read others) (some_is (end r) s g) ∙ k)
took_unknown P read f others bytes h r s false xs u fits following is e g k =
    took_parted P read f None None (others None) bytes xs u (joins_unknown P) following fits (parted read others None
    bytes h r xs u e (ap (after_step read others) (some_is (element None h r) s g) ∙ k))

pub list_takes : {A : Type 0} (P : A → Language) (read : Reader A) (f : Follows P read) (fuel : ℕ) (left : Option ℕ)
    (bytes : List ℕ) (xs : List A) (u : List ℕ) → IsBytes bytes → list_by read fuel left bytes ≡ Some (xs, u)
    → Took (Left P left xs) bytes u
unfolding list_by step_at
list_takes {A = A} P read f zero left bytes xs u fits e = absurd (none_is_some (xs, u) e)
list_takes {A = A} P read f (suc fuel) (Some zero) bytes xs u fits e =
    let p = some_is ([], bytes) (xs, u) e in
    let none : [] ≡ xs = ap (λ (q : List A × List ℕ). q.0) p in
    let left : bytes ≡ u = ap (λ (q : List A × List ℕ). q.1) p in
    subst (λ (ys : List A). Took (Left P (Some 0) ys) bytes u) none
    (record { text = []; encoded = (refl, refl); parts = left; rest_fits = subst IsBytes left fits })
list_takes {A = A} P read f (suc fuel) (Some (suc n)) bytes xs u fits e =
    let s = bind_some (head_at bytes >>= λ h. Some (element (Some n) h.0 h.1)) (after_step read (list_by read fuel))
    (xs, u) e in
    let h = bind_some (head_at bytes) (λ h. Some (element (Some n) h.0 h.1)) s.0 s.1 in
    let at : after_step read (list_by read fuel) (element (Some n) h.0.0 h.0.1) ≡ Some (xs, u) =
    ap (after_step read (list_by read fuel)) (some_is _ s.0 h.2) ∙ s.2 in
    took_parted P read f (Some (suc n)) (Some n) (list_by read fuel (Some n)) bytes xs u (joins_known P n)
    (λ r ys. list_takes P read f fuel (Some n) r ys u) fits
    (parted read (list_by read fuel) (Some n) bytes h.0.0 h.0.1 xs u h.1 at)
list_takes {A = A} P read f (suc fuel) None bytes xs u fits e =
    let s = bind_some (head_at bytes >>= λ h. cond (is_break h.0) (Some (end h.1)) (Some (element None h.0 h.1)))
    (after_step read (list_by read fuel)) (xs, u) e in
    let h = bind_some (head_at bytes) (λ h. cond (is_break h.0) (Some (end h.1)) (Some (element None h.0 h.1))) s.0
    s.1 in
    took_unknown P read f (list_by read fuel) bytes h.0.0 h.0.1 s.0 (is_break h.0.0) xs u fits
    (λ r ys. list_takes P read f fuel None r ys u) refl h.1 h.2 s.2
