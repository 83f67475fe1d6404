-- Bytes that decode to a head encode it.
use Rattle.std.proofs.Common.{◌≡◌, ◌⊎◌, ℕ, zero, suc, ◌+◌, ◌*◌, ◌/◌, ◌%◌, ◌<◌, ◌≤◌, List, [], ◌∷◌, ◌++◌, Some, None, refl, sym, ap, subst, ◌∙◌, arith, inl, inr}
use Rattle.std.specs.Int.{to_be_bytes}
use Rattle.std.proofs.lemmas.Bool.{cases_eq, cases_lt, lt-ltb, le-ltb, ne_eqb}
use Rattle.passkey_cbor.specs.Bytes.{IsBytes}
use Rattle.passkey_cbor.specs.Heads.{Size, one, two, four, eight, width, limit, information, Heads, within, following, indefinite}
use Rattle.passkey_cbor.specs.HeadEncoding.{IsEncodingOfHead}
use Rattle.passkey_cbor.specs.HeadReading.{◌>>=◌, number_at, size_of, argument_at, with_argument, without_argument, simple_or_float, simple_at, head_after, head_at}
use Rattle.passkey_cbor.specs.declared.head.Head.{Head}
use Rattle.passkey_cbor.specs.declared.head.Head.TheVariants as head
use Rattle.passkey_cbor.proofs.items.Binds.{some_is, none_is_some, bind_some}
use Rattle.passkey_cbor.proofs.heads.Numbers.{IsBytes-tail, number_is}

-- Bytes in the language were taken from the beginning, and u is left.
pub record Took (P : List ℕ → Type 0) (bytes u : List ℕ) : Type 0 where
  pub text : List ℕ
  pub encoded : P text
  pub parts : bytes ≡ text ++ u
  pub rest_fits : IsBytes u

pub took_as : (P Q : List ℕ → Type 0) (bytes u : List ℕ) → (t : Took P bytes u) → Q t.text → Took Q bytes u
took_as P Q bytes u t q = record { text = t.text; encoded = q; parts = t.parts; rest_fits = t.rest_fits }

-- ---- arguments

size_is : (info : ℕ) (s : Size) → size_of info ≡ Some s → info ≡ information s
size_is info s e = by_24 (cases_eq info 24) where
  by_27 : (info ≡ 24 → ⊥) → (info ≡ 25 → ⊥) → (info ≡ 26 → ⊥) → (info ≡ 27) ⊎ (info ≡ 27 → ⊥) → info ≡ information s
  by_27 a b c (inl q) = q ∙ ap information (some_is eight s (ap size_of (sym q) ∙ e))
  by_27 a b c (inr d) =
      absurd (none_is_some s (rw (ne_eqb info 24 a, ne_eqb info 25 b, ne_eqb info 26 c, ne_eqb info 27 d) at e))

  by_26 : (info ≡ 24 → ⊥) → (info ≡ 25 → ⊥) → (info ≡ 26) ⊎ (info ≡ 26 → ⊥) → info ≡ information s
  by_26 a b (inl q) = q ∙ ap information (some_is four s (ap size_of (sym q) ∙ e))
  by_26 a b (inr c) = by_27 a b c (cases_eq info 27)

  by_25 : (info ≡ 24 → ⊥) → (info ≡ 25) ⊎ (info ≡ 25 → ⊥) → info ≡ information s
  by_25 a (inl q) = q ∙ ap information (some_is two s (ap size_of (sym q) ∙ e))
  by_25 a (inr b) = by_26 a b (cases_eq info 26)

  by_24 : (info ≡ 24) ⊎ (info ≡ 24 → ⊥) → info ≡ information s
  by_24 (inl q) = q ∙ ap information (some_is one s (ap size_of (sym q) ∙ e))
  by_24 (inr a) = by_25 a (cases_eq info 25)

argument_is : (major info : ℕ) (bytes : List ℕ) (n : ℕ) (u : List ℕ) → IsBytes bytes
    → argument_at info bytes ≡ Some (n, u) → Took (Heads major n) ((32 * major + info) ∷ bytes) u
unfolding argument_at
argument_is major info bytes n u fits e = by_test (cases_lt info 24) where
  by_test : (info < 24) ⊎ (24 ≤ info) → Took (Heads major n) ((32 * major + info) ∷ bytes) u
  by_test (inl lt) =
      let p = some_is (info, bytes) (n, u) (rw (lt-ltb info 24 lt) at e) in
      let n_is : info ≡ n = ap (λ (q : ℕ × List ℕ). q.0) p in
      let u_is : bytes ≡ u = ap (λ (q : ℕ × List ℕ). q.1) p in
      record {
        text = (32 * major + info) ∷ [];
        encoded = within (omega arith) (ap (λ (k : ℕ). (32 * major + k) ∷ []) n_is);
        parts = ap (λ (r : List ℕ). (32 * major + info) ∷ r) u_is;
        rest_fits = subst IsBytes u_is fits;
      }
  by_test (inr le) =
      let b = bind_some (size_of info) (λ s. number_at s bytes) (n, u) (rw (le-ltb info 24 le) at e) in
      let t = number_is b.0 bytes n u fits b.2 in
      record {
        text = (32 * major + info) ∷ to_be_bytes (width b.0) n;
        encoded = following b.0 t.below
            (ap (λ (i : ℕ). (32 * major + i) ∷ to_be_bytes (width b.0) n) (size_is info b.0 b.1));
        parts = ap (λ (r : List ℕ). (32 * major + info) ∷ r) t.parts;
        rest_fits = t.rest_fits;
      }

-- ---- the head of a major type

with_argument_is : (major n : ℕ) (h : Head) (t : List ℕ) → with_argument major n ≡ Some h → Heads major n t
    → IsEncodingOfHead h t
with_argument_is zero n h t e s = subst (λ (g : Head). IsEncodingOfHead g t) (some_is (head.Unsigned n) h e) s
with_argument_is (suc zero) n h t e s = subst (λ (g : Head). IsEncodingOfHead g t) (some_is (head.Negative n) h e) s
with_argument_is (suc (suc zero)) n h t e s =
    subst (λ (g : Head). IsEncodingOfHead g t) (some_is (head.Bytes (Some n)) h e) s
with_argument_is (suc (suc (suc zero))) n h t e s =
    subst (λ (g : Head). IsEncodingOfHead g t) (some_is (head.Text (Some n)) h e) s
with_argument_is (suc (suc (suc (suc zero)))) n h t e s =
    subst (λ (g : Head). IsEncodingOfHead g t) (some_is (head.Array (Some n)) h e) s
with_argument_is (suc (suc (suc (suc (suc zero))))) n h t e s =
    subst (λ (g : Head). IsEncodingOfHead g t) (some_is (head.Map (Some n)) h e) s
with_argument_is (suc (suc (suc (suc (suc (suc zero)))))) n h t e s =
    subst (λ (g : Head). IsEncodingOfHead g t) (some_is (head.Tag n) h e) s
with_argument_is (suc (suc (suc (suc (suc (suc (suc m))))))) n h t e s = absurd (none_is_some h e)

without_argument_is : (major : ℕ) (h : Head) → without_argument major ≡ Some h
    → IsEncodingOfHead h (indefinite major ∷ [])
without_argument_is (suc (suc zero)) h e =
    subst (λ (g : Head). IsEncodingOfHead g (95 ∷ [])) (some_is (head.Bytes None) h e) refl
without_argument_is (suc (suc (suc zero))) h e =
    subst (λ (g : Head). IsEncodingOfHead g (127 ∷ [])) (some_is (head.Text None) h e) refl
without_argument_is (suc (suc (suc (suc zero)))) h e =
    subst (λ (g : Head). IsEncodingOfHead g (159 ∷ [])) (some_is (head.Array None) h e) refl
without_argument_is (suc (suc (suc (suc (suc zero))))) h e =
    subst (λ (g : Head). IsEncodingOfHead g (191 ∷ [])) (some_is (head.Map None) h e) refl
without_argument_is (suc (suc (suc (suc (suc (suc (suc zero))))))) h e =
    subst (λ (g : Head). IsEncodingOfHead g (255 ∷ [])) (some_is head.Break h e) refl
without_argument_is _ h e = absurd (none_is_some h e)

-- major type 7, with bytes after the initial byte
simple_or_float_is : (s : Size) (bytes : List ℕ) (n : ℕ) (u : List ℕ) (h : Head) → IsBytes bytes → number_at s bytes
    ≡ Some (n, u) → simple_or_float s n ≡ Some h → Took (IsEncodingOfHead h) ((32 * 7 + information s) ∷ bytes) u
simple_or_float_is s bytes n u h fits e f =
    let t = number_is s bytes n u fits e in
    record {
      text = (32 * 7 + information s) ∷ to_be_bytes (width s) n;
      encoded = encoded s t.below f;
      parts = ap (λ (r : List ℕ). (32 * 7 + information s) ∷ r) t.parts;
      rest_fits = t.rest_fits;
    } where
      encoded : (s : Size) → n < limit s → simple_or_float s n ≡ Some h
          → IsEncodingOfHead h ((32 * 7 + information s) ∷ to_be_bytes (width s) n)
      encoded one lt f = of_one (cases_lt n 32) where
        of_one : (n < 32) ⊎ (32 ≤ n) → IsEncodingOfHead h ((32 * 7 + information one) ∷ to_be_bytes (width one) n)
        of_one (inl below) = absurd (none_is_some h (rw (lt-ltb n 32 below) at f))
        of_one (inr above) =
            subst (λ (g : Head). IsEncodingOfHead g (248 ∷ (n % 256) ∷ [])) (some_is (head.Simple n) h
            (rw (le-ltb n 32 above) at f)) (inr ((above, lt), ap (λ (b : ℕ). 248 ∷ b ∷ []) (omega arith)))
      encoded two lt f = subst (λ (g : Head). IsEncodingOfHead g (249 ∷ to_be_bytes (width two) n))
          (some_is (head.Float (record { width = 2; bits = n })) h f) (inl ((refl, lt), refl))
      encoded four lt f = subst (λ (g : Head). IsEncodingOfHead g (250 ∷ to_be_bytes (width four) n))
          (some_is (head.Float (record { width = 4; bits = n })) h f) (inr (inl ((refl, lt), refl)))
      encoded eight lt f = subst (λ (g : Head). IsEncodingOfHead g (251 ∷ to_be_bytes (width eight) n))
          (some_is (head.Float (record { width = 8; bits = n })) h f) (inr (inr ((refl, lt), refl)))

simple_is : (info : ℕ) (bytes : List ℕ) (h : Head) (u : List ℕ) → IsBytes bytes → simple_at info bytes ≡ Some (h, u)
    → Took (IsEncodingOfHead h) ((32 * 7 + info) ∷ bytes) u
unfolding simple_at
simple_is info bytes h u fits e = by_test (cases_lt info 24) where
  by_test : (info < 24) ⊎ (24 ≤ info) → Took (IsEncodingOfHead h) ((32 * 7 + info) ∷ bytes) u
  by_test (inl lt) =
      let p = some_is (head.Simple info, bytes) (h, u) (rw (lt-ltb info 24 lt) at e) in
      let u_is : bytes ≡ u = ap (λ (q : Head × List ℕ). q.1) p in
      record {
        text = (32 * 7 + info) ∷ [];
        encoded = subst (λ (g : Head). IsEncodingOfHead g ((32 * 7 + info) ∷ []))
            (ap (λ (q : Head × List ℕ). q.0) p) (inl (lt, refl));
        parts = ap (λ (r : List ℕ). (32 * 7 + info) ∷ r) u_is;
        rest_fits = subst IsBytes u_is fits;
      }
  by_test (inr le) =
      let s = bind_some (size_of info) (λ s. number_at s bytes >>= λ n. simple_or_float s n.0
      >>= λ h. Some (h, n.1)) (h, u) (rw (le-ltb info 24 le) at e) in
      let n = bind_some (number_at s.0 bytes) (λ n. simple_or_float s.0 n.0 >>= λ h. Some (h, n.1)) (h, u) s.2 in
      let g = bind_some (simple_or_float s.0 n.0.0) (λ h. Some (h, n.0.1)) (h, u) n.2 in
      let p = some_is (g.0, n.0.1) (h, u) g.2 in
      let made : simple_or_float s.0 n.0.0 ≡ Some h = g.1 ∙ ap (λ (q : Head × List ℕ). Some q.0) p in
      let left : number_at s.0 bytes ≡ Some (n.0.0, u) = n.1 ∙ ap (λ (q : Head × List ℕ). Some (n.0.0, q.1)) p in
      subst (λ (i : ℕ). Took (IsEncodingOfHead h) ((32 * 7 + i) ∷ bytes) u) (sym (size_is info s.0 s.1))
      (simple_or_float_is s.0 bytes n.0.0 u h fits left made)

-- ---- any head

after_is : (major info : ℕ) (bytes : List ℕ) (h : Head) (u : List ℕ) → IsBytes bytes
    → head_after major info bytes ≡ Some (h, u) → Took (IsEncodingOfHead h) ((32 * major + info) ∷ bytes) u
unfolding head_after
after_is major info bytes h u fits e = by_31 (cases_eq info 31) where
  by_7 : (info ≡ 31 → ⊥) → (major ≡ 7) ⊎ (major ≡ 7 → ⊥) → Took (IsEncodingOfHead h) ((32 * major + info) ∷ bytes) u
  by_7 above (inl q) =
      let f : head_after 7 info bytes ≡ Some (h, u) = ap (λ (m : ℕ). head_after m info bytes) (sym q) ∙ e in
      let g : simple_at info bytes ≡ Some (h, u) = rw (ne_eqb info 31 above) at f in
      subst (λ (m : ℕ). Took (IsEncodingOfHead h) ((32 * m + info) ∷ bytes) u) (sym q)
      (simple_is info bytes h u fits g)
  by_7 above (inr other) =
      let n = bind_some (argument_at info bytes) (λ n. with_argument major n.0 >>= λ h. Some (h, n.1)) (h, u)
      (rw (ne_eqb info 31 above, ne_eqb major 7 other) at e) in
      let g = bind_some (with_argument major n.0.0) (λ h. Some (h, n.0.1)) (h, u) n.2 in
      let p = some_is (g.0, n.0.1) (h, u) g.2 in
      let made : with_argument major n.0.0 ≡ Some h = g.1 ∙ ap (λ (q : Head × List ℕ). Some q.0) p in
      let left : argument_at info bytes ≡ Some (n.0.0, u) = n.1 ∙ ap (λ (q : Head × List ℕ). Some (n.0.0, q.1)) p in
      let t = argument_is major info bytes n.0.0 u fits left in
      took_as (Heads major n.0.0) (IsEncodingOfHead h) ((32 * major + info) ∷ bytes) u t
      (with_argument_is major n.0.0 h t.text made t.encoded)

  by_31 : (info ≡ 31) ⊎ (info ≡ 31 → ⊥) → Took (IsEncodingOfHead h) ((32 * major + info) ∷ bytes) u
  by_31 (inl q) =
      let f : head_after major 31 bytes ≡ Some (h, u) = ap (λ (i : ℕ). head_after major i bytes) (sym q) ∙ e in
      let g = bind_some (without_argument major) (λ h. Some (h, bytes)) (h, u) f in
      let p = some_is (g.0, bytes) (h, u) g.2 in
      let made : without_argument major ≡ Some h = g.1 ∙ ap (λ (q : Head × List ℕ). Some q.0) p in
      let u_is : bytes ≡ u = ap (λ (q : Head × List ℕ). q.1) p in
      record {
        text = indefinite major ∷ [];
        encoded = without_argument_is major h made;
        parts = ap (λ (i : ℕ). (32 * major + i) ∷ bytes) q ∙ ap (λ (r : List ℕ). indefinite major ∷ r) u_is;
        rest_fits = subst IsBytes u_is fits;
      }
  by_31 (inr above) = by_7 above (cases_eq major 7)

pub head_takes : (bytes : List ℕ) (h : Head) (u : List ℕ) → IsBytes bytes → head_at bytes ≡ Some (h, u)
    → Took (IsEncodingOfHead h) bytes u
unfolding head_at
head_takes [] h u fits e = absurd (none_is_some (h, u) e)
head_takes (b ∷ bytes) h u fits e =
    let initial : 32 * (b / 32) + b % 32 ≡ b = omega arith in
    subst (λ (c : ℕ). Took (IsEncodingOfHead h) (c ∷ bytes) u) initial
    (after_is (b / 32) (b % 32) bytes h u (IsBytes-tail b bytes fits) e)
