-- A trimmed text is the core of the text.
use Rattle.std.specs.List.{AllPass}
use Rattle.std.proofs.Common.{◌≡◌, ℕ, List, [], ◌∷◌, ◌++◌, reverse, Bool, true, false, if◌then◌else◌, refl, sym, ap, ◌∙◌, append_assoc}
use Rattle.std.proofs.lemmas.List.{reverse-append, reverse-reverse}
use Rattle.std.proofs.lemmas.List.Elements.{All-nil, All-cons, All-head, All-tail, All-same, All-push}
use Rattle.passkey_rewrite.specs.Trimmed.{is_space, trimmed_start, trimmed_end, trimmed, IsCore}

abbrev IsSpace : ℕ → Type 0
IsSpace byte = is_space byte ≡ true

-- a text is the white space at its beginning, and what trimming leaves
abbrev Splits : List ℕ → List ℕ → Type 0
Splits text rest = (before : List ℕ) × (text ≡ before ++ rest) × AllPass is_space before

split_if : (byte : ℕ) (text : List ℕ) (t : Bool) → is_space byte ≡ t → Splits text (trimmed_start text)
    → Splits (byte ∷ text) (if t then trimmed_start text else byte ∷ text)
split_if byte text true e s = (byte ∷ s.0, ap (λ l. byte ∷ l) s.1, All-cons IsSpace byte s.0 e s.2)
split_if byte text false e s = ([], refl, All-nil IsSpace)

start_splits : (text : List ℕ) → Splits text (trimmed_start text)
start_splits [] = ([], refl, All-nil IsSpace)
start_splits (byte ∷ text) = split_if byte text (is_space byte) refl (start_splits text)

begins_if : (b : ℕ) (text : List ℕ) (t : Bool) → is_space b ≡ t
    → ((byte : ℕ) (rest : List ℕ) → trimmed_start text ≡ byte ∷ rest → is_space byte ≡ false)
    → (byte : ℕ) (rest : List ℕ) → (if t then trimmed_start text else b ∷ text) ≡ byte ∷ rest
    → is_space byte ≡ false
begins_if b text true e inner byte rest h = inner byte rest h
begins_if b text false e inner byte rest h = let same : b ≡ byte = cc in ap is_space (sym same) ∙ e

-- what trimming leaves doesn't begin with white space
start_begins : (text : List ℕ) (byte : ℕ) (rest : List ℕ) → trimmed_start text ≡ byte ∷ rest → is_space byte ≡ false
start_begins [] byte rest h = cc
start_begins (b ∷ text) byte rest h = begins_if b text (is_space b) refl (start_begins text) byte rest h

spaces-reverse : (text : List ℕ) → AllPass is_space text → AllPass is_space (reverse text)
spaces-reverse [] h = h
spaces-reverse (byte ∷ text) h =
    let tail = All-tail IsSpace byte text h in
    All-same IsSpace (reverse (byte ∷ text)) (reverse text ++ byte ∷ []) (reverse-append (byte ∷ []) text)
    (All-push IsSpace (reverse text) byte (spaces-reverse text tail) (All-head IsSpace byte text h))

-- the same at the end
end_whole : (text : List ℕ) → text ≡ trimmed_end text ++ reverse (start_splits (reverse text)).0
end_whole text =
    let s = start_splits (reverse text) in
    sym (reverse-reverse text) ∙ ap reverse s.1 ∙ reverse-append s.0 (trimmed_start (reverse text))

end_ends : (text : List ℕ) (byte : ℕ) (rest : List ℕ) → trimmed_end text ≡ rest ++ byte ∷ [] → is_space byte ≡ false
end_ends text byte rest h =
    start_begins (reverse text) byte (reverse rest)
    (sym (reverse-reverse (trimmed_start (reverse text))) ∙ ap reverse h ∙ reverse-append rest (byte ∷ []))

pub trimmed_is_core : (text : List ℕ) → IsCore text (trimmed text)
trimmed_is_core text =
    let front = start_splits text in
    let inner = trimmed_start text in
    let back = start_splits (reverse inner) in
    let after = reverse back.0 in
    let parts = end_whole inner in record {
      before = front.0;
      after = after;
      whole = front.1 ∙ ap (λ l. front.0 ++ l) parts ∙ sym (append_assoc front.0 (trimmed text) after);
      space_before = front.2;
      space_after = spaces-reverse back.0 back.2;
      begins = λ byte rest h. start_begins text byte (rest ++ after) (parts ∙ ap (λ l. l ++ after) h);
      ends = end_ends inner;
    }
