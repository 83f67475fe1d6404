-- Sets of byte lists, and ways to combine them.
use Rattle.std.specs.Prelude.{◌≡◌, ◌⊎◌, ℕ, List, [], ◌∷◌, ◌++◌}

-- a set of byte lists
abbrev pub Language : Type 1
Language = List ℕ → Type 0

-- only this byte list
abbrev pub Is : List ℕ → Language
Is t = λ s. s ≡ t

-- a byte list of the first language, followed by one of the second
pub record Then (P Q : Language) (s : List ℕ) : Type 0 where
  pub front : List ℕ
  pub back : List ℕ
  pub first : P front
  pub second : Q back
  pub whole : s ≡ front ++ back

-- the byte lists of either language
abbrev pub Either : Language → Language → Language
Either P Q = λ s. P s ⊎ Q s

-- the byte lists of the language if the fact holds, and else none
abbrev pub Provided : Type 0 → Language → Language
Provided fact P = λ s. fact × P s

-- the byte lists of any of the languages
abbrev pub Some_of : {A : Type 0} → (A → Language) → Language
Some_of {A} P = λ s. (a : A) × P a s

-- one byte list for each element, one after the other
abbrev pub Each : {A : Type 0} → (A → Language) → List A → Language
Each P [] = Is []
Each P (x ∷ xs) = Then (P x) (Each P xs)
