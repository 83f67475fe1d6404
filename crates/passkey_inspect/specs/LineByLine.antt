-- One input a line, one answer a line.
use Rattle.std.specs.Prelude.{◌≡◌, ◌⊎◌, ℕ, List, [], ◌∷◌, ◌++◌, Option, codes}
use Rattle.std.specs.Io.KnownBytes.{Appends}
use Rattle.passkey_cbor_text.specs.diagnose.Quoted.{quoted}
use Rattle.passkey_inspect.specs.declared.options.Options.{Options}
use Rattle.passkey_inspect.specs.Prints.{PrintsInput}

-- a JSON object with the fault
abbrev pub refusal_line : List ℕ → List ℕ
refusal_line fault = codes "{\"refused\":" ++ quoted fault ++ 125 ∷ 10 ∷ []

-- The line is that of some fault.
abbrev pub IsRefusal : List ℕ → Type 0
IsRefusal line = (fault : List ℕ) × (line ≡ refusal_line fault)

-- The answer to an input: what is printed of it, or a fault.
abbrev pub Answers : Options → List ℕ → List ℕ → Type 0
Answers o input line = PrintsInput o input line ⊎ IsRefusal line

-- The answer to an input is appended.
pub record AppendsAnswer (o : Options) (input before after : List ℕ) : Type 0 where
  pub line : List ℕ
  pub answers : Answers o input line
  pub appended : after ≡ before ++ line

-- The text answers the lines that end in these bytes. What is pending of the first was read before them; what is left is of a
-- line that hasn't ended.
abbrev pub Answered : Options → List ℕ → List ℕ → List ℕ → List ℕ → Type 0
Answered o [] pending left text = (left ≡ pending) × (text ≡ [])
Answered o (byte ∷ rest) pending left text =
    ((byte ≡ 10) × ((line more : List ℕ) × Answers o pending line × Answered o rest [] left more × (text ≡ line ++ more)))
    ⊎ ((byte ≡ 10 → ⊥) × Answered o rest (pending ++ byte ∷ []) left text)

-- The answers to the lines that end in these bytes are appended.
pub record AppendsAnswers (o : Options) (bytes pending left before after : List ℕ) : Type 0 where
  pub text : List ℕ
  pub answered : Answered o bytes pending left text
  pub appended : after ≡ before ++ text

-- The text answers what is left, which no line feed ends, if anything is.
abbrev pub AnswersLast : Options → List ℕ → List ℕ → Type 0
AnswersLast o [] text = text ≡ []
AnswersLast o (byte ∷ rest) text = Answers o (byte ∷ rest) text

-- The answer to what is left, if anything is, is appended.
pub record AppendsLast (o : Options) (left before after : List ℕ) : Type 0 where
  pub text : List ℕ
  pub answers : AnswersLast o left text
  pub appended : after ≡ before ++ text

-- The text answers each line of the input, in their order.
pub record AnswersInput (o : Options) (input text : List ℕ) : Type 0 where
  pub left : List ℕ
  pub ended : List ℕ
  pub last : List ℕ
  pub answered : Answered o input [] left ended
  pub answers_last : AnswersLast o left last
  pub whole : text ≡ ended ++ last

-- The answers to the lines of an input are written after what was written.
pub record WritesAnswers (o : Options) (input : List ℕ) (old new : Option (List ℕ)) : Type 0 where
  pub text : List ℕ
  pub answers : AnswersInput o input text
  pub appended : Appends old new text
