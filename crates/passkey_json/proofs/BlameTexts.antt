-- Steps that are written one after the other.
use Rattle.std.proofs.Common.{◌≡◌, ◌∙◌, ℕ, ◌+◌, ◌<◌, List, [], ◌∷◌, ◌++◌, length, take, get_or, Option, Some, None, IfSome, Result, IsOk, refl, ap, sym, add-one, append-nil, take-suc}
use Rattle.std.proofs.Output.{has_written_append, then_text_assoc}
use Rattle.std.specs.Prelude.{false}
use Rattle.std.specs.Fmt.{◌++?◌, DisplaysOnOk, HasWritten, IsPlainFormatter}
use Rattle.std.specs.declared.fmt.Error.{Error}
use Rattle.std.specs.declared.fmt.Formatter.{Formatter}
use Rattle.passkey_json.specs.BlameTexts.{step_text, steps_text}
use Rattle.passkey_json.specs.declared.blame.JsonStep.{JsonStep}

append_none : (o : Option (List ℕ)) → (o ++? Some []) ≡ (Some [] ++? o)
append_none None = refl
append_none (Some t) = ap Some (append-nil t)

steps_end : (ss : List JsonStep) (s : JsonStep) → steps_text (ss ++ s ∷ []) ≡ (steps_text ss ++? step_text false s)
steps_end [] s = append_none (step_text false s)
steps_end (x ∷ ss) s = ap (λ (t : Option (List ℕ)). step_text false x ++? t) (steps_end ss s)
    ∙ sym (then_text_assoc (step_text false x) (steps_text ss) (step_text false s))

-- the steps up to one, and that one
steps_taken : (ss : List JsonStep) (k : ℕ) (s : JsonStep) → k < length ss → s ≡ get_or ss k s
    → steps_text (take (k + 1) ss) ≡ (steps_text (take k ss) ++? step_text false s)
steps_taken ss k s within is = ap (λ (n : ℕ). steps_text (take n ss)) (add-one k)
    ∙ ap steps_text (take-suc ss k s within)
    ∙ ap (λ (x : JsonStep). steps_text (take k ss ++ x ∷ [])) (sym is)
    ∙ steps_end (take k ss) s

module _ {W : Type 0} (took : W → List ℕ → W → Type 0) (f g h : Formatter W) (r : Result (Unit {0}) Error) where
  joined : (o p : Option (List ℕ)) → IsOk r → IfSome o (λ text. IsPlainFormatter f → HasWritten took f text g)
      → DisplaysOnOk took g r p h → IfSome (o ++? p) (λ text. IsPlainFormatter f → HasWritten took f text h)
  joined None p ok before now = tt
  joined (Some a) None ok before now = tt
  joined (Some a) (Some b) ok before now =
      λ plain. let x = before plain in has_written_append took f a g b h x (now x.plain ok)

  -- a step after those before it
  pub next_written : (ss : List JsonStep) (k : ℕ) (s : JsonStep) → k < length ss → s ≡ get_or ss k s → IsOk r
      → IfSome (steps_text (take k ss)) (λ text. IsPlainFormatter f → HasWritten took f text g)
      → DisplaysOnOk took g r (step_text false s) h
      → IfSome (steps_text (take (k + 1) ss)) (λ text. IsPlainFormatter f → HasWritten took f text h)
  next_written ss k s within is ok before now =
      rw (steps_taken ss k s within is) (joined (steps_text (take k ss)) (step_text false s) ok before now)
