-- What a run returns, and what it writes.
use Rattle.std.specs.Prelude.{◌≡◌, ℕ, List, [], ◌∷◌, ◌++◌, Option, Result, Ok, Err}
use Rattle.std.specs.Io.KnownBytes.{Appends, Keeps}
use Rattle.passkey_rewrite.specs.Streams.{AppendsBeginning}
use Rattle.passkey_rewrite.specs.declared.kind.Kind.{Kind}
use Rattle.passkey_rewrite.specs.declared.fault.RunFault.{RunFault}
use Rattle.passkey_rewrite.specs.declared.fault.RunFault.TheVariants.{InputFailed, OutputFailed}
use Rattle.passkey_rewrite.specs.Rewrite.{Shown, HasNoOutput}

-- The output: what the kind makes of the input, and a line feed.
pub record IsOutput (kind : Kind) (input output : List ℕ) : Type 0 where
  pub text : List ℕ
  pub shown : Shown kind input text
  pub line : output ≡ text ++ 10 ∷ []

-- The writer got an output of the kind for the input: all of it or its beginning, as `IsTaken`
-- says.
pub record Writes (kind : Kind) (input : List ℕ) (IsTaken : List ℕ → Type 0) : Type 0 where
  pub output : List ℕ
  pub right : IsOutput kind input output
  pub taken : IsTaken output

-- The result of a run over the whole input, and the writer's bytes after it: the output is
-- appended; or nothing is appended, because the input is rejected, memory ran out or a read failed;
-- or a write failed, after the beginning of the output was appended.
abbrev pub Shows : {T : Type 0} → Kind → List ℕ → Result T RunFault → Option (List ℕ) → Option (List ℕ) → Type 0
Shows kind input (Ok done) old new = Writes kind input (Appends old new)
Shows kind input (Err OutputFailed) old new = Writes kind input (AppendsBeginning old new)
Shows kind input (Err InputFailed) old new = Keeps old new
Shows kind input (Err fault) old new = HasNoOutput kind input fault × Keeps old new
