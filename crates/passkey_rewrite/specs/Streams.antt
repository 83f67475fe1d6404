-- What a writer got of an output.
use Rattle.std.specs.Prelude.{◌≡◌, ◌≢◌, ℕ, List, [], ◌++◌, Option}
use Rattle.std.specs.Io.KnownBytes.{Appends}

-- The writer got the beginning of the output, but not all of it.
pub record AppendsBeginning (old new : Option (List ℕ)) (output : List ℕ) : Type 0 where
  pub begun : List ℕ
  pub missing : List ℕ
  pub whole : output ≡ begun ++ missing
  pub unfinished : missing ≢ []
  pub taken : Appends old new begun
