-- What a call that decodes and encodes again returns, and leaves in the caller's memory.
use Rattle.std.specs.Prelude.{ℕ, List, Option, Some, None}
use Rattle.passkey_c.specs.Asked.{WritesAsked, is_item}
use Rattle.passkey_c.specs.Writing.{Outputs, IsUnknown}
use Rattle.passkey_catalogue.specs.Catalogue.{definition}
use Rattle.passkey_catalogue.specs.Rewriting.{Encodes, IsRefusal}
use Rattle.passkey_catalogue.specs.declared.kind.Kind.{Kind}
use Rattle.passkey_malformed.specs.declared.demands.Demands.{Demands}

abbrev pub Rewrites : Option Kind → Option Demands → List ℕ → Outputs → Outputs → ℕ → Type 0
Rewrites (Some kind) demands input old new status =
    let d = definition kind in
    WritesAsked (Encodes d input) (IsRefusal d input) demands (is_item d) input old new status
Rewrites None demands input old new status = IsUnknown old new status
