use Rattle.passkey_kinds.proofs.Steps.{Option, List, ℕ, refl, ap, fields_of, sets_put}
use Rattle.passkey_kinds.specs.Typed.{below, list, optional}
use Rattle.passkey_registered.proofs.ExtensionsLaws.{lists_same, seen_lists}
use Rattle.passkey_registered.specs.extensions.MakeCredentialOutputs.{make_credential_outputs}
use Rattle.passkey_registered.specs.declared.extensions.make_credential.signed_outputs.SignedExtensionOutputs.{SignedExtensionOutputs}
use Rattle.std.proofs.Common.{◌^◌}
use Rattle.passkey_registered.proofs.extensions.make_credential.signed_outputs.SignedExtensionOutputsTableRecord.put.Goals as goal

pub returns-in-1-clause-puts : goal.returns-in-1-clause-puts
returns-in-1-clause-puts g c = λ i to at.
    let old = c.args.self.now in
    let put : Option (List (List ℕ)) → SignedExtensionOutputs → SignedExtensionOutputs = λ x r. record r { uvm = x } in
    sets_put (fields_of make_credential_outputs) seen_lists (optional (list (list (below (2 ^ 32))))) put c.args.number 1 i
    c.set.new.field old (put c.set.new.field old) c.set.result c.in-1.is refl refl refl
    (ap (λ o. put o old) (lists_same c.set.new.field)) (c.set.ensures.sets i to at)
