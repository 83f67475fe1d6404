use Rattle.std.proofs.Common.{◌≡◌, ◌∙◌, ap, Bool, true, false, if◌then◌else◌, Option, Some, None, w64, to_z, of_z, SFits, rules}
use Rattle.std.proofs.Math.Facts.{to_z-of_z}
use Rattle.std.specs.Prelude.{ℤ}
use Rattle.passkey_cbor.proofs.items.Binds.{some_is}
use Rattle.passkey_iana.specs.Iana.{algorithm_named}
use Rattle.passkey_iana.specs.Signed64.{is_signed_64}
use Rattle.passkey_iana.specs.declared.algorithm.Algorithm.{Algorithm}
use Rattle.passkey_render.proofs.leaf.algorithm_of.Goals as goal

named_in : (z n : ℤ) (found : Option Algorithm) (b : Bool) → SFits w64 n → Some n ≡ (if b then Some z else None)
    → found ≡ algorithm_named (to_z w64 (of_z w64 n)) → found ≡ (if b then algorithm_named z else None)
named_in z n found true fits e is = is ∙ ap algorithm_named (to_z-of_z fits ∙ some_is n z e)
named_in z n found false fits e is = absurd cc

pub returns-in-Some : goal.returns-in-Some
returns-in-Some c =
    let fits : SFits w64 c.in-Some.number = search rules in
    named_in c.args.number c.in-Some.number c.from_i64.result (is_signed_64 c.args.number) fits c.in-Some.ensures
    c.from_i64.ensures
