-- What is blamed for a record's fault is to blame.
use Rattle.std.proofs.Common.{◌≡◌, List, [], ◌∷◌, false, Result, Ok, Err, is_ok, is_some, refl}
use Rattle.std.specs.Result.{result_ok}
use Rattle.passkey_json.specs.Along.{Leads, holds}
use Rattle.passkey_json.specs.Fault.{Fault, Gives}
use Rattle.passkey_json.specs.Members.{in_object, record_kind}
use Rattle.passkey_json.specs.RecordAlong.{record_strict}
use Rattle.passkey_json.specs.Shape.{Shape, Step, tested}
use Rattle.passkey_json.specs.Table.{PlainTable, members_in, table_shape}
use Rattle.passkey_json.specs.declared.json_fault.JsonFault.{JsonFault}
use Rattle.passkey_json.specs.declared.json_fault.JsonFault.TheVariants as fault
use Rattle.serde_json.specs.Data.{Data}
use Rattle.passkey_json.specs.Blame.{Blames, IsBlamed, Reason, path_of, reason_of}
use Rattle.passkey_explain_json.specs.Explains.{IsExplained}
use Rattle.passkey_json.specs.declared.blame.JsonBlame.{JsonBlame}

-- what is blamed is where the path leads
pub leads_of : (path : List Step) (why : Reason) (s : Shape) (d : Data) → IsBlamed path why s d → Leads path s d
leads_of [] why s d b = tt
leads_of (t ∷ ts) why s d b = (b.0, (b.1.0, (b.1.1.0, leads_of ts why b.0.as_part.shape b.0.value b.1.1.1)))

pub not_ok : {A : Type 0} (r : Result A Fault) (f : JsonFault) → Gives ⊥ r (Err f) → is_ok r ≡ false
not_ok r fault.OutOfMemory h = absurd h
not_ok r fault.NotAnObject h = rw h refl
not_ok r (fault.Missing name) h = rw h refl
not_ok r (fault.Refused name) h = rw h refl
not_ok r (fault.Float name) h = rw h refl
not_ok r (fault.Repeated name) h = rw h refl

refused : {A : Type 0} (r : Result A Fault) → is_ok r ≡ false → is_some (result_ok r) ≡ false
refused (Ok x) e = absurd cc
refused (Err f) e = refl

pub explained : {P : Type 0} (t : PlainTable P) (d : Data) (f : JsonFault) (b : JsonBlame)
    → Gives ⊥ (in_object (members_in t) d) (Err f)
    → Blames (table_shape t) d b → IsExplained t d f b
explained t d f b given blamed = record {
  given = given;
  blamed = blamed;
  to_blame = λ once. holds (tested (record_kind (members_in t)) (table_shape t)) (record_strict t) d (path_of b) once
      (refused (in_object (members_in t) d) (not_ok (in_object (members_in t) d) f given))
      (leads_of (path_of b) (reason_of b.reason) (table_shape t) d blamed);
}
