-- Contracts' views of objects and members, and the result of decoding them.
use Rattle.std.specs.Prelude.{◌≡◌, IfOk, Option, Some, Result, Ok, Err, None, option_map}
use Rattle.passkey_json.specs.Fault.{Fault, Gives}
use Rattle.passkey_json.specs.Blame.{Blames}
use Rattle.passkey_json.specs.Dropped.{Drops}
use Rattle.passkey_json.specs.Members.{Object, Member}
use Rattle.passkey_json.specs.Shape.{Shape}
use Rattle.passkey_json.specs.declared.json_fault.JsonFault.{JsonFault}
use Rattle.passkey_json.specs.declared.json_fault.JsonFault.TheVariants as json_fault
use Rattle.passkey_json.specs.declared.member.Asked.{Asked}
use Rattle.passkey_json.specs.declared.member.Member.{Member as MemberHeld}
use Rattle.passkey_json.specs.declared.member.Question.{Question}
use Rattle.passkey_json.specs.declared.member.Question.TheVariants as question
use Rattle.passkey_json.specs.declared.object.Object.{Object as ObjectHeld}
use Rattle.passkey_json.specs.declared.json_refusal.JsonRefusal.{JsonRefusal}
use Rattle.passkey_json.specs.declared.json_refusal.JsonRefusal.TheVariants as refusal
use Rattle.serde_json.specs.Data.{Data}
use Rattle.serde_json.specs.Find.{get}
use Rattle.serde_json.specs.View.{view}

-- What is asked of a value is answered.
abbrev pub AnswersAs : Shape → Question → Data → Asked → Type 0
AnswersAs s question.Blame d new = IfOk new.blame (Blames s d)
AnswersAs s question.Dropped d new = IfOk new.dropped (λ v. Drops s d v.items)

-- The same, if something is asked and there is a value.
abbrev pub Answered : Shape → Option Asked → Option Data → Option Asked → Type 0
Answered s (Some old) (Some d) (Some new) = AnswersAs s old.question d new
Answered s (Some old) (Some d) None = ⊥
Answered s _ _ _ = Unit {0}

-- the object's value under each name, if there is one
abbrev pub names_of : ObjectHeld → Object
names_of o name = get name (view o.value.now)

abbrev pub found : MemberHeld → Member
found m = record { name = m.name.now; value = option_map (λ v. view v.now) m.value }

-- what is asked of the member, and the answers
abbrev pub asked_of : MemberHeld → Option Asked
asked_of m = option_map (λ a. a.value) m.asked

-- What is asked of the member was answered, by the type that it is decoded as.
abbrev pub HasAnswered : Shape → MemberHeld → MemberHeld → Type 0
HasAnswered s old new = Answered s (asked_of old) (found old).value (asked_of new)

-- The same as `Gives`, for the view of a value.
abbrev pub GivesAs : {A M : Type 0} → Type 0 → (A → M) → Result M Fault → Result A JsonFault → Type 0
GivesAs Takes seen wanted (Ok x) = wanted ≡ Ok (seen x)
GivesAs Takes seen wanted (Err e) = Gives Takes wanted (Err e)

-- what is held after the value that was read, if there is one, was put in place of an old one
abbrev pub IsPlaced : {A : Type 0} → Result A JsonFault → A → A → Result (Unit {0}) JsonFault → Type 0
IsPlaced (Ok x) old new result = (new ≡ x) × (result ≡ Ok tt)
IsPlaced (Err e) old new result = (new ≡ old) × (result ≡ Err e)

-- the value, or the default if it was rejected
abbrev pub IsUnlessRefused : {A : Type 0} → A → Result A JsonRefusal → Result A JsonFault → Type 0
IsUnlessRefused default (Ok x) result = result ≡ Ok x
IsUnlessRefused default (Err refusal.Refused) result = result ≡ Ok default
IsUnlessRefused default (Err refusal.OutOfMemory) result = result ≡ Err json_fault.OutOfMemory
