-- Why a JSON text is refused.
use Rattle.std.specs.Prelude.{◌≡◌, ◌⊎◌, ℕ, List, length, Option, None, Some, IfSome, codes}
use Rattle.passkey_catalogue.specs.Explaining.{ExplainsAs}
use Rattle.passkey_catalogue.specs.JsonTexts.{any_json_definition}
use Rattle.passkey_catalogue.specs.declared.any_json_kind.AnyJsonKind.{AnyJsonKind}
use Rattle.passkey_catalogue.specs.declared.explaining.RefusedJson.{RefusedJson}
use Rattle.passkey_json.specs.BlameTexts.{blame_text}
use Rattle.passkey_json.specs.Names.{json_fault_name}
use Rattle.passkey_json.specs.JsonText.{HasNoJson, IsJson}
use Rattle.passkey_json.specs.declared.blame.JsonBlame.{JsonBlame}
use Rattle.passkey_json.specs.declared.json_fault.JsonFault.{JsonFault}
use Rattle.passkey_rewrite.specs.declared.fault.RunFault.TheVariants.{BadJson}
use Rattle.serde_json.specs.Data.{Data}
use Rattle.passkey_c.specs.Statuses.{json_status, status_of}
use Rattle.passkey_c.specs.declared.verdict.Refusal.{Refusal}

-- all of so many bytes
abbrev pub whole : ℕ → Refusal
whole n = record { offset = 0; len = n }

-- The input is a JSON text, and its value is decoded as this kind.
pub record AcceptsJson (k : AnyJsonKind) (input : List ℕ) (n : ℕ) : Type 0 where
  pub value : Data
  pub reads : IsJson input value
  pub explains : ExplainsAs (any_json_definition k) value None
  pub size : n ≡ length input

-- what is said of a refused value: what in it is to blame, or else the fault
abbrev said : Option JsonBlame → JsonFault → Option (List ℕ)
said (Some b) fault = blame_text b
said None fault = json_fault_name fault

-- the text about a refused value, where it is known (`blame_text`, `json_fault_name`)
abbrev pub refused_text : RefusedJson → Option (List ℕ)
refused_text r = said r.blame r.fault

-- The input is a JSON text, and its value is refused with this fault.
pub record TellsValue (k : AnyJsonKind) (input : List ℕ) (status : ℕ) (refusal : Refusal) (text : List ℕ) : Type 0 where
  pub value : Data
  pub reads : IsJson input value
  pub refused : RefusedJson
  pub explains : ExplainsAs (any_json_definition k) value (Some refused)
  pub fault : status ≡ json_status refused.fault
  pub bytes : refusal ≡ whole (length input)
  pub says : IfSome (refused_text refused) (λ told. text ≡ told)

-- The input isn't a JSON text.
pub record TellsNoJson (input : List ℕ) (status : ℕ) (refusal : Refusal) (text : List ℕ) : Type 0 where
  pub none : HasNoJson input
  pub fault : status ≡ status_of BadJson
  pub bytes : refusal ≡ whole (length input)
  pub says : text ≡ codes "a JSON text in UTF-8 of at most 127 levels is wanted"

abbrev pub TellsJson : AnyJsonKind → List ℕ → ℕ → Refusal → List ℕ → Type 0
TellsJson k input status refusal text =
    TellsNoJson input status refusal text ⊎ TellsValue k input status refusal text
