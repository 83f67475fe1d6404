-- The origins that may use a relying party id (WebAuthn Level 3, section 5.11).
use Rattle.std.specs.Prelude.{◌≡◌, ℕ, List, [], ◌∷◌, Option, None, Result, Ok, Err, codes}
use Rattle.std.specs.Option.{IsSomeAnd}
use Rattle.passkey_json.specs.Fault.{Fault, Gives, refused}
use Rattle.passkey_json.specs.Kind.{list}
use Rattle.passkey_json.specs.Members.{Object, member, required}
use Rattle.passkey_json.specs.Written.{list_json, row, written}
use Rattle.passkey_json.specs.declared.json_fault.JsonFault.{JsonFault}
use Rattle.passkey_json.specs.declared.json_fault.JsonFault.TheVariants as json_fault
use Rattle.passkey_well_known.specs.UrlKind.{url, UrlReturns, ListComesTo, HasNoRoom, AnyText}
use Rattle.serde_json.specs.Data.{Data, string}
use Rattle.serde_json.specs.Find.{get}
use Rattle.url.specs.Parser as url_parser
use Rattle.url.specs.Parts.{Parts, serialize}

unfoldable pub well_known_in : Object → Result (List Parts) Fault
well_known_in object = required (list url) (member (codes "origins") object)

-- the value of the member `origins`, if it is present
abbrev pub origins_in : Data → Option Data
origins_in d = get (codes "origins") d

-- `Refused` is the wanted fault; or the member is a list of URLs, one of which is too long for the
-- parser.
abbrev pub IsRefusedList : UrlReturns → Option Data → Result (List Parts) Fault → List ℕ → Type 0
IsRefusedList Says origins (Ok urls) name =
    IsSomeAnd origins (ListComesTo (HasNoRoom Says)) × (name ≡ codes "origins")
IsRefusedList Says origins (Err fault) name = fault ≡ refused name

-- The result of decoding is the wanted one, except that a list is refused if the parser says that a
-- URL is too long; or it is `OutOfMemory`, only for a list in which a text was come to.
abbrev pub GivesUrls : {A : Type 0} → UrlReturns → Option Data → (A → List Parts)
    → Result (List Parts) Fault → Result A JsonFault → Type 0
GivesUrls Says origins seen wanted (Ok x) = wanted ≡ Ok (seen x)
GivesUrls Says origins seen wanted (Err (json_fault.Refused name)) = IsRefusedList Says origins wanted name.now
GivesUrls Says origins seen wanted (Err e) = Gives (IsSomeAnd origins (ListComesTo AnyText)) wanted (Err e)

-- what the crate `url` may return for a text
abbrev pub Standard : UrlReturns
Standard text parsed = url_parser.Gives parsed (url_parser.parse_url None text)

abbrev pub urls_json : List Parts → Data
urls_json urls = list_json (λ u. string (serialize u)) urls

abbrev pub well_known_json : List Parts → Data
well_known_json urls = written (row (codes "origins") (urls_json urls) ∷ [])
