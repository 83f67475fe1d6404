-- URLs, decoded from JSON values, and the result of decoding them.
use Rattle.std.specs.Prelude.{◌≡◌, ◌⊎◌, ◌≤◌, ◌<◌, ℕ, List, length, Some, None, Result, Ok, Err, IsSome}
use Rattle.std.specs.Result.{result_ok}
use Rattle.std.specs.declared.alloc.Global.{Global}
use Rattle.std.specs.declared.vec.Vec.{Vec}
use Rattle.passkey_json.specs.Kind.{Kind, list}
use Rattle.passkey_well_known.specs.declared.url_list.TheConstants.{LONG_TEXT}
use Rattle.passkey_well_known.specs.declared.url_list.UrlFault.{UrlFault}
use Rattle.passkey_well_known.specs.declared.url_list.UrlFault.TheVariants.{Refused, OutOfMemory}
use Rattle.serde_json.specs.Data.{Data, string, array, Items, no_items, item}
use Rattle.url.specs.Parser.{Parsed, parse_url}
use Rattle.url.specs.Parts.{Parts}
use Rattle.url.specs.declared.error.ParseError.TheVariants.{Overflow}
use Rattle.url.specs.declared.error.ParseError.TheVariants as parse_error

-- the URL that a text is parsed as (URL Standard)
abbrev pub url : Kind Parts
url (string s) = result_ok (parse_url None s)
url _ = None

-- what a parser may return for a text
abbrev pub UrlReturns : Type 1
UrlReturns = List ℕ → Parsed Parts → Type 0

-- the value is a text of which this holds
abbrev pub IsTextOf : (List ℕ → Type 0) → Data → Type 0
IsTextOf Holds (string s) = Holds s
IsTextOf Holds _ = ⊥

-- one of the elements is a text of which this holds, and those before it are URLs
abbrev pub ComesTo : (List ℕ → Type 0) → Items → Type 0
ComesTo Holds no_items = ⊥
ComesTo Holds (item d ds) = IsTextOf Holds d ⊎ (IsSome (url d) × ComesTo Holds ds)

-- the value is a list with such a text
abbrev pub ListComesTo : (List ℕ → Type 0) → Data → Type 0
ListComesTo Holds (array ds) = ComesTo Holds ds
ListComesTo Holds _ = ⊥

-- any text at all: parsing it may take memory
abbrev pub AnyText : List ℕ → Type 0
AnyText s = Unit {0}

-- a long text of which the parser says that its URL is too long
abbrev pub HasNoRoom : UrlReturns → List ℕ → Type 0
HasNoRoom Says s = (LONG_TEXT ≤ length s) × Says s (Err Overflow)

-- a text for which the parser lacks memory, or says so of a short one
abbrev pub LacksMemory : UrlReturns → List ℕ → Type 0
LacksMemory Says s = Says s (Err parse_error.OutOfMemory) ⊎ ((length s < LONG_TEXT) × Says s (Err Overflow))

-- The result of decoding a URL: the URL of the text; `Refused`, if there is none, or it is too long
-- for the parser; or `OutOfMemory`, only if the parser lacks memory.
abbrev pub AnswersUrl : UrlReturns → Data → Result Parts UrlFault → Type 0
AnswersUrl Says d (Ok u) = url d ≡ Some u
AnswersUrl Says d (Err Refused) = (url d ≡ None) ⊎ IsTextOf (HasNoRoom Says) d
AnswersUrl Says d (Err OutOfMemory) = IsTextOf (LacksMemory Says) d

-- The result of decoding a list of URLs: the URLs of its texts; `Refused`, if it isn't a list of
-- texts that are URLs, or the URL of one of them is too long for the parser; or `OutOfMemory`, only
-- if a text was come to.
abbrev pub AnswersUrls : UrlReturns → Data → Result (Vec Parts Global) UrlFault → Type 0
AnswersUrls Says d (Ok us) = list url d ≡ Some us.items
AnswersUrls Says d (Err Refused) = (list url d ≡ None) ⊎ ListComesTo (HasNoRoom Says) d
AnswersUrls Says d (Err OutOfMemory) = ListComesTo AnyText d
