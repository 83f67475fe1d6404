-- The JSON values that values are encoded as.
use Rattle.std.specs.Prelude.{◌≡◌, ℕ, ℤ, Bool, true, ◌&&◌, not, List, [], ◌∷◌, map, Option, Some, None, IfSome, if◌then◌else◌}
use Rattle.std.specs.List.{list_any}
use Rattle.std.specs.Str.{bytes_eq}
use Rattle.base64.specs.Engines.{url_safe_no_pad}
use Rattle.base64.specs.GeneralPurpose.{encode_of}
use Rattle.passkey_iana.specs.Iana.{algorithm_number}
use Rattle.passkey_iana.specs.declared.algorithm.Algorithm.{Algorithm}
use Rattle.passkey_json.specs.Kind.{Kind, optional}
use Rattle.passkey_json.specs.declared.bytes_form.BytesForm.{BytesForm}
use Rattle.passkey_json.specs.declared.bytes_form.BytesForm.TheVariants as form
use Rattle.passkey_json.specs.declared.written.held.ObjectWriter.{ObjectWriter as Holder}
use Rattle.serde_json.specs.Data.{Data, number, unsigned, string, array, object, Members, no_members, put}
use Rattle.serde_json.specs.Find.{of_integer}
use Rattle.serde_json.specs.View.{items_of, members_view}

-- The JSON value decodes to this value, also if null is allowed and decodes to `None`.
pub record ReadsBack {A : Type 0} (kind : Kind A) (x : A) (d : Data) : Type 0 where
  pub plain : kind d ≡ Some x
  pub some : optional kind d ≡ Some (Some x)

-- If there is a value, its encoding decodes to that value.
pub record ReadsBackIf {A : Type 0} (kind : Kind A) (json : A → Data) (o : Option A) : Type 0 where
  pub there : IfSome o (λ x. ReadsBack kind x (json x))

abbrev pub natural_json : ℕ → Data
natural_json n = number (unsigned n)

abbrev pub whole_json : ℤ → Data
whole_json z = number (of_integer z)

abbrev pub algorithm_json : Algorithm → Data
algorithm_json a = whole_json (algorithm_number a)

abbrev pub list_json : {A : Type 0} → (A → Data) → List A → Data
list_json json xs = array (items_of (map json xs))

abbrev pub bytes_json : BytesForm → List ℕ → Data
bytes_json form.Numbers bytes = list_json natural_json bytes
bytes_json form.Base64Url bytes = string (encode_of url_safe_no_pad bytes)

-- ---- objects

-- a member's name, and its encoded value if the member is present
abbrev pub EncodedMember : Type 0
EncodedMember = List ℕ × Option Data

abbrev pub row : List ℕ → Data → EncodedMember
row name d = (name, Some d)

abbrev pub put_if : List ℕ → Option Data → Members → Members
put_if name None ms = ms
put_if name (Some d) ms = put name d ms

abbrev pub put_rows : Members → List EncodedMember → Members
put_rows ms [] = ms
put_rows ms (w ∷ ws) = put_rows (put_if w.0 w.1 ms) ws

-- the object with these members
abbrev pub written : List EncodedMember → Data
written ws = object (put_rows no_members ws)

-- the members encoded so far
abbrev pub so_far : Holder → Members
so_far w = members_view w.members.entries

-- ---- looking up encoded members

abbrev pub at_name : List EncodedMember → List ℕ → Option Data
at_name [] name = None
at_name (w ∷ ws) name = if bytes_eq name w.0 then w.1 else at_name ws name

-- no name occurs twice among the members
abbrev pub are_apart : List EncodedMember → Bool
are_apart [] = true
are_apart (w ∷ ws) = not (list_any (λ (v : EncodedMember). bytes_eq w.0 v.0) ws) && are_apart ws
