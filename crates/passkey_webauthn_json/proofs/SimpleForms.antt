-- Client data in the simple form: what the text is read as, and what that is decoded to.
use Rattle.std.proofs.Common.{◌≡◌, ◌∙◌, ◌≤◌, ℕ, List, [], ◌∷◌, ◌++◌, Bool, true, false, Some, Result, Ok, codes, if◌then◌else◌, refl, sym, ap, append_assoc, append-nil, option_and_then, arith}
use Rattle.std.proofs.lemmas.Bool.{or_parts}
use Rattle.std.specs.List.{list_all}
use Rattle.json.proofs.OnLiterals.{json_on_literals}
use Rattle.json.proofs.Printed.Tokens.{tokens-print}
use Rattle.json.proofs.Printed.Trees.{value-json_tokens, ArePrintable-json_tokens}
use Rattle.json.specs.Json as json
use Rattle.json.specs.Print.{escape, print}
use Rattle.json.specs.Tree.{json_tokens, depth, HasNumbers}
use Rattle.passkey_webauthn_json.proofs.Plain.{plain_text}
use Rattle.passkey_webauthn_json.specs.client_data.ClientData.{client_data, client_data_in, fixed_members}
use Rattle.passkey_webauthn_json.specs.client_data.ClientDataText.{is_plain}
use Rattle.passkey_webauthn_json.specs.client_data.ClientDataType.{client_data_types}
use Rattle.passkey_webauthn_json.specs.client_data.ExtraData.{fixed_alone}
use Rattle.passkey_webauthn_json.specs.client_data.MemberLists.{members_where}
use Rattle.passkey_webauthn_json.specs.client_data.SimpleForm.{end_text, simple_text}
use Rattle.passkey_webauthn_json.specs.declared.client_data.client_data_type.ClientDataType.{ClientDataType}
use Rattle.passkey_json.specs.Fault.{Fault}
use Rattle.passkey_json.specs.Members.{Object, required, or_default, if_present}
use Rattle.passkey_json.specs.Table.{members_in}
use Rattle.passkey_webauthn.specs.Names.{value_in}
use Rattle.serde_json.specs.Data.{Data, object, Members, no_members, member}
use Rattle.serde_json.specs.Find.{get_member}
use Rattle.serde_json.specs.Read.{read, of_json, max_depth}
use Rattle.serde_json.specs.Written.{has_float, members_have_float}

-- what is printed of JSON is read as its value
read_printed : (j : json.Json) (d : Data) → HasNumbers j → depth j ≤ max_depth → of_json j ≡ Some d
    → read (print (json_tokens j)) ≡ Some d
read_printed j d numbers shallow value =
    ap (λ r. option_and_then of_json (option_and_then (λ p. json.if_last p.0 p.1) r))
    (ap (json.value max_depth) (tokens-print (json_tokens j) (ArePrintable-json_tokens j numbers)
    ∙ sym (append-nil (json_tokens j))) ∙ value-json_tokens j max_depth [] shallow)
    ∙ value

printed_plain : (front s rest text : List ℕ) → list_all is_plain s ≡ true → rest ≡ text
    → front ++ ((escape s ++ 34 ∷ []) ++ rest) ≡ front ++ (s ++ 34 ∷ text)
printed_plain front s rest text plain same = rw (plain_text s plain, same)
    (ap (λ (t : List ℕ). front ++ t) (append_assoc s (34 ∷ []) text))

module _ (type_name challenge origin : List ℕ) where
  abbrev simple_json : Bool → json.Json
  simple_json cross_origin = json.object
      (json.member (codes "type") (json.string type_name)
      (json.member (codes "challenge") (json.string challenge)
      (json.member (codes "origin") (json.string origin)
      (json.member (codes "crossOrigin") (json.boolean cross_origin) json.no_members))))

  module _ (type_plain : list_all is_plain type_name ≡ true) (challenge_plain : list_all is_plain challenge ≡ true)
      (origin_plain : list_all is_plain origin ≡ true) where
    printed_up_to : (end : List ℕ)
        → codes "{\"type\":\"" ++ ((escape type_name ++ 34 ∷ [])
        ++ (codes ",\"challenge\":\"" ++ ((escape challenge ++ 34 ∷ [])
        ++ (codes ",\"origin\":\"" ++ ((escape origin ++ 34 ∷ []) ++ end)))))
        ≡ simple_text type_name challenge origin end
    printed_up_to end =
        printed_plain (codes "{\"type\":\"") type_name _ _ type_plain
        (printed_plain (codes ",\"challenge\":\"") challenge _ _ challenge_plain
        (printed_plain (codes ",\"origin\":\"") origin end end origin_plain refl))

    printed : (cross_origin : Bool)
        → print (json_tokens (simple_json cross_origin)) ≡ simple_text type_name challenge origin (end_text cross_origin)
    unfolding json_on_literals
    printed true = printed_up_to (end_text true)
    printed false = printed_up_to (end_text false)

    -- the text is read as an object of these members
    pub read_simple : (cross_origin : Bool)
        → read (simple_text type_name challenge origin (end_text cross_origin))
        ≡ Some (object (fixed_alone type_name challenge origin cross_origin))
    read_simple cross_origin = ap read (sym (printed cross_origin))
        ∙ read_printed (simple_json cross_origin) _ (tt, (tt, (tt, (tt, tt)))) (omega arith) refl

-- ---- what the object is decoded to

float_if : (b : Bool) (name : List ℕ) (d : Data) (ms : Members) → has_float d ≡ false → members_have_float ms ≡ false
    → members_have_float (if b then member name d ms else ms) ≡ false
float_if true name d ms none rest = rw none rest
float_if false name d ms none rest = rest

float_free : (test : List ℕ → Bool) (ms : Members) → members_have_float ms ≡ false
    → members_have_float (members_where test ms) ≡ false
float_free test no_members none = refl
float_free test (member name d ms) none =
    let parts = or_parts (has_float d) (members_have_float ms) none in
    float_if (test name) name d (members_where test ms) parts.0 (float_free test ms parts.1)

module _ (type_name challenge origin : List ℕ) (ty : ClientDataType)
    (named : value_in client_data_types type_name ≡ Some ty) where
  fixed_decoded : (cross_origin : Bool)
      → members_in fixed_members (λ name. get_member name (fixed_alone type_name challenge origin cross_origin))
      ≡ Ok (record { ty = ty; challenge = challenge; origin = origin; cross_origin = Some cross_origin })
  unfolding required or_default if_present
  fixed_decoded cross_origin = rw named refl

  -- the client data that the object is decoded to, if the caller's value is decoded of it
  pub simple_value : {E : Type 0} (has : List ℕ → Bool) (reads : Object → Result E Fault) (x : E)
      (cross_origin : Bool)
      → reads (λ name. get_member name (fixed_alone type_name challenge origin cross_origin)) ≡ Ok x
      → client_data has reads (object (fixed_alone type_name challenge origin cross_origin))
      ≡ Ok (record {
        ty = ty;
        challenge = challenge;
        origin = origin;
        cross_origin = Some cross_origin;
        extra_data = x;
        unknown_keys = no_members;
      })
  unfolding client_data_in
  simple_value has reads x cross_origin same = rw (
    fixed_decoded cross_origin,
    float_free has (fixed_alone type_name challenge origin cross_origin) refl,
    same,
  ) refl
