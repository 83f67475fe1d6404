-- The text of client data, piece by piece.
use Rattle.std.proofs.Common.{◌≡◌, ◌∙◌, ℕ, List, [], ◌∷◌, ◌++◌, true, false, codes, unwrap_or, refl, ap, append_assoc}
use Rattle.passkey_webauthn_json.proofs.Copied.{joined_none}
use Rattle.passkey_webauthn_json.specs.client_data.ClientData.{ClientData}
use Rattle.passkey_webauthn_json.specs.client_data.ClientDataText.{fixed_text, later_text, member_text, name_text, with_fixed}
use Rattle.passkey_webauthn_json.specs.client_data.ClientDataType.{client_data_type_name}
use Rattle.passkey_webauthn_json.specs.client_data.MemberLists.{joined}
use Rattle.serde_json.proofs.OnLiterals.{serde_json_on_literals}
use Rattle.serde_json.specs.Data.{Data, boolean, object, string, Members, no_members, member}
use Rattle.serde_json.specs.Written.{compact_text, members_text}

-- a member's name and its value are its text
pub named : (front name : List ℕ) (d : Data)
    → front ++ name_text name ++ compact_text d ≡ front ++ member_text name d
named front name d = append_assoc front (name_text name) (compact_text d)
    ∙ ap (λ (s : List ℕ). front ++ 44 ∷ s) (append_assoc (compact_text (string name)) (58 ∷ []) (compact_text d))

pub all_named : (front : List ℕ) (challenge origin cross_origin : Data)
    → front ++ name_text (codes "challenge") ++ compact_text challenge ++ name_text (codes "origin")
    ++ compact_text origin ++ name_text (codes "crossOrigin") ++ compact_text cross_origin
    ≡ front ++ member_text (codes "challenge") challenge ++ member_text (codes "origin") origin
    ++ member_text (codes "crossOrigin") cross_origin
all_named front challenge origin cross_origin =
    named _ (codes "crossOrigin") cross_origin
    ∙ ap (λ (s : List ℕ). s ++ member_text (codes "crossOrigin") cross_origin) (named _ (codes "origin") origin
    ∙ ap (λ (s : List ℕ). s ++ member_text (codes "origin") origin) (named front (codes "challenge") challenge))

-- a member's text, and the text of the members after it
member_then : (name : List ℕ) (d : Data) (ms : Members)
    → member_text name d ++ members_text true ms ≡ members_text true (member name d ms)
member_then name d ms = ap (λ (s : List ℕ). 44 ∷ s)
    (append_assoc (compact_text (string name)) (58 ∷ compact_text d) (members_text true ms))

-- the texts of members, and the text of the members after them
later_then : (ms ns : Members) → later_text ms ++ members_text true ns ≡ members_text true (joined ms ns)
later_then no_members ns = refl
later_then (member name d ms) ns =
    append_assoc (member_text name d) (later_text ms) (members_text true ns)
    ∙ ap (λ (s : List ℕ). member_text name d ++ s) (later_then ms ns)
    ∙ member_then name d (joined ms ns)

-- the same after other text
member_after : (front name : List ℕ) (d : Data) (ms : Members)
    → front ++ member_text name d ++ members_text true ms ≡ front ++ members_text true (member name d ms)
member_after front name d ms = append_assoc front (member_text name d) (members_text true ms)
    ∙ ap (λ (s : List ℕ). front ++ s) (member_then name d ms)

later_after : (front : List ℕ) (ms ns : Members)
    → front ++ later_text ms ++ members_text true ns ≡ front ++ members_text true (joined ms ns)
later_after front ms ns =
    append_assoc front (later_text ms) (members_text true ns) ∙ ap (λ (s : List ℕ). front ++ s) (later_then ms ns)

module _ (ty challenge origin cross_origin : Data) where
  abbrev front_type : List ℕ
  front_type = codes "{\"type\":" ++ compact_text ty

  abbrev front_challenge : List ℕ
  front_challenge = front_type ++ member_text (codes "challenge") challenge

  abbrev front_origin : List ℕ
  front_origin = front_challenge ++ member_text (codes "origin") origin

  opened : (ms : Members) → front_type ++ members_text true ms ≡ compact_text (object (member (codes "type") ty ms))
  unfolding serde_json_on_literals
  opened ms = append_assoc (codes "{\"type\":") (compact_text ty) (members_text true ms)

  all_fixed : (ms : Members)
      → front_origin ++ member_text (codes "crossOrigin") cross_origin ++ members_text true ms
      ≡ compact_text (object (member (codes "type") ty (member (codes "challenge") challenge
      (member (codes "origin") origin (member (codes "crossOrigin") cross_origin ms)))))
  all_fixed ms =
      member_after front_origin (codes "crossOrigin") cross_origin ms
      ∙ member_after front_challenge (codes "origin") origin (member (codes "crossOrigin") cross_origin ms)
      ∙ member_after front_type (codes "challenge") challenge
      (member (codes "origin") origin (member (codes "crossOrigin") cross_origin ms))
      ∙ opened (member (codes "challenge") challenge
      (member (codes "origin") origin (member (codes "crossOrigin") cross_origin ms)))

-- the pieces are the whole text
pub whole_text : {E : Type 0} (x : ClientData E) (extra unknown : Members) → fixed_text x ++ later_text extra
    ++ later_text unknown ++ 125 ∷ [] ≡ compact_text (object (with_fixed x (joined extra unknown)))
whole_text x extra unknown =
    later_after (fixed_text x ++ later_text extra) unknown no_members
    ∙ ap (λ (ms : Members). fixed_text x ++ later_text extra ++ members_text true ms) (joined_none unknown)
    ∙ later_after (fixed_text x) extra unknown
    ∙ all_fixed (string (client_data_type_name x.ty)) (string x.challenge) (string x.origin)
    (boolean (unwrap_or x.cross_origin false)) (joined extra unknown)
