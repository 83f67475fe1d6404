-- Client data (WebAuthn Level 3, section 5.8.1), decoded from an object.
use Rattle.std.specs.Prelude.{ℕ, Bool, List, Option, None, Result, Ok, Err, codes, [], ◌∷◌, ◌||◌, refl}
use Rattle.passkey_webauthn_json.specs.client_data.ClientDataType.{client_data_type_value}
use Rattle.passkey_webauthn_json.specs.client_data.ExtraData.{is_unknown}
use Rattle.passkey_webauthn_json.specs.client_data.MemberLists.{members_where, without_floats, any_member}
use Rattle.passkey_webauthn_json.specs.declared.client_data.client_data.CollectedClientData.{CollectedClientData}
use Rattle.passkey_webauthn_json.specs.declared.client_data.client_data_type.ClientDataType.{ClientDataType}
use Rattle.passkey_webauthn_json.specs.declared.client_data.client_data_type.ClientDataType.TheVariants.{Create}
use Rattle.passkey_webauthn_json.specs.declared.client_data.client_data.FixedMembers.{FixedMembers}
use Rattle.passkey_json.specs.Coded.{text_value, truth_value}
use Rattle.passkey_json.specs.Fault.{Fault, no_object}
use Rattle.passkey_json.specs.Members.{◌>>=◌, Object, takes_at}
use Rattle.passkey_json.specs.Table.{PlainTable, members_in, optional_as, required_as, takes_of}
use Rattle.serde_json.specs.Data.{Data, object, Members}
use Rattle.serde_json.specs.Find.{get_member, as_object}
use Rattle.serde_json.specs.View.{members_view}

-- the members that all client data has
abbrev pub fixed_members : PlainTable FixedMembers
fixed_members = record {
  blank = record { ty = Create; challenge = []; origin = []; cross_origin = None };
  members = required_as 1 (codes "type") client_data_type_value
      (λ m. m.ty) (λ v m. record m { ty = v })
      ∷ required_as 2 (codes "challenge") text_value (λ m. m.challenge) (λ v m. record m { challenge = v })
      ∷ required_as 3 (codes "origin") text_value (λ m. m.origin) (λ v m. record m { origin = v })
      ∷ optional_as 4 (codes "crossOrigin") truth_value (λ m. m.cross_origin) (λ v m. record m { cross_origin = v })
      ∷ [];
  sound = λ m. (refl, refl);
}

-- client data as contracts see it: the members that all client data has, the caller's value, and
-- the members that neither knows
pub record ClientData (E : Type 0) : Type 0 where
  pub ty : ClientDataType
  pub challenge : List ℕ
  pub origin : List ℕ
  pub cross_origin : Option Bool
  pub extra_data : E
  pub unknown_keys : Members

abbrev pub held : {E : Type 0} → CollectedClientData E → ClientData E
held x = record {
  ty = x.ty;
  challenge = x.challenge;
  origin = x.origin;
  cross_origin = x.cross_origin;
  extra_data = x.extra_data;
  unknown_keys = members_view x.unknown_keys.entries;
}

module _ {E : Type 0} (has : List ℕ → Bool) (reads : Object → Result E Fault) where
  -- First the members that all client data has; then the caller's value, whose members contain no
  -- float; then the unknown members, which contain no float either.
  unfoldable pub client_data_in : Members → Result (ClientData E) Fault
  client_data_in ms = do
    fixed ← members_in fixed_members (λ name. get_member name ms)
    extra_members ← without_floats (codes "extra_data") (members_where has ms)
    extra_data ← reads (λ name. get_member name ms)
    unknown_keys ← without_floats (codes "unknown_keys") (members_where (is_unknown has) ms)
    Ok (record {
      ty = fixed.ty;
      challenge = fixed.challenge;
      origin = fixed.origin;
      cross_origin = fixed.cross_origin;
      extra_data = extra_data;
      unknown_keys = unknown_keys;
    })

  -- client data is an object
  abbrev pub client_data : Data → Result (ClientData E) Fault
  client_data (object ms) = client_data_in ms
  client_data _ = Err no_object

-- ---- when decoding may take memory

module _ (has : List ℕ → Bool) (takes : Object → Bool) where
  -- one of the fixed members takes memory, or the caller's value does, or there is an unknown
  -- member, which is copied
  abbrev pub members_take : Members → Bool
  members_take ms = takes_of fixed_members (λ name. get_member name ms) || takes (λ name. get_member name ms)
      || any_member (members_where (is_unknown has) ms)

  -- an object with such members
  abbrev pub client_data_takes : Data → Bool
  client_data_takes d = takes_at members_take (as_object d)
