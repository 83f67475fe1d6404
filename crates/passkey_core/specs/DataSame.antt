-- The equality of authenticator data, as a test that decides it: proofs that the impls of PartialEq cite.
use Rattle.std.specs.Cmp.{IsEquivalence, decided}
use Rattle.std.specs.Option.{option_eq}
use Rattle.std.specs.Str.{bytes_eq}
use Rattle.std.specs.Prelude.{nat_eq}
use Rattle.std.proofs.Common.{◌≡◌, ◌&&◌, Bool, true, refl, subst}
use Rattle.std.proofs.lemmas.Bool.{and_parts, and_from}
use Rattle.std.proofs.lemmas.Bool.Decides.{Decides-eqb}
use Rattle.std.proofs.lemmas.Slice.Eq.{bytes_eq-Decides}
use Rattle.passkey_cbor.specs.Same.{item_eq}
use Rattle.passkey_cbor.specs.SameItems.{item_Decides}
use Rattle.passkey_cose.specs.KeySame.{parts_eq}
use Rattle.passkey_cose.specs.KeySameLaws.{DecidesAll, option_decides, parts_Decides}
use Rattle.passkey_core.specs.DataParts.{AttestedParts, DataParts}

abbrev pub attested_eq : AttestedParts → AttestedParts → Bool
attested_eq a b = (bytes_eq a.aaguid b.aaguid && bytes_eq a.credential_id b.credential_id) && parts_eq a.key b.key

attested_same : (a b : AttestedParts) → attested_eq a b ≡ true → a ≡ b
attested_same a b e =
    let all = and_parts (bytes_eq a.aaguid b.aaguid && bytes_eq a.credential_id b.credential_id)
    (parts_eq a.key b.key) e in
    let front = and_parts (bytes_eq a.aaguid b.aaguid) (bytes_eq a.credential_id b.credential_id) all.0 in
    let aaguid = (bytes_eq-Decides a.aaguid b.aaguid).0 front.0 in
    let credential_id = (bytes_eq-Decides a.credential_id b.credential_id).0 front.1 in
    let key = (parts_Decides a.key b.key).0 all.1 in
    λ i. record { aaguid = aaguid i; credential_id = credential_id i; key = key i }

attested_own : (a : AttestedParts) → attested_eq a a ≡ true
attested_own a =
    let front = and_from (bytes_eq a.aaguid a.aaguid) (bytes_eq a.credential_id a.credential_id)
    ((bytes_eq-Decides a.aaguid a.aaguid).1 refl) ((bytes_eq-Decides a.credential_id a.credential_id).1 refl) in
    and_from (bytes_eq a.aaguid a.aaguid && bytes_eq a.credential_id a.credential_id) (parts_eq a.key a.key) front
    ((parts_Decides a.key a.key).1 refl)

pub attested_Decides : DecidesAll attested_eq
attested_Decides a b =
    (attested_same a b, λ e. subst (λ (c : AttestedParts). attested_eq a c ≡ true) e (attested_own a))

pub attested_eq-equivalence : IsEquivalence attested_eq
attested_eq-equivalence = decided attested_eq attested_Decides

-- the relying party id's hash, the flags and the counter
abbrev pub fixed_eq : DataParts → DataParts → Bool
fixed_eq d e =
    (bytes_eq d.rp_id_hash e.rp_id_hash && nat_eq d.flags e.flags) && option_eq nat_eq d.counter e.counter

abbrev pub after_eq : DataParts → DataParts → Bool
after_eq d e = option_eq attested_eq d.attested e.attested && option_eq item_eq d.extensions e.extensions

abbrev pub data_eq : DataParts → DataParts → Bool
data_eq d e = fixed_eq d e && after_eq d e

numbers_decide : DecidesAll nat_eq
numbers_decide x y = Decides-eqb x y

counters_decide : DecidesAll (option_eq nat_eq)
counters_decide = option_decides nat_eq numbers_decide

attested_decide : DecidesAll (option_eq attested_eq)
attested_decide = option_decides attested_eq attested_Decides

extensions_decide : DecidesAll (option_eq item_eq)
extensions_decide = option_decides item_eq item_Decides

data_same : (d e : DataParts) → data_eq d e ≡ true → d ≡ e
data_same d e h =
    let all = and_parts (fixed_eq d e) (after_eq d e) h in
    let fixed = and_parts (bytes_eq d.rp_id_hash e.rp_id_hash && nat_eq d.flags e.flags)
    (option_eq nat_eq d.counter e.counter) all.0 in
    let front = and_parts (bytes_eq d.rp_id_hash e.rp_id_hash) (nat_eq d.flags e.flags) fixed.0 in
    let following = and_parts (option_eq attested_eq d.attested e.attested)
    (option_eq item_eq d.extensions e.extensions) all.1 in
    let rp_id_hash = (bytes_eq-Decides d.rp_id_hash e.rp_id_hash).0 front.0 in
    let flags = (numbers_decide d.flags e.flags).0 front.1 in
    let counter = (counters_decide d.counter e.counter).0 fixed.1 in
    let attested = (attested_decide d.attested e.attested).0 following.0 in
    let extensions = (extensions_decide d.extensions e.extensions).0 following.1 in
    λ i. record {
      rp_id_hash = rp_id_hash i;
      flags = flags i;
      counter = counter i;
      attested = attested i;
      extensions = extensions i;
    }

data_own : (d : DataParts) → data_eq d d ≡ true
data_own d =
    let front = and_from (bytes_eq d.rp_id_hash d.rp_id_hash) (nat_eq d.flags d.flags)
    ((bytes_eq-Decides d.rp_id_hash d.rp_id_hash).1 refl) ((numbers_decide d.flags d.flags).1 refl) in
    let fixed = and_from (bytes_eq d.rp_id_hash d.rp_id_hash && nat_eq d.flags d.flags)
    (option_eq nat_eq d.counter d.counter) front ((counters_decide d.counter d.counter).1 refl) in
    let following =
    and_from (option_eq attested_eq d.attested d.attested) (option_eq item_eq d.extensions d.extensions)
    ((attested_decide d.attested d.attested).1 refl) ((extensions_decide d.extensions d.extensions).1 refl) in
    and_from (fixed_eq d d) (after_eq d d) fixed following

pub data_Decides : DecidesAll data_eq
data_Decides d e = (data_same d e, λ h. subst (λ (f : DataParts). data_eq d f ≡ true) h (data_own d))

pub data_eq-equivalence : IsEquivalence data_eq
data_eq-equivalence = decided data_eq data_Decides
