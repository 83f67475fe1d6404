-- Maps and authenticator data that are kept undecoded: they can be decoded again, and what decoding them takes.
use Rattle.passkey_cbor.specs.Item as item
use Rattle.passkey_cbor.specs.Bytes.{IsBytes}
use Rattle.passkey_core.specs.DataLaws.{GivenIsRead, OneReading}
use Rattle.passkey_core.specs.DataParts.{DataParts}
use Rattle.passkey_core.specs.DataRead.{attested_at, read_data}
use Rattle.passkey_core.specs.DataReading.{ReadsData, fixed_at}
use Rattle.passkey_cose.specs.declared.error.CoseError.{CoseError}
use Rattle.passkey_kinds.proofs.Around.{Around}
use Rattle.passkey_kinds.proofs.Common.{Answers, CountsData, CursorState, Decodes, Definite, Each, IsEncodedAt, IsReadBack, Item, List, MayGrow, None, Result, Some, Spends, Within, arith, authenticator_data_nodes, byte_string, concat, depth, length, length-append, lies_size, max_depth, refl, subst, sym, ap, ℕ, ◌<◌, ◌≡◌, ◌≤◌, ◌∙◌, inl, inr, option_map, true}
use Rattle.passkey_kinds.proofs.Steps.{on_ok}
use Rattle.passkey_kinds.specs.Numbered.{not_null}
use Rattle.passkey_kinds.specs.declared.fault.Refusal.{Refusal}
use Rattle.passkey_registered.specs.Exact.{exact_bytes_from}
use Rattle.passkey_registered.specs.Kept.{IsAuthenticatorData, IsMap, kept_data, kept_data_from, map_from}
use Rattle.std.specs.Prelude.{[], ◌∷◌, replicate}
use Rattle.std.specs.Result.{result_ok}

pub map_back : IsReadBack map_from (λ i. i) IsMap (λ i. i)
map_back = record { back = λ i h. h }

pub map_is : (i x : Item) → map_from i ≡ Some x → i ≡ x
map_is (item.map ps) x e = cc
map_is _ x e = absurd cc

-- a map isn't null
pub map_then : (i x : Item) → not_null i ≡ Some x → map_from x ≡ map_from i
map_then item.null x e = absurd cc
map_then i x e = cc

pub no_map : (i : Item) → not_null i ≡ None → map_from i ≡ None
no_map item.null e = refl
no_map _ e = absurd cc

-- a map that is kept
pub map_around : Around map_from (λ i. i) (λ i. i ∷ []) 0 0
map_around = record {
  levels = λ n i less h. omega (arith, h.0);
  within = λ n i h. (omega (arith, h), tt);
  order = λ i h. h.0;
  writable = λ i h. (h, tt);
  decoded = λ n i x e less. let same = map_is i x e in (subst (λ k. depth k ≤ n) same (omega (arith, less)), tt);
}

-- ---- authenticator data

pub kept_data_back : IsReadBack kept_data_from byte_string IsAuthenticatorData (λ d. d)
kept_data_back = record { back = λ d h. h }

-- what a record holds before its data are decoded
pub blank_is_data : IsAuthenticatorData (replicate 37 0)
unfolding fixed_at attested_at read_data
blank_is_data = refl

-- what the call that decodes data says of the bytes
pub kept_data_is : OneReading → GivenIsRead → (s : List ℕ) → IsBytes s → (r : Result DataParts CoseError)
    → ReadsData s r → kept_data_from (byte_string s) ≡ option_map (λ d. s) (result_ok r)
kept_data_is one given s numbers r h =
    ap (λ (q : Result DataParts CoseError). option_map (λ d. s) (result_ok q)) (one s (read_data s) r (given s numbers) h)

pub no_data_kept : (i : Item) → exact_bytes_from i ≡ None → kept_data_from i ≡ None
no_data_kept (item.byte_string s) none = absurd cc
no_data_kept _ none = refl

pub exact_is : (i : Item) (s : List ℕ) → exact_bytes_from i ≡ Some s → i ≡ byte_string s
exact_is (item.byte_string s) t is = cc
exact_is _ t is = absurd cc

-- a byte string is shorter than its encoding
chunks_whole : (IsAllowed : List ℕ → Type 0) (major : ℕ) (cs : List (List ℕ)) (t : List ℕ)
    → Each (Definite IsAllowed major) cs t → length (concat cs) ≤ length t
chunks_whole IsAllowed major [] t e = omega arith
chunks_whole IsAllowed major (c ∷ cs) t e = grind (arith, length-append, chunks_whole IsAllowed major cs e.back e.second)

string_long : (s t : List ℕ) → Within max_depth (byte_string s) t → length s < length t
string_long s t (few, inl d) = grind (arith, length-append, d)
string_long s t (few, inr c) = grind (arith, length-append, chunks_whole, c)

-- The bytes were copied, and then decoded as authenticator data.
pub data_follow : {A : Type 0} {view : A → List ℕ} {a b d : CursorState} (i : Item) {to : ℕ} {s : List ℕ}
    {result : Result A Refusal} → IsEncodedAt i a.bytes a.place to → i ≡ byte_string s → Spends 2 0 to a b
    → b.place ≡ to → CountsData s b d → Answers view kept_data.typed (byte_string s) result
    → Decodes view (kept_data_from i) (MayGrow true i) 6 (authenticator_data_nodes i) to a d result
data_follow {view = view} {a} {b} {d} i {to} {s} {result} l is copied there counts h =
    let e : Within max_depth (byte_string s) l.text = subst (λ (x : Item). Within max_depth x l.text) is l.encoded in
    let short = string_long s l.text e in
    let size = lies_size (Within max_depth i) a.bytes a.place to l in
    record {
      answers = subst (λ (x : Item). Answers view kept_data.typed x result) (sym is) h;
      spends = record {
        within = omega (arith, counts.place, there);
        heads = omega (arith, counts.heads, copied.heads, short, size);
        nodes = omega (arith, counts.nodes, copied.nodes, ap authenticator_data_nodes is);
      };
      ends = on_ok result (counts.place ∙ there);
    }
