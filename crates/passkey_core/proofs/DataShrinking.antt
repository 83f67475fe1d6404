-- What is left after a part of fixed length is no longer than the bytes.
use Rattle.std.specs.Int.{w16, from_be_bytes}
use Rattle.std.specs.Int.RustNames.{bit_and}
use Rattle.std.proofs.Common.{◌≡◌, ℕ, ◌==◌, ◌≤◌, nat_lt, List, length, take, drop, Bool, true, false, if◌then◌else◌, Ok, Err, sym, subst, arith}
use Rattle.std.proofs.lemmas.List.{length-drop}
use Rattle.passkey_cose.specs.declared.error.CoseError.TheVariants.{DecodeFailed, OutOfRangeIntegerValue}
use Rattle.passkey_core.specs.DataParts.{DataParts}
use Rattle.passkey_core.specs.DataReading.{Begun, ◌>>=◌, bytes_at, known_only, fixed_at, ids_at}
use Rattle.passkey_core.specs.Flags.{reserved_flags}

abbrev Leaves : {X : Type 0} → ℕ → Begun X → Type 0
Leaves n (Ok p) = length p.1 ≤ n
Leaves n (Err e) = Unit {0}

leaves_after : {X Y : Type 0} (n : ℕ) (begun : Begun X) (next : X × List ℕ → Begun Y) → Leaves n begun
    → ((p : X × List ℕ) → length p.1 ≤ n → Leaves n (next p)) → Leaves n (begun >>= next)
leaves_after n (Ok p) next fewer each = each p fewer
leaves_after n (Err e) next fewer each = tt

bytes_leave : (n k : ℕ) (bytes : List ℕ) → length bytes ≤ n → Leaves n (bytes_at k bytes)
bytes_leave n k bytes fewer =
    elim (nat_lt (length bytes) k) as (λ (b : Bool). Leaves n
    (if b then Err DecodeFailed else Ok (let p : List ℕ × List ℕ = (take k bytes, drop k bytes) in p))) [
      | true ↦ tt
      | false ↦ omega (arith, length-drop k bytes, fewer)
    ]

known_leaves : (n : ℕ) (d : DataParts) (rest : List ℕ) → length rest ≤ n → Leaves n (known_only d rest)
known_leaves n d rest fewer =
    elim (bit_and d.flags reserved_flags == 0) as (λ (b : Bool). Leaves n
    (if b then Ok (let p : DataParts × List ℕ = (d, rest) in p) else Err OutOfRangeIntegerValue)) [
      | true ↦ fewer
      | false ↦ tt
    ]

fixed_leave : (bytes : List ℕ) → Leaves (length bytes) (fixed_at bytes)
unfolding fixed_at
fixed_leave bytes =
    leaves_after (length bytes) (bytes_at 32 bytes) _ (bytes_leave (length bytes) 32 bytes (omega arith))
    (λ hash hash_left.
    leaves_after (length bytes) (bytes_at 1 hash.1) _ (bytes_leave (length bytes) 1 hash.1 hash_left)
    (λ flags flags_left.
    leaves_after (length bytes) (bytes_at 4 flags.1) _ (bytes_leave (length bytes) 4 flags.1 flags_left)
    (λ counter counter_left. known_leaves (length bytes) _ counter.1 counter_left)))

ids_leave : (bytes : List ℕ) → Leaves (length bytes) (ids_at bytes)
unfolding ids_at
ids_leave bytes =
    leaves_after (length bytes) (bytes_at 16 bytes) _ (bytes_leave (length bytes) 16 bytes (omega arith))
    (λ aaguid aaguid_left.
    leaves_after (length bytes) (bytes_at 2 aaguid.1) _ (bytes_leave (length bytes) 2 aaguid.1 aaguid_left)
    (λ len len_left.
    leaves_after (length bytes) (bytes_at (from_be_bytes w16 len.0) len.1) _
    (bytes_leave (length bytes) (from_be_bytes w16 len.0) len.1 len_left) (λ id id_left. id_left)))

pub fixed_shrink : (bytes : List ℕ) (fixed : DataParts) (rest : List ℕ) → Ok (fixed, rest) ≡ fixed_at bytes
    → length rest ≤ length bytes
fixed_shrink bytes fixed rest h =
    subst (λ (begun : Begun DataParts). Leaves (length bytes) begun) (sym h) (fixed_leave bytes)

pub ids_shrink : (bytes : List ℕ) (ids : List ℕ × List ℕ) (rest : List ℕ) → Ok (ids, rest) ≡ ids_at bytes
    → length rest ≤ length bytes
ids_shrink bytes ids rest h =
    subst (λ (begun : Begun (List ℕ × List ℕ)). Leaves (length bytes) begun) (sym h) (ids_leave bytes)
