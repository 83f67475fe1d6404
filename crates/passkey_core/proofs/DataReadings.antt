-- Combining readings of authenticator data.
use Rattle.std.specs.Int.RustNames.{bit_and}
use Rattle.std.proofs.Common.{◌≡◌, List, ℕ, nat_lt, length, take, drop, ◌==◌, Bool, true, false, if◌then◌else◌, Option, Some, Result, Ok, Err, inr, refl, sym, subst}
use Rattle.std.specs.Result.{IsOkAnd}
use Rattle.passkey_cbor.specs.Item.{Item}
use Rattle.passkey_cbor.specs.Reads.{HasGrowingLeadingItem}
use Rattle.passkey_cose.specs.declared.error.CoseError.{CoseError}
use Rattle.passkey_cose.specs.declared.error.CoseError.TheVariants.{DecodeFailed, OutOfMemory, OutOfRangeIntegerValue}
use Rattle.passkey_core.specs.DataParts.{AttestedParts, DataParts}
use Rattle.passkey_core.specs.Flags.{reserved_flags}
use Rattle.passkey_core.specs.DataFlags.{has_flag, attested_flag, extensions_flag}
use Rattle.passkey_core.specs.DataAnswers.{Returns}
use Rattle.passkey_core.specs.DataReading.{Begun, ◌>>=◌, bytes_at, known_only, fixed_at, read_map, ReadsItem, After, ReadsThen, ReadsAttested, ReadsWhere, ReadsDataThen, PartsGrow, DataGrows}

-- an error of one reading is an error of another
pub gives_fault : {A B C D : Type 0} (memory : Type 0) (other : Type 0) (seen : A → B) (told : C → D)
    (reads : Result B CoseError → Type 0) (answers : Result D CoseError → Type 0) → (memory → other)
    → ((e : CoseError) → reads (Err e) → answers (Err e)) → (e : CoseError) → Returns memory seen reads (Err e)
    → Returns other told answers (Err e)
gives_fault memory other seen told reads answers grows next OutOfMemory h = grows h
gives_fault memory other seen told reads answers grows next i h = next i h

pub part_stands : {X : Type 0} (part : List ℕ → Begun X → Type 0) (is_there : Bool) (bytes : List ℕ) (x : X) (rest :
    List ℕ) → is_there ≡ true → part bytes (Ok (x, rest)) → ReadsWhere is_there part bytes (Ok (Some x, rest))
part_stands part is_there bytes x rest there h =
    rw there (record { begun = Ok (x, rest); begins = h; goes_on = refl })

pub part_fails : {X : Type 0} (part : List ℕ → Begun X → Type 0) (is_there : Bool) (bytes : List ℕ)
    → is_there ≡ true → (e : CoseError) → part bytes (Err e) → ReadsWhere is_there part bytes (Err e)
part_fails part is_there bytes there e h = rw there (record { begun = Err e; begins = h; goes_on = refl })

-- the first part of a successful reading, and the reading after it
pub record MovesForward {X Y : Type 0} (first : Begun X → Type 0) (next : X → List ℕ → Result Y CoseError → Type 0)
    (y : Y) : Type 0 where
  pub part : X
  pub rest : List ℕ
  pub begins : first (Ok (part, rest))
  pub goes_on : next part rest (Ok y)

moves : {X Y : Type 0} (first : Begun X → Type 0) (next : X → List ℕ → Result Y CoseError → Type 0) (y : Y)
    (begun : Begun X) → first begun → After next begun (Ok y) → MovesForward first next y
moves first next y (Ok p) b g = record { part = p.0; rest = p.1; begins = b; goes_on = g }
moves first next y (Err e) b g = cc

pub then_went : {X Y : Type 0} (first : Begun X → Type 0) (next : X → List ℕ → Result Y CoseError → Type 0) (y : Y)
    → ReadsThen first next (Ok y) → MovesForward first next y
then_went first next y p = moves first next y p.begun p.begins p.goes_on

pub at_shape : {Y : Type 0} (Q : Result Y CoseError → Type 0) → Q (Err DecodeFailed)
    → (n : ℕ) (bytes : List ℕ) (next : List ℕ × List ℕ → Result Y CoseError) → ((p : List ℕ × List ℕ) → Q (next p))
    → Q (bytes_at n bytes >>= next)
at_shape Q cut n bytes next h =
    elim (nat_lt (length bytes) n)
    as (λ (b : Bool). Q ((if b then Err DecodeFailed else Ok (take n bytes, drop n bytes)) >>= next)) [
      | true ↦ cut
      | false ↦ h (take n bytes, drop n bytes)
    ]

known_shape : (Q : Begun DataParts → Type 0) → Q (Err OutOfRangeIntegerValue)
    → ((d : DataParts) (rest : List ℕ) → (bit_and d.flags reserved_flags == 0) ≡ true → Q (Ok (d, rest)))
    → (d : DataParts) (rest : List ℕ) → Q (known_only d rest)
known_shape Q range known d rest =
    (elim (bit_and d.flags reserved_flags == 0) as (λ (b : Bool). (bit_and d.flags reserved_flags == 0) ≡ b
    → Q (if b then Ok (let p : DataParts × List ℕ = (d, rest) in p) else Err OutOfRangeIntegerValue)) [
      | true ↦ λ e. known d rest e
      | false ↦ λ e. range
    ]) refl

-- the parts of fixed length are truncated, or have a reserved flag set, or have no reserved flag set
pub fixed_shape : (Q : Begun DataParts → Type 0) → Q (Err DecodeFailed) → Q (Err OutOfRangeIntegerValue)
    → ((d : DataParts) (rest : List ℕ) → (bit_and d.flags reserved_flags == 0) ≡ true → Q (Ok (d, rest)))
    → (bytes : List ℕ) → Q (fixed_at bytes)
unfolding fixed_at
fixed_shape Q cut range known bytes = at_shape Q cut 32 bytes _ (λ hash. at_shape Q cut 1 hash.1 _
    (λ flags. at_shape Q cut 4 flags.1 _ (λ counter. known_shape Q range known _ counter.1)))

-- an error in the parts of fixed length is the result
abbrev FailsAs : {A Y : Type 0} → (DataParts → List ℕ → Result Y CoseError) → Type 0 → (A → Y) → List ℕ
    → Begun DataParts → Type 0
FailsAs finish memory seen bytes (Ok p) = Unit {0}
FailsAs finish memory seen bytes (Err e) =
    fixed_at bytes ≡ Err e → Returns memory seen (ReadsDataThen finish bytes) (Err e)

pub fixed_fails : {A Y : Type 0} (finish : DataParts → List ℕ → Result Y CoseError) (memory : Type 0) (seen : A → Y)
    (bytes : List ℕ) (e : CoseError) → fixed_at bytes ≡ Err e
    → Returns memory seen (ReadsDataThen finish bytes) (Err e)
fixed_fails finish memory seen bytes e h =
    let wanted : FailsAs finish memory seen bytes (fixed_at bytes) = fixed_shape (FailsAs finish memory seen bytes)
    (λ g. record { begun = Err DecodeFailed; begins = sym g; goes_on = refl }) (λ g.
    record { begun = Err OutOfRangeIntegerValue; begins = sym g; goes_on = refl }) (λ d rest known. tt) bytes in
    (subst (FailsAs finish memory seen bytes) h wanted) h

pub extensions_fail : {A B Y : Type 0} (finish : DataParts → List ℕ → Result Y CoseError) (seen : A → Y)
    (told : B → Option Item × List ℕ) (bytes : List ℕ) (fixed : DataParts) (rest : List ℕ) (attested : Option AttestedParts)
    (following : List ℕ) (e : CoseError)
    → Ok (fixed, rest) ≡ fixed_at bytes → ReadsWhere (has_flag attested_flag fixed.flags) ReadsAttested rest
    (Ok (attested, following)) → Returns ((has_flag extensions_flag fixed.flags ≡ true) × HasGrowingLeadingItem following)
    told (ReadsWhere (has_flag extensions_flag fixed.flags) (ReadsItem read_map) following) (Err e)
    → Returns (DataGrows bytes) seen (ReadsDataThen finish bytes) (Err e)
extensions_fail finish seen told bytes fixed rest attested following e is_fixed is_attested h =
    gives_fault ((has_flag extensions_flag fixed.flags ≡ true) × HasGrowingLeadingItem following) (DataGrows bytes) told
    seen (ReadsWhere (has_flag extensions_flag fixed.flags) (ReadsItem read_map) following) (ReadsDataThen finish bytes)
    (λ grows. subst (λ (begun : Begun DataParts). IsOkAnd begun (λ p. PartsGrow p.0 p.1)) is_fixed
    (inr (grows.0, record { attested = attested; following = following; begins = is_attested; grows = grows.1 })))
    (λ f g. record {
      begun = Ok (fixed, rest);
      begins = is_fixed;
      goes_on = record {
        begun = Ok (attested, following);
        begins = is_attested;
        goes_on = record { begun = Err f; begins = g; goes_on = refl };
      };
    })
    e h
