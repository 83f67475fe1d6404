-- What decoding authenticator data adds to the counts, step by step.
use Rattle.std.proofs.Common.{◌≡◌, ◌∙◌, ℕ, ◌+◌, ◌<◌, ◌≤◌, List, length, Bool, true, Option, Some, Result, Ok, Err, Bor, sym, ap, subst, arith}
use Rattle.passkey_cbor.specs.CursorState.{raised}
use Rattle.passkey_cbor.specs.declared.count.Count.{Count}
use Rattle.passkey_cbor.specs.Bytes.{IsBytes}
use Rattle.passkey_cbor.proofs.items.LeadingItems.{front_given, given_front}
use Rattle.passkey_cose.specs.declared.error.CoseError.{CoseError}
use Rattle.passkey_cose.specs.declared.error.CoseError.TheVariants as cose
use Rattle.passkey_core.specs.DataAnswers.{Returns}
use Rattle.passkey_core.specs.DataCounts.{Counts, CountsData, CountsEach, ExceptOutOfMemory, UnlessOutOfMemory}
use Rattle.passkey_core.specs.DataFlags.{attested_flag, extensions_flag, has_flag}
use Rattle.passkey_core.specs.DataNodes.{front_heads, front_nodes, count_after, count_where, count_key, count_data, one}
use Rattle.passkey_core.specs.DataParts.{AttestedParts, DataParts}
use Rattle.passkey_core.specs.DataRead.{attested_at, where_at}
use Rattle.passkey_core.specs.DataReading.{Begun, ◌>>=◌, fixed_at, ids_at, ReadsAttested, ReadsWhere}
use Rattle.passkey_core.proofs.DataCounting.{except, unless_map}
use Rattle.passkey_core.proofs.DataGiven.{LeavesBytes, fixed_leave, attested_where_given, attested_where_gives}
use Rattle.passkey_core.proofs.DataShrinking.{fixed_shrink}

-- ---- an error in the parts of fixed length

nothing_after : (each : List ℕ → ℕ) (bytes : List ℕ) (e : CoseError) → fixed_at bytes ≡ Err e
    → count_data each bytes ≡ 0
unfolding count_data
nothing_after each bytes e h =
    ap (λ (begun : Begun DataParts). count_after begun (λ fixed. count_where (has_flag attested_flag fixed.0.flags)
    (count_key each) fixed.1 + count_after (where_at (has_flag attested_flag fixed.0.flags) attested_at
    fixed.1) (λ attested. count_where (has_flag extensions_flag fixed.0.flags) each attested.1))) h

pub totals_fixed : {A : Type 0} (bytes : List ℕ) (e : CoseError) (count : Count) → fixed_at bytes ≡ Err e
    → CountsData {A = A} bytes count count (Err e)
totals_fixed bytes e count h = record {
  heads = omega arith;
  nodes = omega arith;
  least = λ some. absurd (omega (arith, nothing_after one bytes e h, some));
  all = except e (record {
    heads = omega (arith, nothing_after front_heads bytes e h);
    nodes = omega (arith, nothing_after front_nodes bytes e h);
  });
  heads_rise = omega arith;
  nodes_rise = omega arith;
}

-- ---- an error in attested credential data

-- what is counted after attested credential data
abbrev after_attested : (List ℕ → ℕ) → DataParts → Begun (Option AttestedParts) → ℕ
after_attested each fixed begun =
    count_after begun (λ attested. count_where (has_flag extensions_flag fixed.flags) each attested.1)

parts_of : (each : List ℕ → ℕ) (bytes : List ℕ) (fixed : DataParts) (rest : List ℕ) → Ok (fixed, rest)
    ≡ fixed_at bytes → count_data each bytes ≡ count_where (has_flag attested_flag fixed.flags) (count_key each)
    rest + after_attested each fixed (where_at (has_flag attested_flag fixed.flags) attested_at rest)
unfolding count_data
parts_of each bytes fixed rest h =
    ap (λ (begun : Begun DataParts). count_after begun (λ fixed. count_where (has_flag attested_flag fixed.0.flags)
    (count_key each) fixed.1 + count_after (where_at (has_flag attested_flag fixed.0.flags) attested_at
    fixed.1) (λ attested. count_where (has_flag extensions_flag fixed.0.flags) each attested.1))) (sym h)

-- if a data item is decoded, the key is
by_ids : (fixed : DataParts) (ids : Begun (List ℕ × List ℕ))
    (next : (List ℕ × List ℕ) × List ℕ → Begun AttestedParts) → 0 < count_after ids (λ p. one p.1)
    + after_attested one fixed (ids >>= next >>= λ p. Ok (Some p.0, p.1)) → 0 < count_after ids (λ p. one p.1)
by_ids fixed (Ok p) next some = omega arith
by_ids fixed (Err e) next some = some

key_first : (fixed : DataParts) (rest : List ℕ)
    → 0 < count_key one rest + after_attested one fixed (where_at true attested_at rest) → 0 < count_key one rest
unfolding count_key attested_at
key_first fixed rest some = by_ids fixed (ids_at rest) _ some

part_first : (fixed : DataParts) (rest : List ℕ) (is_there : Bool) → is_there ≡ true
    → 0 < count_where is_there (count_key one) rest + after_attested one fixed (where_at is_there attested_at rest)
    → 0 < count_where is_there (count_key one) rest
part_first fixed rest is_there there = rw there (key_first fixed rest)

-- what is known of a fault that isn't out of memory
faulted : {A B : Type 0} (P Q memory : Type 0) (seen : A → B) (answers : Result B CoseError → Type 0)
    (e : CoseError) → Returns memory seen answers (Err e) → ExceptOutOfMemory e P → (answers (Err e) → P → Q)
    → ExceptOutOfMemory e Q
faulted P Q memory seen answers cose.OutOfMemory r p f = tt
faulted P Q memory seen answers cose.DecodeFailed r p f = f r p
faulted P Q memory seen answers cose.OutOfRangeIntegerValue r p f = f r p
faulted P Q memory seen answers cose.DuplicateMapKey r p f = f r p
faulted P Q memory seen answers cose.UnexpectedItem r p f = f r p

all_attested : {A : Type 0} (memory : Type 0) (seen : A × Bor (List ℕ) → Option AttestedParts × List ℕ)
    (bytes : List ℕ) (fixed : DataParts) (rest : List ℕ) (e : CoseError) (old new : Count) → IsBytes bytes
    → Ok (fixed, rest) ≡ fixed_at bytes
    → Returns memory seen (ReadsWhere (has_flag attested_flag fixed.flags) ReadsAttested rest) (Err e)
    → Counts {A = A} (λ each. count_where (has_flag attested_flag fixed.flags) (count_key each) rest) rest old new
    (Err e) → ExceptOutOfMemory e (CountsEach (λ each. count_data each bytes) old new)
all_attested memory seen bytes fixed rest e old new fits is_fixed reads h =
    let is_attested : Bool = has_flag attested_flag fixed.flags in
    let rest_fits : IsBytes rest = subst LeavesBytes (sym is_fixed) (fixed_leave bytes fits) in
    faulted (CountsEach (λ each. count_where is_attested (count_key each) rest) old new)
    (CountsEach (λ each. count_data each bytes) old new) memory seen (ReadsWhere is_attested ReadsAttested rest) e reads
    h.all (λ fails p.
    let given = attested_where_gives front_given given_front is_attested rest rest_fits (Err e) fails in
    let parts : (each : List ℕ → ℕ) → count_data each bytes ≡ count_where is_attested (count_key each) rest + 0 =
    λ each. parts_of each bytes fixed rest is_fixed
    ∙ ap (λ (begun : Begun (Option AttestedParts)). count_where is_attested (count_key each) rest
    + after_attested each fixed begun) given in
    record {
      heads = omega (arith, p.heads, parts front_heads);
      nodes = omega (arith, p.nodes, parts front_nodes);
    })

pub totals_attested : {A B : Type 0} (memory : Type 0) (seen : A × Bor (List ℕ) → Option AttestedParts × List ℕ)
    (bytes : List ℕ) (fixed : DataParts) (rest : List ℕ) (e : CoseError) (old new : Count) → IsBytes bytes
    → Ok (fixed, rest) ≡ fixed_at bytes → has_flag attested_flag fixed.flags ≡ true
    → Returns memory seen (ReadsWhere (has_flag attested_flag fixed.flags) ReadsAttested rest) (Err e)
    → Counts {A = A} (λ each. count_where (has_flag attested_flag fixed.flags) (count_key each) rest) rest old new
    (Err e) → CountsData {A = B} bytes old new (Err e)
totals_attested memory seen bytes fixed rest e old new fits is_fixed there reads h = record {
  heads = omega (arith, h.heads, fixed_shrink bytes fixed rest is_fixed);
  nodes = omega (arith, h.nodes, parts_of front_nodes bytes fixed rest is_fixed);
  least = λ some. h.least (part_first fixed rest (has_flag attested_flag fixed.flags) there
      (rw (sym (parts_of one bytes fixed rest is_fixed)) some));
  all = all_attested memory seen bytes fixed rest e old new fits is_fixed reads h;
  heads_rise = h.heads_rise;
  nodes_rise = h.nodes_rise;
}

-- ---- then the extensions

counts_of : (each : List ℕ → ℕ) (bytes : List ℕ) (fixed : DataParts) (rest : List ℕ)
    (attested : Option AttestedParts) (following : List ℕ) → Ok (fixed, rest) ≡ fixed_at bytes
    → ReadsWhere (has_flag attested_flag fixed.flags) ReadsAttested rest (Ok (attested, following))
    → count_data each bytes ≡ count_where (has_flag attested_flag fixed.flags) (count_key each) rest
    + count_where (has_flag extensions_flag fixed.flags) each following
counts_of each bytes fixed rest attested following is_fixed reads =
    let given : where_at (has_flag attested_flag fixed.flags) attested_at rest ≡ Ok (attested, following) =
    attested_where_given front_given (has_flag attested_flag fixed.flags) rest (attested, following) reads in
    parts_of each bytes fixed rest is_fixed ∙ ap (λ (begun : Begun (Option AttestedParts)). count_where
    (has_flag attested_flag fixed.flags) (count_key each) rest + after_attested each fixed begun) given

-- at least one head over two steps
least_of : (m n old mid new : ℕ) → (0 < m → raised old 1 ≤ mid) → (0 < n → raised mid 1 ≤ new) → old ≤ mid
    → mid ≤ new → 0 < m + n → raised old 1 ≤ new
least_of m n old mid new first second up rise some = grind arith

-- both steps, and what they count
record Steps {A B : Type 0} (bytes : List ℕ) (fixed : DataParts) (rest : List ℕ) (x : A) (following : Bor (List ℕ))
    (old mid new : Count) (last : Result (B × Bor (List ℕ)) CoseError) : Type 0 where
  first : Counts (λ each. count_where (has_flag attested_flag fixed.flags) (count_key each) rest) rest old mid
      (Ok (x, following))
  second :
      Counts (λ each. count_where (has_flag extensions_flag fixed.flags) each following.now) following.now mid new last
  both : (each : List ℕ → ℕ) → count_data each bytes ≡ count_where (has_flag attested_flag fixed.flags)
      (count_key each) rest + count_where (has_flag extensions_flag fixed.flags) each following.now
  shorter : length rest ≤ length bytes

steps : {A B : Type 0} (bytes : List ℕ) (fixed : DataParts) (rest : List ℕ) (attested : Option AttestedParts)
    (x : A) (following : Bor (List ℕ)) (old mid new : Count) (last : Result (B × Bor (List ℕ)) CoseError)
    → Ok (fixed, rest) ≡ fixed_at bytes
    → ReadsWhere (has_flag attested_flag fixed.flags) ReadsAttested rest (Ok (attested, following.now))
    → Counts (λ each. count_where (has_flag attested_flag fixed.flags) (count_key each) rest) rest old mid
    (Ok (x, following))
    → Counts (λ each. count_where (has_flag extensions_flag fixed.flags) each following.now) following.now mid new last
    → Steps bytes fixed rest x following old mid new last
steps bytes fixed rest attested x following old mid new last is_fixed reads first second = record {
  first = first;
  second = second;
  both = λ each. counts_of each bytes fixed rest attested following.now is_fixed reads;
  shorter = fixed_shrink bytes fixed rest is_fixed;
}

all_counted : {A B : Type 0} (bytes : List ℕ) (fixed : DataParts) (rest : List ℕ) (x : A)
    (following : Bor (List ℕ)) (old mid new : Count) (last : Result (B × Bor (List ℕ)) CoseError)
    → Steps bytes fixed rest x following old mid new last
    → UnlessOutOfMemory last (CountsEach (λ each. count_data each bytes) old new)
all_counted bytes fixed rest x following old mid new last s =
    unless_map last (CountsEach (λ each. count_where (has_flag extensions_flag fixed.flags) each following.now) mid new)
    (CountsEach (λ each. count_data each bytes) old new) s.second.all (λ p. record {
      heads = omega (arith, s.first.all.heads, p.heads, s.both front_heads);
      nodes = omega (arith, s.first.all.nodes, p.nodes, s.both front_nodes);
    })

-- what a result is known of that ends as decoding the extensions did
pub totals : {A B C : Type 0} (bytes : List ℕ) (fixed : DataParts) (rest : List ℕ) (attested : Option AttestedParts)
    (x : A) (following : Bor (List ℕ)) (old mid new : Count) (last : Result (B × Bor (List ℕ)) CoseError)
    (result : Result C CoseError) → ((P : Type 0) → UnlessOutOfMemory last P → UnlessOutOfMemory result P)
    → Ok (fixed, rest) ≡ fixed_at bytes
    → ReadsWhere (has_flag attested_flag fixed.flags) ReadsAttested rest (Ok (attested, following.now))
    → Counts (λ each. count_where (has_flag attested_flag fixed.flags) (count_key each) rest) rest old mid
    (Ok (x, following))
    → Counts (λ each. count_where (has_flag extensions_flag fixed.flags) each following.now) following.now mid new last
    → CountsData bytes old new result
totals bytes fixed rest attested x following old mid new last result ends is_fixed reads first second =
    let s = steps bytes fixed rest attested x following old mid new last is_fixed reads first second in
    record {
      heads = omega (arith, s.first.heads, s.second.heads, s.shorter);
      nodes = omega (arith, s.first.nodes, s.second.nodes, s.both front_nodes);
      least = λ some. least_of _ _ old.heads mid.heads new.heads s.first.least s.second.least s.first.heads_rise
          s.second.heads_rise (rw (sym (s.both one)) some);
      all = ends _ (all_counted bytes fixed rest x following old mid new last s);
      heads_rise = omega (arith, s.first.heads_rise, s.second.heads_rise);
      nodes_rise = omega (arith, s.first.nodes_rise, s.second.nodes_rise);
    }
