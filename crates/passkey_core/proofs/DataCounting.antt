-- What the steps of decoding authenticator data add to the counts.
use Rattle.std.proofs.Common.{◌≡◌, ◌∙◌, ℕ, zero, suc, ◌+◌, ◌-◌, ◌^◌, ◌≤◌, min, List, length, take, drop, None, Result, Ok, Err, Bor, refl, sym, ap, subst, arith}
use Rattle.passkey_cbor.specs.Bytes.{IsBytes}
use Rattle.passkey_cbor.specs.HeadCount.{heads_of}
use Rattle.passkey_cbor.specs.LeadingItem.{IsLeadingItem, HasNoLeadingItem}
use Rattle.passkey_cbor.specs.LeadingItemAt.{leading_item_at}
use Rattle.passkey_cbor.specs.Item.{Item}
use Rattle.passkey_cbor.specs.Nodes.{nodes}
use Rattle.passkey_cbor.specs.Valued.{MakesLeadingItem, ReadsValue}
use Rattle.passkey_cbor.specs.CursorState.{CursorState, ahead, raised}
use Rattle.passkey_cbor.specs.declared.count.Count.{Count}
use Rattle.passkey_cbor.specs.declared.error.CborError.{CborError}
use Rattle.passkey_cbor.specs.declared.error.CborError.TheVariants as error
use Rattle.passkey_cbor.proofs.items.LeadingItems.{front_given, given_front}
use Rattle.std.proofs.lemmas.List.{length-drop}
use Rattle.passkey_cose.specs.declared.error.CoseError.{CoseError}
use Rattle.passkey_cose.specs.declared.error.CoseError.TheVariants as cose
use Rattle.passkey_cose.specs.CoseErrors.{cose_error_of}
use Rattle.passkey_core.specs.DataCounts.{Counts, CountsEach, ExceptOutOfMemory, UnlessOutOfMemory}
use Rattle.passkey_core.specs.DataNodes.{given_nodes, given_heads, front_nodes, front_heads, count_after, count_key, one}
use Rattle.passkey_core.specs.DataReading.{Begun, ids_at}
use Rattle.passkey_core.proofs.DataGiven.{none_given}
use Rattle.passkey_core.proofs.DataShrinking.{ids_shrink}

-- ---- a data item that a cursor decodes at the start of the bytes

abbrev begin : List ℕ → CursorState
begin bytes = record { bytes = bytes; place = 0; heads = 0; nodes = 0 }

-- the cursor's counts are added
pub record Added (old new : Count) (w : CursorState) : Type 0 where
  pub heads : new.heads ≡ min (old.heads + w.heads) (2 ^ 128 - 1)
  pub nodes : new.nodes ≡ min (old.nodes + w.nodes) (2 ^ 128 - 1)
  pub heads_rise : old.heads ≤ new.heads
  pub nodes_rise : old.nodes ≤ new.nodes

raised-zero : (n : ℕ) → raised 0 n ≡ min n (2 ^ 128 - 1)
raised-zero zero = refl
raised-zero (suc n) = omega arith

nodes_given : (bytes : List ℕ) (a : CursorState) (x : Item) (len : ℕ) → a ≡ begin bytes → IsLeadingItem (ahead a) x len
    → front_nodes bytes ≡ nodes x
nodes_given bytes a x len e f =
    let here : IsLeadingItem bytes x len = subst (λ (w : CursorState). IsLeadingItem (ahead w) x len) e f in
    ap given_nodes (front_given bytes x len here)

within : (bytes : List ℕ) (a : CursorState) (x : Item) (len : ℕ) → a ≡ begin bytes → IsLeadingItem (ahead a) x len
    → len ≤ length bytes
within bytes a x len e f = (subst (λ (w : CursorState). IsLeadingItem (ahead w) x len) e f).within

heads_given : (bytes : List ℕ) (a : CursorState) (x : Item) (len : ℕ) → a ≡ begin bytes → IsLeadingItem (ahead a) x len
    → front_heads bytes ≡ heads_of (take len (ahead a))
heads_given bytes a x len e f =
    let here : IsLeadingItem bytes x len = subst (λ (w : CursorState). IsLeadingItem (ahead w) x len) e f in
    let size : length bytes - length (drop len bytes) ≡ len =
    omega (arith, length-drop len bytes, here.within) in
    ap (given_heads bytes) (front_given bytes x len here) ∙ ap (λ (n : ℕ). heads_of (take n bytes)) size
    ∙ ap (λ (w : CursorState). heads_of (take len (ahead w))) (sym e)

-- counted from nothing on, and added to other counts
all_heads : (a b : CursorState) (n : ℕ) → a.heads ≡ 0 → raised a.heads n ≤ b.heads → min n (2 ^ 128 - 1) ≤ b.heads
all_heads a b n none counted =
    let first : raised 0 n ≤ b.heads = subst (λ (k : ℕ). raised k n ≤ b.heads) none counted in
    omega (arith, raised-zero n, first)

pub item_made : {A : Type 0} (bytes : List ℕ) (a b : CursorState) (x : Item) (old new : Count) (v : A)
    (rest : Bor (List ℕ)) → a ≡ begin bytes → MakesLeadingItem a b x → Added old new b
    → length rest.now ≡ length bytes - b.place → Counts (λ each. each bytes) bytes old new (Ok (v, rest))
item_made bytes a b x old new v rest e m added left =
    let no_heads : a.heads ≡ 0 = ap (λ (w : CursorState). w.heads) e in
    let no_place : a.place ≡ 0 = ap (λ (w : CursorState). w.place) e in
    let size : m.len ≤ length bytes = within bytes a x m.len e m.front in
    let given : front_nodes bytes ≡ nodes x = nodes_given bytes a x m.len e m.front in
    let made : b.nodes ≡ min (nodes x) (2 ^ 128 - 1) =
    m.nodes ∙ ap (λ (w : CursorState). raised w.nodes (nodes x)) e ∙ raised-zero (nodes x) in
    let some : 1 ≤ b.heads = subst (λ (n : ℕ). raised n 1 ≤ b.heads) no_heads m.least in
    record {
      heads = omega (arith, added.heads, m.heads, m.place);
      nodes = omega (arith, added.nodes);
      least = λ _. omega (arith, added.heads);
      all = record {
        heads = omega (
          arith,
          added.heads,
          heads_given bytes a x m.len e m.front,
          all_heads a b (heads_of (take m.len (ahead a))) no_heads m.all,
        );
        nodes = omega (arith, added.nodes);
      };
      heads_rise = added.heads_rise;
      nodes_rise = added.nodes_rise;
    }

pub item_fails : {A : Type 0} (bytes : List ℕ) (a b : CursorState) (e : CborError) (old new : Count) → IsBytes bytes
    → a ≡ begin bytes → ReadsValue a b (Err e) → Added old new b
    → Counts {A = A} (λ each. each bytes) bytes old new (Err (cose_error_of e))
item_fails bytes a b error.DecodeFailed old new fits e r added =
    let no_heads : a.heads ≡ 0 = ap (λ (w : CursorState). w.heads) e in
    let no_nodes : a.nodes ≡ 0 = ap (λ (w : CursorState). w.nodes) e in
    let size : length (ahead a) ≡ length bytes = ap (λ (w : CursorState). length (ahead w)) e in
    let some : 1 ≤ b.heads = subst (λ (n : ℕ). raised n 1 ≤ b.heads) no_heads r.least in
    let none : leading_item_at bytes ≡ None = none_given given_front bytes fits
    (subst (λ (w : CursorState). HasNoLeadingItem (ahead w)) e r.none) in
    record {
      heads = omega (arith, added.heads, r.heads);
      nodes = omega (arith, added.nodes, r.nodes);
      least = λ _. omega (arith, added.heads);
      all = record {
        heads = omega (arith, added.heads, ap (given_heads bytes) none);
        nodes = omega (arith, added.nodes, r.nodes, ap given_nodes none);
      };
      heads_rise = added.heads_rise;
      nodes_rise = added.nodes_rise;
    }
item_fails bytes a b error.OutOfMemory old new fits e r added =
    let no_heads : a.heads ≡ 0 = ap (λ (w : CursorState). w.heads) e in
    let no_nodes : a.nodes ≡ 0 = ap (λ (w : CursorState). w.nodes) e in
    let size : r.len ≤ length bytes = within bytes a r.item r.len e r.front in
    let given : front_nodes bytes ≡ nodes r.item = nodes_given bytes a r.item r.len e r.front in
    let some : 1 ≤ b.heads = subst (λ (n : ℕ). raised n 1 ≤ b.heads) no_heads r.least in
    record {
      heads = omega (arith, added.heads, r.heads);
      nodes = omega (arith, added.nodes, r.nodes);
      least = λ _. omega (arith, added.heads);
      all = tt;
      heads_rise = added.heads_rise;
      nodes_rise = added.nodes_rise;
    }
item_fails bytes a b error.OutOfRangeIntegerValue old new fits e r added = absurd r

-- ---- a step that follows another one

-- the result is converted to something else
pub counts_same : {A B : Type 0} (places : (List ℕ → ℕ) → ℕ) (bytes : List ℕ) (old new : Count) (x : A) (y : B)
    (rest : Bor (List ℕ)) → Counts places bytes old new (Ok (x, rest)) → Counts places bytes old new (Ok (y, rest))
counts_same places bytes old new x y rest h = record {
  heads = h.heads;
  nodes = h.nodes;
  least = h.least;
  all = h.all;
  heads_rise = h.heads_rise;
  nodes_rise = h.nodes_rise;
}

pub except : {P : Type 0} (e : CoseError) → P → ExceptOutOfMemory e P
except cose.OutOfMemory p = tt
except _ p = p

pub except_map : (e : CoseError) (P Q : Type 0) → ExceptOutOfMemory e P → (P → Q) → ExceptOutOfMemory e Q
except_map cose.OutOfMemory P Q p f = tt
except_map cose.DecodeFailed P Q p f = f p
except_map cose.OutOfRangeIntegerValue P Q p f = f p
except_map cose.DuplicateMapKey P Q p f = f p
except_map cose.UnexpectedItem P Q p f = f p

-- the step's own error
pub counts_failed : {A B : Type 0} (places : (List ℕ → ℕ) → ℕ) (bytes : List ℕ) (old new : Count) (e : CoseError)
    → Counts {A = A} places bytes old new (Err e) → Counts {A = B} places bytes old new (Err e)
counts_failed places bytes old new e h = record {
  heads = h.heads;
  nodes = h.nodes;
  least = h.least;
  all = h.all;
  heads_rise = h.heads_rise;
  nodes_rise = h.nodes_rise;
}

-- an error after the step
pub counts_refused : {A B : Type 0} (places : (List ℕ → ℕ) → ℕ) (bytes : List ℕ) (old new : Count)
    (p : A × Bor (List ℕ)) (fault : CoseError) → Counts places bytes old new (Ok p)
    → Counts {A = B} places bytes old new (Err fault)
counts_refused places bytes old new p fault h = record {
  heads = omega (arith, h.heads);
  nodes = h.nodes;
  least = h.least;
  all = except fault h.all;
  heads_rise = h.heads_rise;
  nodes_rise = h.nodes_rise;
}

-- no data item is decoded
pub counts_none : {A : Type 0} (places : (List ℕ → ℕ) → ℕ) (bytes : List ℕ) (count : Count) (fault : CoseError)
    → ((each : List ℕ → ℕ) → places each ≡ 0) → Counts {A = A} places bytes count count (Err fault)
counts_none places bytes count fault none = record {
  heads = omega arith;
  nodes = omega arith;
  least =
      λ some. absurd (omega (arith, none one, some));
  all = except fault (record {
    heads = omega (arith, none front_heads);
    nodes = omega (arith, none front_nodes);
  });
  heads_rise = omega arith;
  nodes_rise = omega arith;
}

pub unless_map : {A : Type 0} (r : Result A CoseError) (P Q : Type 0) → UnlessOutOfMemory r P → (P → Q)
    → UnlessOutOfMemory r Q
unless_map (Ok x) P Q p f = f p
unless_map (Err e) P Q p f = except_map e P Q p f

-- other places with the same counts, and more bytes
moved : {A : Type 0} (places others : (List ℕ → ℕ) → ℕ) (bytes more : List ℕ) (old new : Count)
    (r : Result (A × Bor (List ℕ)) CoseError) → ((each : List ℕ → ℕ) → others each ≡ places each)
    → length bytes ≤ length more → Counts places bytes old new r → Counts others more old new r
moved places others bytes more old new r same longer h = record {
  heads = omega (arith, h.heads);
  nodes = rw (same front_nodes) h.nodes;
  least = rw (same one) h.least;
  all = unless_map r (CountsEach places old new) (CountsEach others old new) h.all (λ (p : CountsEach places old new). record {
    heads = omega (arith, p.heads, same front_heads);
    nodes = omega (arith, p.nodes, same front_nodes);
  });
  heads_rise = h.heads_rise;
  nodes_rise = h.nodes_rise;
}

-- ---- the key after the AAGUID and the credential id

key_after : (each : List ℕ → ℕ) (bytes : List ℕ) (ids : List ℕ × List ℕ) (rest : List ℕ)
    → Ok (ids, rest) ≡ ids_at bytes → count_key each bytes ≡ each rest
unfolding count_key
key_after each bytes ids rest h =
    ap (λ (begun : Begun (List ℕ × List ℕ)). count_after begun (λ p. each p.1)) (sym h)

no_key : (each : List ℕ → ℕ) (bytes : List ℕ) (e : CoseError) → Err e ≡ ids_at bytes → count_key each bytes ≡ 0
unfolding count_key
no_key each bytes e h = ap (λ (begun : Begun (List ℕ × List ℕ)). count_after begun (λ p. each p.1)) (sym h)

pub counts_after_ids : {A : Type 0} (bytes : List ℕ) (ids : List ℕ × List ℕ) (rest : List ℕ) (old new : Count)
    (r : Result (A × Bor (List ℕ)) CoseError) → Ok (ids, rest) ≡ ids_at bytes
    → Counts (λ each. each rest) rest old new r → Counts (λ each. count_key each bytes) bytes old new r
counts_after_ids bytes ids rest old new r is_ids h =
    moved (λ each. each rest) (λ each. count_key each bytes) rest bytes old new r
    (λ each. key_after each bytes ids rest is_ids) (ids_shrink bytes ids rest is_ids) h

pub counts_no_key : {A : Type 0} (bytes : List ℕ) (e fault : CoseError) (count : Count) → Err e ≡ ids_at bytes
    → Counts {A = A} (λ each. count_key each bytes) bytes count count (Err fault)
counts_no_key bytes e fault count h =
    counts_none (λ each. count_key each bytes) bytes count fault (λ each. no_key each bytes e h)
