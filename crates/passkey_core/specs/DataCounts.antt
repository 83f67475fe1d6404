-- What one step of decoding authenticator data adds to the counts.
use Rattle.std.specs.Prelude.{ℕ, ◌+◌, ◌*◌, ◌-◌, ◌^◌, ◌<◌, ◌≤◌, min, List, length, Result, Ok, Err}
use Rattle.std.specs.Borrow.{Bor}
use Rattle.passkey_cbor.specs.CursorState.{raised}
use Rattle.passkey_cbor.specs.declared.count.Count.{Count}
use Rattle.passkey_cose.specs.declared.error.CoseError.{CoseError}
use Rattle.passkey_cose.specs.declared.error.CoseError.TheVariants.{OutOfMemory}
use Rattle.passkey_core.specs.DataNodes.{count_data, data_nodes, data_places, front_heads, front_nodes, one}

-- how many bytes are left after a part; 0 after an error
abbrev pub bytes_left : {A : Type 0} → Result (A × Bor (List ℕ)) CoseError → ℕ
bytes_left (Ok r) = length r.1.now
bytes_left (Err e) = 0

-- the fact, unless the error is that memory ran out
abbrev pub ExceptOutOfMemory : CoseError → Type 0 → Type 0
ExceptOutOfMemory OutOfMemory P = Unit {0}
ExceptOutOfMemory _ P = P

abbrev pub UnlessOutOfMemory : {A : Type 0} → Result A CoseError → Type 0 → Type 0
UnlessOutOfMemory (Ok x) P = P
UnlessOutOfMemory (Err e) P = ExceptOutOfMemory e P

-- Each head and each data item that `places` counts was counted.
pub record CountsEach (places : (List ℕ → ℕ) → ℕ) (old new : Count) : Type 0 where
  pub heads : min (old.heads + places front_heads) (2 ^ 128 - 1) ≤ new.heads
  pub nodes : min (old.nodes + places front_nodes) (2 ^ 128 - 1) ≤ new.nodes

-- At most two heads are counted for each byte of the part, and one more; at most the data items that `places`
-- counts, and at least one head if any is decoded; unless memory ran out, at least all heads and data items that
-- `places` counts, whether the part was built or not; and neither count decreases.
pub record Counts {A : Type 0} (places : (List ℕ → ℕ) → ℕ) (bytes : List ℕ) (old new : Count)
    (result : Result (A × Bor (List ℕ)) CoseError) : Type 0 where
  pub heads : new.heads + 2 * bytes_left result ≤ old.heads + 2 * length bytes + 1
  pub nodes : new.nodes ≤ old.nodes + places front_nodes
  pub least : 0 < places one → raised old.heads 1 ≤ new.heads
  pub all : UnlessOutOfMemory result (CountsEach places old new)
  pub heads_rise : old.heads ≤ new.heads
  pub nodes_rise : old.nodes ≤ new.nodes

-- What decoding authenticator data adds: at most four heads for each byte, and four more; at most the data items that
-- it consists of, and at least one head if any is decoded; unless memory ran out, each head and each data item that was
-- decoded; and neither count decreases.
pub record CountsData {A : Type 0} (bytes : List ℕ) (old new : Count) (result : Result A CoseError) : Type 0 where
  pub heads : new.heads ≤ old.heads + (4 * length bytes + 4)
  pub nodes : new.nodes ≤ old.nodes + data_nodes bytes
  pub least : 0 < data_places bytes → raised old.heads 1 ≤ new.heads
  pub all : UnlessOutOfMemory result (CountsEach (λ each. count_data each bytes) old new)
  pub heads_rise : old.heads ≤ new.heads
  pub nodes_rise : old.nodes ≤ new.nodes
