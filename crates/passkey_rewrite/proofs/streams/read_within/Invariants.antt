use Rattle.std.proofs.Common.{◌≤◌, ◌*◌, vec_len}
use Rattle.std.specs.Io.KnownBytes.{Consumes}
use Rattle.passkey_rewrite.proofs.streams.read_within.Given as goal

abbrev pub invariant-loop-read : goal.invariant-loop-read
invariant-loop-read g l = record {
  consumed : Consumes (g.R.Read.remaining l.fn.reader) (g.R.Read.remaining l.reader) l.input.items;
  few : vec_len l.input ≤ 4096 * l._read;
}
