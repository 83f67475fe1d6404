use Rattle.passkey_registered.specs.extensions.Others.{wanted_in}
use Rattle.passkey_kinds.specs.Words.{pair_of, table_of}
use Rattle.std.proofs.Common.{◌≡◌, ◌++◌, drop, map}
use Rattle.passkey_registered.proofs.extensions.others.wanted_among.Given as goal

abbrev pub invariant-loop-key : goal.invariant-loop-key
invariant-loop-key g l = map pair_of l.wanted.items
    ++ wanted_in l.which (table_of g.R.Record.fields) (map pair_of (drop l.key-index l.pairs))
    ≡ wanted_in l.which (table_of g.R.Record.fields) (map pair_of l.pairs)
