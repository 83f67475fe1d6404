use Rattle.passkey_kinds.proofs.Common.{◌≡◌, ◌+◌, ◌++◌, [], length, map, take, entry_of, Entry}
use Rattle.passkey_kinds.proofs.key.names_of.Given as goal

abbrev pub invariant-loop-i : goal.invariant-loop-i
invariant-loop-i l = record {
  long : length l.names ≡ 128;
  named : map (λ n. n.now) (take l.i l.names) ≡ [] ++ map (λ (e : Entry). e.name) (map entry_of (take l.i l.rows));
}

abbrev pub invariant-loop-i-2 : goal.invariant-loop-i-2
invariant-loop-i-2 l = record {
  long : length l.names ≡ 128;
  named : map (λ n. n.now) (take (length l.rows + l.i) l.names)
      ≡ map (λ (e : Entry). e.name) (map entry_of l.rows) ++ map (λ (e : Entry). e.other) (map entry_of (take l.i l.rows));
}
