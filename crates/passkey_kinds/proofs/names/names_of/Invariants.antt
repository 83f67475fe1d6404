use Rattle.std.proofs.Common.{◌≡◌, length, map, take}
use Rattle.passkey_kinds.proofs.names.names_of.Given as goal
use Rattle.passkey_webauthn.specs.Names.{row_of, texts}

abbrev pub invariant-loop-i : goal.invariant-loop-i
invariant-loop-i g l = record {
  long : length l.names ≡ 16;
  named : map (λ n. n.now) (take l.i l.names) ≡ texts (map row_of (take l.i l.table));
}
