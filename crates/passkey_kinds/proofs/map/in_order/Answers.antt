use Rattle.std.proofs.lemmas.Iterator.Consumers.{YieldsList-from_rest, map_from_collect}
use Rattle.std.proofs.lemmas.List.Sorted.{IsPermutation-map}
use Rattle.std.proofs.Common.{IsPermutation}
use Rattle.std.specs.FinMap as fin
use Rattle.passkey_bytes.proofs.Placed.{entries_by_bytes}
use Rattle.passkey_kinds.proofs.Steps.{◌≡◌, length, map, subst, rules, deref_pair, by_length, is_lt, short_first_is, sorted-map, always_returns_same}
use Rattle.passkey_kinds.proofs.map.in_order.Goals as goal

pub returns : goal.returns
returns g c =
    let es = fin.entries c.args.entries.now in
    let ys = c.sort_unstable_by_key.new.self.items in
    let all = rw c.in_ok-sorted.was at (map_from_collect {v = deref_pair} c.collect.result c.collect.ensures.ran
    (YieldsList-from_rest es (entries_by_bytes c.args.entries.now c.iter.result c.iter.ensures.0))) in
    let moved = subst (λ es. IsPermutation es (map deref_pair ys)) all
    (IsPermutation-map deref_pair _ ys c.sort_unstable_by_key.ensures.permutation) in
    let up = sorted-map deref_pair (λ e f. is_lt (by_length e.0 f.0)) ys
    (c.sort_unstable_by_key.ensures.sorted (λ x. (length x.0.now, x.0))
    (always_returns_same _ (λ a r. r ≡ (length a.0.now.0.now, a.0.now.0)) _ (λ a r q k. search rules))) in
    record {
      sorted = short_first_is es (map deref_pair ys) (fin.entries_sorted c.args.entries.now) moved up;
      moved = moved;
    }
