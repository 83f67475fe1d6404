use Rattle.passkey_kinds.proofs.Steps.{refl, true, further_on, arith, suc, max, err_from_is_err_and, max_depth, split, stands_long, stands_back, failed, map_values-insert, key_spent, member_spent}
use Rattle.passkey_cbor.specs.Inside.{Within}
use Rattle.passkey_kinds.proofs.Counting.{kept_least, least_later, rises}
use Rattle.passkey_kinds.proofs.map.MapBytesCollect.add.Goals as goal

pub returns-in_err-key-clause-adds : goal.returns-in_err-key-clause-adds
returns-in_err-key-clause-adds g c = λ x to l.
    let p = err_from_is_err_and c.from_residual.result c.from_residual.ensures.1 in
    let s = split (Within max_depth x.0) (Within max_depth x.1) _ _ to l in
    let long = stands_long x.0 s.front in
    let key = c.in_err-key.ensures.reads x.0 s.middle s.front in
    let spent = key_spent (suc (max 3 g.T.FromCbor.typed.cost)) long s.back.forward (omega arith) key.spends in
    grind (arith, failed, p, spent, key.answers)

pub returns-in_err-read-clause-adds : goal.returns-in_err-read-clause-adds
returns-in_err-read-clause-adds g c = λ x to l.
    let p = err_from_is_err_and c.from_residual-in_err-read.result c.from_residual-in_err-read.ensures.1 in
    let s = split (Within max_depth x.0) (Within max_depth x.1) _ _ to l in
    let long = stands_long x.0 s.front in
    let key = c.in_ok-key.ensures.reads x.0 s.middle s.front in
    let value = c.in_err-read.ensures.reads x.1 to
    (stands_back x.1 c.read.new.cursor c.in_ok-key.ensures.onward.same key.ends s.back) in
    let spent = member_spent (suc (max 3 g.T.FromCbor.typed.cost)) long s.back.forward (omega arith) key.spends key.ends
    (omega arith) value.spends in
    grind (arith, failed, p, spent, key.answers, value.answers)

pub returns-in_err-insert-clause-adds : goal.returns-in_err-insert-clause-adds
returns-in_err-insert-clause-adds g c = λ x to l.
    let p = err_from_is_err_and c.from_residual-in_err-insert.result c.from_residual-in_err-insert.ensures.1 in
    let s = split (Within max_depth x.0) (Within max_depth x.1) _ _ to l in
    let long = stands_long x.0 s.front in
    let key = c.in_ok-key.ensures.reads x.0 s.middle s.front in
    let value = c.in_ok-read.ensures.reads x.1 to
    (stands_back x.1 c.read.new.cursor c.in_ok-key.ensures.onward.same key.ends s.back) in
    let spent = member_spent (suc (max 3 g.T.FromCbor.typed.cost)) long s.back.forward (omega arith) key.spends key.ends
    (omega arith) value.spends in
    grind (arith, p, spent)

pub returns-clause-adds : goal.returns-clause-adds
returns-clause-adds g c = λ x to l.
    let s = split (Within max_depth x.0) (Within max_depth x.1) _ _ to l in
    let long = stands_long x.0 s.front in
    let key = c.in_ok-key.ensures.reads x.0 s.middle s.front in
    let value = c.in_ok-read.ensures.reads x.1 to
    (stands_back x.1 c.read.new.cursor c.in_ok-key.ensures.onward.same key.ends s.back) in
    let spent = member_spent (suc (max 3 g.T.FromCbor.typed.cost)) long s.back.forward (omega arith) key.spends key.ends
    (omega arith) value.spends in
    let counted = c.in_ok-read.ensures.counts x.1 to
    (stands_back x.1 c.read.new.cursor c.in_ok-key.ensures.onward.same key.ends s.back) (refl {a = true}) in
    let counts = least_later _ (rises c.in_ok-key.ensures.onward)
    (kept_least g.T.FromCbor.typed.keeps x.1 _ _ c.in_ok-read.ensures.onward counted) in
    grind (arith, map_values-insert, spent, key.answers, value.answers, value.ends, c.in_ok-insert.ensures, counts)

pub returns-clause-further : goal.returns-clause-further
returns-clause-further g c = further_on c.in_ok-key.ensures.further c.in_ok-read.ensures.further
