use Rattle.std.proofs.Common.{◌≡◌, ◌∙◌, ◌++◌, ◌||◌, Bool, true, false, map, drop, ◌+◌, sym, ap}
use Rattle.passkey_cbor.specs.Names.{begins, begins_one}
use Rattle.passkey_cbor.proofs.strings.Naming.{none_left, one_there}
use Rattle.passkey_cbor.proofs.names.longer.Goals as goal

pub loop-name-preserved : goal.loop-name-preserved
loop-name-preserved c =
    let s = c.args.joined.now ++ c.args.piece.now in
    let other : begins s c.as_bytes.result.now ≡ false =
    sym c.begin_of-begin.ensures.begins ∙ sym c.is_some.ensures ∙ c.if-is_some.false in
    c.loop-name.invariant ∙ one_there s c.args.names.now c.loop-name.name-index c.as_bytes.result.now _
    c.loop-name-test.true c.as_bytes.ensures.value ∙ ap (λ (b : Bool). b
    || begins_one s (map (λ n. n.now) (drop (c.loop-name.name-index + 1) c.args.names.now))) other

pub returns-then-is_some-clause-begins : goal.returns-then-is_some-clause-begins
returns-then-is_some-clause-begins c =
    let s = c.args.joined.now ++ c.args.piece.now in
    let one : begins s c.as_bytes.result.now ≡ true =
    sym c.begin_of-begin.ensures.begins ∙ sym c.is_some.ensures ∙ c.if-is_some.true in
    c.begin_of-begin.ensures.begins ∙ one
    ∙ sym (c.loop-name.invariant ∙ one_there s c.args.names.now c.loop-name.name-index c.as_bytes.result.now _
    c.loop-name-test.true c.as_bytes.ensures.value ∙ ap (λ (b : Bool). b
    || begins_one s (map (λ n. n.now) (drop (c.loop-name.name-index + 1) c.args.names.now))) one)

pub returns-clause-begins : goal.returns-clause-begins
returns-clause-begins c = sym (c.loop-name.invariant ∙ none_left (c.args.joined.now ++ c.args.piece.now)
    c.args.names.now c.loop-name.name-index c.loop-name-test.false)
