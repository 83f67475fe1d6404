use Rattle.std.proofs.Common.{rules, ◌≡◌, ◌&&◌, false, true, is_ok, drop, sym, ap, ◌∙◌}
use Rattle.base64.specs.GeneralPurpose.{decode_of}
use Rattle.passkey_bytes.specs.Encoding.{window}
use Rattle.passkey_bytes.proofs.Decodable.{group_by_group}
use Rattle.passkey_bytes.proofs.encoding.is_decodable.Goals as goal

pub returns-then-not-is_group : goal.returns-then-not-is_group
returns-then-not-is_group c =
    let engine = c.args.engine.now in
    let rest = c.loop-rest.rest.now in
    let bad : is_ok (decode_of engine (window rest)) ≡ false = search rules in
    let whole = group_by_group engine rest c.requires c.loop-rest-test.true in
    sym (sym c.loop-rest.invariant ∙ whole ∙ ap (λ b. b && is_ok (decode_of engine (drop 4 rest))) bad)

pub loop-rest-preserved : goal.loop-rest-preserved
loop-rest-preserved c =
    let engine = c.args.engine.now in
    let rest = c.loop-rest.rest.now in
    let good : is_ok (decode_of engine (window rest)) ≡ true = search rules in
    let whole = group_by_group engine rest c.requires c.loop-rest-test.true in
    let further : is_ok (decode_of engine (drop 4 rest)) ≡ is_ok (decode_of engine c.args.symbols.now) =
    sym (ap (λ b. b && is_ok (decode_of engine (drop 4 rest))) good) ∙ sym whole ∙ c.loop-rest.invariant in
    search rules
