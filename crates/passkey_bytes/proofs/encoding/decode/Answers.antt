use Rattle.std.specs.Option.{IsSomeAnd}
use Rattle.std.specs.Result.{result_ok}
use Rattle.std.proofs.Common.{rules, ◌≡◌, ◌<◌, [], List, ℕ, true, false, is_ok, length, Some, None, Result, Ok, Err, refl, sym, ap, ◌∙◌}
use Rattle.std.proofs.lemmas.Bool.{true≢false}
use Rattle.base64.specs.GeneralPurpose.{decode_of, decoded_of}
use Rattle.base64.specs.declared.engine.general_purpose.GeneralPurpose.{GeneralPurpose}
use Rattle.base64.proofs.Streams.{decoded_of-nil}
use Rattle.passkey_memory.proofs.Emptiness.{empty_list, filled_list}
use Rattle.passkey_bytes.proofs.Decodable.{some_bytes}
use Rattle.passkey_bytes.proofs.encoding.decode.Goals as goal

nothing_decoded : (e : GeneralPurpose) → result_ok (decode_of e []) ≡ Some []
unfolding decoded_of
nothing_decoded e = decoded_of-nil e

none_decoded : {T E : Type 0} (r : Result T E) → is_ok r ≡ false → None ≡ result_ok r
none_decoded (Ok x) bad = absurd (true≢false bad)
none_decoded (Err e) bad = refl

some_decoded : (e : GeneralPurpose) (s : List ℕ) (r : Result (List ℕ) _) → 0 < length s → decode_of e s ≡ r
    → is_ok r ≡ true → IsSomeAnd (result_ok r) (λ bytes. 0 < length bytes)
some_decoded e s (Ok b) some is good = some_bytes e s b some is
some_decoded e s (Err x) some is good = absurd (true≢false (sym good))

pub returns-then-is_empty-clause-same : goal.returns-then-is_empty-clause-same
returns-then-is_empty-clause-same c =
    let empty : c.args.symbols.now ≡ [] =
    empty_list c.args.symbols.now c.is_empty.result c.is_empty.ensures c.if-is_empty.true in
    ap Some c.new.ensures.items
    ∙ sym (ap (λ s. result_ok (decode_of c.args.engine.now s)) empty ∙ nothing_decoded c.args.engine.now)

pub returns-then-not-is_decodable-clause-same : goal.returns-then-not-is_decodable-clause-same
returns-then-not-is_decodable-clause-same c =
    let bad : is_ok (decode_of c.args.engine.now c.args.symbols.now) ≡ false = search rules in
    none_decoded (decode_of c.args.engine.now c.args.symbols.now) bad

pub returns-else-not-is_decodable-clause-grows : goal.returns-else-not-is_decodable-clause-grows
returns-else-not-is_decodable-clause-grows c =
    let good : is_ok (decode_of c.args.engine.now c.args.symbols.now) ≡ true = search rules in
    let some : 0 < length c.args.symbols.now =
    filled_list c.args.symbols.now c.is_empty.result c.is_empty.ensures c.if-is_empty.false in
    some_decoded c.args.engine.now c.args.symbols.now (decode_of c.args.engine.now c.args.symbols.now) some refl
    good
