use Rattle.std.proofs.Common.{◌≡◌, ◌∙◌, ◌+◌, ◌*◌, ℕ, true, sym, ap}
use Rattle.std.proofs.lemmas.Bool.{ne_eqb}
use Rattle.std.specs.Char.{is_ascii_digit}
use Rattle.passkey_webauthn.specs.declared.number_state.Digits.{Digits}
use Rattle.passkey_webauthn.proofs.NumberStates.{whole_digit, whole_large, whole_other}
use Rattle.passkey_webauthn.proofs.number_state.Digits.push_whole.Goals as goal
use Rattle.passkey_webauthn.proofs.number_state.Digits.push_whole.Goals.{then-not-is_ascii_digit-via-then-not-is_ascii_digit, then-not-is_ascii_digit-via-else-not-is_ascii_digit+then-self-gt-MOST}

pub returns-then-not-is_ascii_digit : goal.returns-then-not-is_ascii_digit
returns-then-not-is_ascii_digit c more =
    elim c.then-not-is_ascii_digit.branch [
      | then-not-is_ascii_digit-via-then-not-is_ascii_digit w ↦ whole_other c.args.self c.args.byte more (ne_eqb
          c.args.byte 46 c.if-byte-eq46.false) (sym c.is_ascii_digit.ensures.value ∙ w.if-not-is_ascii_digit.true)
      | then-not-is_ascii_digit-via-else-not-is_ascii_digit+then-self-gt-MOST w ↦ whole_large c.args.self
          c.args.byte more (sym c.is_ascii_digit.ensures.value ∙ w.if-not-is_ascii_digit.false)
          w.if-self-gt-MOST.true
    ]

pub returns : goal.returns
returns c more =
    let digit : is_ascii_digit c.args.byte ≡ true =
    sym c.is_ascii_digit.ensures.value ∙ c.if-not-is_ascii_digit.false in
    let d = c.args.self in
    whole_digit d (record { is_negative = d.is_negative; whole = d.whole * 10 + c.from.result; has_digit = true })
    c.args.byte more digit (ap (λ (v : ℕ). let e : Digits =
    record { is_negative = d.is_negative; whole = d.whole * 10 + v; has_digit = true } in e) c.from.ensures)
