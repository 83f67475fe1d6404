-- The bytes from where they aren't as is asked are the end of all bytes.
use Rattle.std.proofs.Common.{◌≡◌, ◌∙◌, ℕ, Bool, true, false, List, ◌++◌, ◌-◌, ◌≤◌, length, drop, sym, ap, subst, arith}
use Rattle.std.proofs.lemmas.List.{length-append, drop_at}
use Rattle.passkey_cbor.specs.Written.{written}
use Rattle.passkey_malformed.specs.Demands.{IsUnmet, LeadsAs, StraysAs, Unmet, in_item, levels_in, trailing}
use Rattle.passkey_malformed.specs.declared.demands.Demands.{Demands}
use Rattle.passkey_malformed.specs.declared.rule.Rule.{Rule}
use Rattle.passkey_malformed.proofs.BrokenThere.{item_ends}
use Rattle.passkey_malformed.proofs.Suffixes.{EndsIn, ends_in}

module _ (levels : ℕ) (bytes rest : List ℕ) where
  led_ends : (canonical : Bool) → LeadsAs canonical levels bytes rest → EndsIn bytes rest
  led_ends true l = (written l.item, l.parts)
  led_ends false l = (l.1.text, l.1.parts)

  strays_end : (canonical : Bool) (r : Rule) → StraysAs canonical levels bytes r rest → EndsIn bytes rest
  strays_end true r s = item_ends s
  strays_end false r s = ends_in s.1.1

ends : {d : Demands} {bytes : List ℕ} {r : Rule} {rest : List ℕ} → Unmet d bytes r rest → EndsIn bytes rest
ends {d = d} {bytes = bytes} {r = r} {rest = rest} (in_item s) = strays_end (levels_in d) bytes rest d.canonical r s
ends {d = d} {bytes = bytes} {rest = rest} (trailing whole l some is) = led_ends (levels_in d) bytes rest d.canonical l

pub unmet_short : {d : Demands} {bytes : List ℕ} {r : Rule} {rest : List ℕ} → Unmet d bytes r rest
    → length rest ≤ length bytes
unmet_short {rest = rest} u = let e = ends u in omega (arith, ap length e.1, length-append e.0 rest)

pub is_unmet : {d : Demands} (bytes : List ℕ) (r : Rule) (rest : List ℕ) → Unmet d bytes r rest
    → IsUnmet d bytes (record { offset = length bytes - length rest; rule = r })
is_unmet {d} bytes r rest u =
    let e = ends u in
    let count : length e.0 ≡ length bytes - length rest = omega (arith, ap length e.1, length-append e.0 rest) in
    record {
      within = omega arith;
      breaks = subst (Unmet d bytes r)
          (sym (ap (drop (length bytes - length rest)) e.1 ∙ drop_at e.0 rest (length bytes - length rest) count)) u;
    }
