use Rattle.std.proofs.Common.{rules, ◌≡◌, ◌∙◌, ◌-◌, ℕ, List, length, Bool, sym, ap, subst}
use Rattle.passkey_core.specs.DataFlags.{attested_flag, extensions_flag, has_flag}
use Rattle.passkey_core.specs.DataReading.{read_map, ReadsAttested, ReadsItem, ReadsWhere}
use Rattle.passkey_explain_data.specs.DataLength.{EndsAt}
use Rattle.passkey_explain_data.proofs.DataLength.{data_absent, data_ends}
use Rattle.passkey_explain_data.proofs.measuring.data_len.Goals as goal

pub returns-in-Err : goal.returns-in-Err
returns-in-Err c = λ d end r. absurd (data_absent d end c.args.bytes.now c.in-Err.field-0 (sym c.in-Err.ensures) r)

pub returns : goal.returns
returns c = λ d end r.
    let bytes = c.args.bytes.now in
    let flags = c.in-Ok.fixed.0.0 in
    let rest = c.in-Ok.fixed.1.now in
    let has_attested : c.contains-has_attested.result ≡ has_flag attested_flag flags = search rules in
    let has_extensions : c.contains-has_extensions.result ≡ has_flag extensions_flag flags = search rules in
    let following = c.after_attested_where-following.result.now in
    let attested = subst (λ (b : Bool). EndsAt (ReadsWhere b ReadsAttested rest) following) has_attested
    c.after_attested_where-following.ensures in
    let last = c.after_extensions_where-last.result.now in
    let extensions = subst (λ (b : Bool). EndsAt (ReadsWhere b (ReadsItem read_map) following) last) has_extensions
    c.after_extensions_where-last.ensures in
    c.offset_in.ensures ∙ ap (λ (l : List ℕ). length bytes - length l)
    (data_ends d end bytes flags rest following last (sym c.in-Ok.ensures) attested extensions r)
