use Rattle.std.proofs.Common.{rules, ◌≡◌, Bool, Ok, sym, subst}
use Rattle.passkey_core.specs.DataFlags.{attested_flag, extensions_flag, has_flag}
use Rattle.passkey_core.specs.DataReading.{read_map, ReadsAttested, ReadsItem, ReadsWhere}
use Rattle.passkey_explain_data.specs.DataBlame.{fixed_in, BlamesAttested, BlamesData, BlamesExtensions, BlamesWhere, ReadsTo}
use Rattle.passkey_explain_data.proofs.DataPassing.{attested_blamed, data_read, extensions_blamed, none_left, some_left, stops_more, trailing_blamed}
use Rattle.passkey_explain_data.proofs.data.pass_all.Goals as goal

pub returns-in-Err-pass_attested_where : goal.returns-in-Err-pass_attested_where
returns-in-Err-pass_attested_where c =
    let bytes = c.args.bytes.now in
    let flags = c.in-Ok.fixed.0.0 in
    let rest = c.in-Ok.fixed.1.now in
    let passed : fixed_in bytes ≡ Ok (flags, rest) = sym c.in-Ok.ensures in
    let has_attested : c.contains-has_attested.result ≡ has_flag attested_flag flags = search rules in
    stops_more (BlamesWhere c.contains-has_attested.result (BlamesAttested bytes rest)) (BlamesData bytes)
    c.in-Err-pass_attested_where.stop
    (λ r b. attested_blamed bytes flags rest passed r
    (subst (λ (f : Bool). BlamesWhere f (BlamesAttested bytes rest) r) has_attested b))
    c.in-Err-pass_attested_where.ensures

pub returns-in-Err-pass_extensions_where : goal.returns-in-Err-pass_extensions_where
returns-in-Err-pass_extensions_where c =
    let bytes = c.args.bytes.now in
    let flags = c.in-Ok.fixed.0.0 in
    let rest = c.in-Ok.fixed.1.now in
    let passed : fixed_in bytes ≡ Ok (flags, rest) = sym c.in-Ok.ensures in
    let has_attested : c.contains-has_attested.result ≡ has_flag attested_flag flags = search rules in
    let has_extensions : c.contains-has_extensions.result ≡ has_flag extensions_flag flags = search rules in
    let following = c.in-Ok-pass_attested_where.following.now in
    let attested = subst (λ (b : Bool). ReadsTo (ReadsWhere b ReadsAttested rest) following) has_attested
    c.in-Ok-pass_attested_where.ensures in
    stops_more (BlamesWhere c.contains-has_extensions.result (BlamesExtensions bytes following)) (BlamesData bytes)
    c.in-Err-pass_extensions_where.stop
    (λ r b. extensions_blamed bytes flags rest passed following attested r
    (subst (λ (f : Bool). BlamesWhere f (BlamesExtensions bytes following) r) has_extensions b))
    c.in-Err-pass_extensions_where.ensures

pub returns-then-is_empty : goal.returns-then-is_empty
returns-then-is_empty c =
    let bytes = c.args.bytes.now in
    let flags = c.in-Ok.fixed.0.0 in
    let rest = c.in-Ok.fixed.1.now in
    let passed : fixed_in bytes ≡ Ok (flags, rest) = sym c.in-Ok.ensures in
    let has_attested : c.contains-has_attested.result ≡ has_flag attested_flag flags = search rules in
    let has_extensions : c.contains-has_extensions.result ≡ has_flag extensions_flag flags = search rules in
    let following = c.in-Ok-pass_attested_where.following.now in
    let attested = subst (λ (b : Bool). ReadsTo (ReadsWhere b ReadsAttested rest) following) has_attested
    c.in-Ok-pass_attested_where.ensures in
    let last = c.in-Ok-pass_extensions_where.last.now in
    let extensions = subst (λ (b : Bool). ReadsTo (ReadsWhere b (ReadsItem read_map) following) last) has_extensions
    c.in-Ok-pass_extensions_where.ensures in
    data_read bytes flags rest passed following attested last extensions (none_left last (sym c.if-is_empty.ensures))

pub returns-else-is_empty : goal.returns-else-is_empty
returns-else-is_empty c =
    let bytes = c.args.bytes.now in
    let flags = c.in-Ok.fixed.0.0 in
    let rest = c.in-Ok.fixed.1.now in
    let passed : fixed_in bytes ≡ Ok (flags, rest) = sym c.in-Ok.ensures in
    let has_attested : c.contains-has_attested.result ≡ has_flag attested_flag flags = search rules in
    let has_extensions : c.contains-has_extensions.result ≡ has_flag extensions_flag flags = search rules in
    let following = c.in-Ok-pass_attested_where.following.now in
    let attested = subst (λ (b : Bool). ReadsTo (ReadsWhere b ReadsAttested rest) following) has_attested
    c.in-Ok-pass_attested_where.ensures in
    let last = c.in-Ok-pass_extensions_where.last.now in
    let extensions = subst (λ (b : Bool). ReadsTo (ReadsWhere b (ReadsItem read_map) following) last) has_extensions
    c.in-Ok-pass_extensions_where.ensures in
    trailing_blamed bytes flags rest passed following attested last extensions c.bytes_follow.result
    (some_left last (sym c.if-is_empty.ensures), c.bytes_follow.ensures)
