use Rattle.std.proofs.Common.{◌≡◌, ◌∙◌, true, string_bytes, refl, sym}
use Rattle.passkey_webauthn_json.proofs.Copied.{copied_next, joined_none, on_any_error}
use Rattle.passkey_webauthn_json.proofs.client_data.unknown_members.copy_unknown.Goals as goal
use Rattle.passkey_webauthn_json.specs.client_data.ExtraData.{is_unknown}
use Rattle.passkey_webauthn_json.specs.client_data.MemberLists.{any_member, members_where}
use Rattle.serde_json.specs.View.{members_view, view}

pub loop-name-preserved-in-Continue-1 : goal.loop-name-preserved-in-Continue-1
loop-name-preserved-in-Continue-1 g c =
    let test = is_unknown g.E.ClientDataExtra.has in
    let rest = members_where test (members_view c.next.new.self) in
    let unknown = rw c.as_str.ensures.value at (sym c.is_unknown.ensures ∙ c.if-is_unknown.true) in
    let one : any_member (members_where test (members_view c.loop-name.name-iterator)) ≡ true =
    rw (c.in-Some.ensures.steps, unknown) refl in
    let same = rw (c.in-Some.ensures.steps, unknown) at c.loop-name.invariant.same in
    let put = rw c.as_str-then-is_unknown.ensures.value at c.in_ok-put_copy.ensures in
    record {
      same = rw put (copied_next test c.args.members.now.entries c.iter-name-items.ensures.ordered
          (members_view c.loop-name.copies.entries) (string_bytes c.in-Some.name.now) (view c.in-Some.value.now) rest same);
      any = λ left. c.loop-name.invariant.any one;
    }

pub returns-clause-same : goal.returns-clause-same
returns-clause-same g c =
    let all = rw c.in-None.ensures.steps.0 at c.loop-name.invariant.same in
    sym (joined_none (members_view c.loop-name.copies.entries)) ∙ all

pub returns-in_err-put_copy-clause-grows : goal.returns-in_err-put_copy-clause-grows
returns-in_err-put_copy-clause-grows g c =
    let left = members_where (is_unknown g.E.ClientDataExtra.has) (members_view c.loop-name.name-iterator) in
    let unknown = rw c.as_str.ensures.value at (sym c.is_unknown.ensures ∙ c.if-is_unknown.true) in
    let one : any_member left ≡ true = rw (c.in-Some.ensures.steps, unknown) refl in
    on_any_error c.from_residual.result (c.loop-name.invariant.any one)
