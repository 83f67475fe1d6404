use Rattle.std.proofs.Common.{◌≡◌, true}
use Rattle.passkey_webauthn_json.proofs.client_data.unknown_members.copy_unknown.Given as goal
use Rattle.passkey_webauthn_json.specs.client_data.ExtraData.{is_unknown}
use Rattle.passkey_webauthn_json.specs.client_data.MemberLists.{any_member, joined, members_where}
use Rattle.serde_json.specs.View.{members_view}

abbrev pub invariant-loop-name : goal.invariant-loop-name
invariant-loop-name g l =
    let left = members_where (is_unknown g.E.ClientDataExtra.has) (members_view l.name-iterator) in
    let all = members_where (is_unknown g.E.ClientDataExtra.has) (members_view l.members.entries) in
    record {
      same : joined (members_view l.copies.entries) left ≡ all;
      any : any_member left ≡ true → any_member all ≡ true;
    }
