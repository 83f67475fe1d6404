use Rattle.std.proofs.Common.{sym, ◌∙◌, arith}
use Rattle.passkey_cbor.proofs.items.Binds.{none_is_some}
use Rattle.passkey_cbor.proofs.heads.Shortest.{head_left, begins_once, not_shortest}
use Rattle.passkey_cbor.proofs.head.Head.decode_shortest.Goals as goal

pub overflow_sub-bytes : goal.overflow_sub-bytes
overflow_sub-bytes c =
    let l = head_left c.args.bytes.now c.in-Some.head c.in-Some.rest.now (λ i. omega (arith, c.type_inv.bytes i))
    (sym c.in-Some.ensures) in
    l.shorter

pub returns-then-bytes-rest : goal.returns-then-bytes-rest
returns-then-bytes-rest c =
    not_shortest c.args.bytes.now c.in-Some.head c.in-Some.rest.now (sym c.in-Some.ensures)
    (λ q. c.if-bytes-rest.true (q ∙ sym c.shortest_len.ensures))

pub returns-in-None : goal.returns-in-None
returns-in-None c = λ h rest b. none_is_some (h, rest) (c.in-None.ensures ∙ begins_once c.args.bytes.now h rest b)

pub returns-else-bytes-rest : goal.returns-else-bytes-rest
returns-else-bytes-rest c =
    let l = head_left c.args.bytes.now c.in-Some.head c.in-Some.rest.now (λ i. omega (arith, c.type_inv.bytes i))
    (sym c.in-Some.ensures) in
    l.begins (c.if-bytes-rest.false ∙ c.shortest_len.ensures)
