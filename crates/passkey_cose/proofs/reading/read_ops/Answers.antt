use Rattle.std.specs.List.{filter_map, cons_option}
use Rattle.std.proofs.Common.{◌≡◌, ◌∙◌, ℕ, suc, ◌+◌, ◌<◌, List, [], ◌∷◌, ◌++◌, length, get_or, map, drop, Option, option_map, ap, sym, drop-cons}
use Rattle.std.proofs.Math.Numerals.{add-one}
use Rattle.std.proofs.lemmas.List.{append_assoc, map-append}
use Rattle.passkey_cbor.specs.View.{item_of}
use Rattle.passkey_cbor.specs.declared.value.Value.{Value}
use Rattle.passkey_iana.specs.Iana.{key_operation_named}
use Rattle.passkey_iana.specs.declared.key_operation.KeyOperation.{KeyOperation}
use Rattle.passkey_cose.specs.KeyReading.{name_in}
use Rattle.passkey_cose.specs.Registered.{Named, named_of}
use Rattle.passkey_cose.specs.declared.registered.Registered.{Registered}
use Rattle.passkey_cose.proofs.reading.read_ops.Goals as goal
use Rattle.passkey_cose.proofs.reading.read_ops.Goals.{in-Some+in_ok-push, in_default}

abbrev names_in : List Value → List (Named KeyOperation)
names_in ops = filter_map (name_in key_operation_named) (map item_of ops)

-- what the operation at an index adds to those after it
names_from : (ops : List Value) (i : ℕ) (op : Value) (o : Option (Registered KeyOperation)) → i < length ops
    → op ≡ get_or ops i op → option_map named_of o ≡ name_in key_operation_named (item_of op)
    → names_in (drop i ops) ≡ cons_option (option_map named_of o) (names_in (drop (i + 1) ops))
names_from ops i op o within is same =
    rw (add-one i) (ap names_in (drop-cons ops i op within)
    ∙ ap (λ (v : Value). cons_option (name_in key_operation_named (item_of v)) (names_in (drop (suc i) ops)))
    (sym is)
    ∙ ap (λ k. cons_option k (names_in (drop (suc i) ops))) (sym same))

taken : (names : List (Registered KeyOperation)) (n : Registered KeyOperation)
    (ms rest all : List (Named KeyOperation)) → ms ≡ named_of n ∷ rest → map named_of names ++ ms ≡ all
    → map named_of (names ++ n ∷ []) ++ rest ≡ all
taken names n ms rest all at done =
    rw map-append (append_assoc (map named_of names) (named_of n ∷ []) rest
    ∙ ap (λ ns. map named_of names ++ ns) (sym at) ∙ done)

pub loop-op-preserved : goal.loop-op-preserved
loop-op-preserved c =
    let ops = c.args.ops.now in
    let i = c.loop-op.op-index in
    let name = c.in_ok-name.field-0 in
    let at : names_in (drop i ops) ≡ cons_option (option_map named_of name) (names_in (drop (i + 1) ops)) =
    names_from ops i c.op-item.result name c.loop-op-test.true c.op-item.is c.in_ok-name.ensures.same in
    elim c.match-branch-3.branch [
      | in-Some+in_ok-push w ↦
          rw (w.names-is, w.in_ok-push.ensures.items) (taken c.loop-op.names.items w.in-Some.name _ _ _
          (rw w.in-Some.is at at) c.loop-op.invariant)
      | in_default w ↦
          let none : names_in (drop i ops) ≡ names_in (drop (i + 1) ops) = rw w.in_default.is at at in
          rw w.names-is (rw none at c.loop-op.invariant)
    ]
