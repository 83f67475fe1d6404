use Rattle.std.proofs.Common.{rules, ◌≡◌, ◌∙◌, [], ◌∷◌, ◌+◌, ◌<◌, ◌≤◌, ◌++◌, suc, true, false, List, length, get_or, map, take, drop, ap, sym}
use Rattle.std.proofs.lemmas.List.{map-append}
use Rattle.passkey_memory.proofs.Failing.{on_err}
use Rattle.passkey_cbor.specs.Item.{Item}
use Rattle.passkey_cbor.specs.View.{item_of, pair_of}
use Rattle.passkey_cbor.specs.declared.value.Value.{Value}
use Rattle.passkey_cose.specs.KeyLabels.{is_common}
use Rattle.passkey_cose.specs.KeyParams.{param_of, params_of}
use Rattle.passkey_cose.specs.KeyReading.{further}
use Rattle.passkey_cose.specs.Pairs.{values_in}
use Rattle.passkey_cose.proofs.TakenPairs.{before_end, same_after, first_of, good_more, same_left, member_at, common_at, pass_common, same_at, take_further, one_left, none_left, next_name}
use Rattle.passkey_cose.proofs.reading.read_params.Goals as goal
use Rattle.passkey_cose.proofs.reading.read_params.Goals.{then-not-is_common_label_of+in_ok-label+in_ok-push, else-not-is_common_label_of}

pub take-requires : goal.take-requires
take-requires c =
    let within : c.loop-i.i < length (values_in c.args.pairs) =
    before_end _ c.loop-i.i _ c.loop-i-test.true c.loop-i.invariant.within in
    rw c.loop-i.invariant.as_many within

pub bounds-as_slice-i : goal.bounds-as_slice-i
bounds-as_slice-i c =
    let within : c.loop-i.i < length (values_in c.args.pairs) =
    before_end _ c.loop-i.i _ c.loop-i-test.true c.loop-i.invariant.within in
    rw (c.as_slice.ensures, c.loop-i.invariant.as_many) within

pub label_from-requires : goal.label_from-requires
label_from-requires c =
    let all = values_in c.args.pairs in
    let m = pair_of (c.in_ok-label.label, c.in_ok-label.value) in
    let at : map pair_of (drop c.loop-i.i all) ≡ m ∷ map pair_of (drop (suc c.loop-i.i) (values_in c.loop-i.pairs)) =
    rw c.loop-i.invariant.left at c.in_ok-label.ensures.pair in
    next_name (map pair_of (take c.loop-i.i all)) _ _ m c.loop-i.invariant.good at

pub returns-in_err-label-clause-grows : goal.returns-in_err-label-clause-grows
returns-in_err-label-clause-grows c =
    on_err c.from_residual.result (one_left (params_of c.loop-i.params.items) _ _ _ _ c.loop-i.i _
    c.index-as_slice-i.result _ c.loop-i-test.true c.loop-i.invariant.within c.as_slice.ensures
    c.index-as_slice-i.is c.loop-i.invariant.left c.is_common_label_of.ensures c.if-not-is_common_label_of.true
    c.loop-i.invariant.done)

pub returns-in_err-push-clause-grows : goal.returns-in_err-push-clause-grows
returns-in_err-push-clause-grows c =
    on_err c.from_residual-in_err-push.result (one_left (params_of c.loop-i.params.items) _ _ _ _ c.loop-i.i _
    c.index-as_slice-i.result _ c.loop-i-test.true c.loop-i.invariant.within c.as_slice.ensures
    c.index-as_slice-i.is c.loop-i.invariant.left c.is_common_label_of.ensures c.if-not-is_common_label_of.true
    c.loop-i.invariant.done)

pub returns-clause-same : goal.returns-clause-same
returns-clause-same c =
    let past : length (values_in c.args.pairs) ≤ c.loop-i.i = search (rules, c.loop-i-test.false) in
    none_left (params_of c.loop-i.params.items) _ (values_in c.args.pairs) c.loop-i.i past c.loop-i.invariant.done

pub loop-i-preserved : goal.loop-i-preserved
loop-i-preserved c =
    let all = values_in c.args.pairs in
    let now = values_in c.loop-i.pairs in
    let i = c.loop-i.i in
    let m = c.index-as_slice-i.result in
    let ms = map pair_of (drop i all) in
    let ns = map pair_of (drop (i + 1) all) in
    let ps = params_of c.loop-i.params.items in
    let within : i < length all = before_end all i _ c.loop-i-test.true c.loop-i.invariant.within in
    let is_now : m ≡ get_or now i m = rw c.as_slice.ensures at c.index-as_slice-i.is in
    let is : m ≡ get_or all i m = same_at now all i m is_now c.loop-i.invariant.left in
    let at : ms ≡ pair_of m ∷ ns = member_at all i m within is in
    let good = good_more all i m within is c.loop-i.invariant.good in
    elim c.if-not-is_common_label_of.branch [
      | then-not-is_common_label_of+in_ok-label+in_ok-push w ↦
          let other : is_common (item_of m.0) ≡ false =
          common_at _ i m _ false c.index-as_slice-i.is c.is_common_label_of.ensures
          w.if-not-is_common_label_of.true in
          let same : pair_of (w.in_ok-label.label, w.in_ok-label.value) ≡ pair_of m =
          first_of (pair_of (w.in_ok-label.label, w.in_ok-label.value)) (pair_of m)
          (map pair_of (drop (suc i) now)) ns
          (sym w.in_ok-label.ensures.pair
          ∙ ap (λ (os : List (Value × Value)). map pair_of os) c.loop-i.invariant.left ∙ at) in
          let one : param_of (w.label_from.result, w.in_ok-label.value) ≡ pair_of m =
          ap (λ (k : Item). (let n : Item × Item = (k, item_of w.in_ok-label.value) in n)) w.label_from.ensures
          ∙ same in
          let pushed : params_of c.if-not-is_common_label_of.params.items ≡ ps ++ pair_of m ∷ [] =
          rw w.params-is (ap params_of w.in_ok-push.ensures.items
          ∙ map-append param_of c.loop-i.params.items ((w.label_from.result, w.in_ok-label.value) ∷ [])
          ∙ ap (λ (n : Item × Item). ps ++ n ∷ []) one) in
          record {
            done = rw pushed (take_further ps ms ns (further (map pair_of all)) (pair_of m) other at
                c.loop-i.invariant.done);
            good = good;
            as_many = rw w.pairs-is (w.in_ok-label.ensures.as_many ∙ c.loop-i.invariant.as_many);
            within = c.loop-i.invariant.within;
            left = rw w.pairs-is (same_after (values_in w.take.new.self) now all i w.in_ok-label.ensures.others
                c.loop-i.invariant.left);
          }
      | else-not-is_common_label_of w ↦
          let common : is_common (item_of m.0) ≡ true =
          common_at _ i m _ true c.index-as_slice-i.is c.is_common_label_of.ensures
          w.if-not-is_common_label_of.false in
          record {
            done = rw w.params-is (pass_common ps ms ns (further (map pair_of all)) (pair_of m) common at
                c.loop-i.invariant.done);
            good = good;
            as_many = rw w.pairs-is c.loop-i.invariant.as_many;
            within = c.loop-i.invariant.within;
            left = rw w.pairs-is (same_left now all i c.loop-i.invariant.left);
          }
    ]
