use Rattle.passkey_cbor.specs.Item.{text_string}
use Rattle.passkey_cbor.specs.Same.{item_eq}
use Rattle.passkey_cbor.specs.View.{item_of, pair_of}
use Rattle.passkey_cbor.specs.declared.value.Value.{Value}
use Rattle.passkey_repair.proofs.Places.{keeps, leaves}
use Rattle.passkey_repair.proofs.messages.change.remove_member.Goals as goal
use Rattle.passkey_repair.specs.messages.Edit.{place_of}
use Rattle.passkey_repair.specs.messages.Views.{literal_item}
use Rattle.std.proofs.Common.{List, Some, ap, length, map, subst, sym, ◌<◌, ◌∙◌, ◌≡◌}

pub returns-then-not-is_this : goal.returns-then-not-is_this
returns-then-not-is_this c =
    let ps = c.args.pairs.now.items in
    let n = c.in-Some.index in
    let within = subst (λ (xs : List (Value × Value)). n < length xs) c.deref.ensures.value c.in-Some.ensures.within in
    let found = subst (λ (xs : List (Value × Value)). Some n ≡ place_of (text_string c.args.name.now) (map pair_of xs))
    c.deref.ensures.value c.in-Some.ensures.place in
    keeps c.args.name.now (literal_item c.args.literal) ps n c.index.result.now within c.index.ensures found
    (ap (item_eq (item_of c.index.result.now.1)) (sym c.to_value.ensures) ∙ sym c.eq-is_this.ensures.value
    ∙ c.if-not-is_this.true)

pub returns : goal.returns
returns c =
    let ps = c.args.pairs.now.items in
    let n = c.in-Some.index in
    let within = subst (λ (xs : List (Value × Value)). n < length xs) c.deref.ensures.value c.in-Some.ensures.within in
    let found = subst (λ (xs : List (Value × Value)). Some n ≡ place_of (text_string c.args.name.now) (map pair_of xs))
    c.deref.ensures.value c.in-Some.ensures.place in
    leaves c.args.name.now (literal_item c.args.literal) ps n c.index.result.now within c.index.ensures found
    (ap (item_eq (item_of c.index.result.now.1)) (sym c.to_value.ensures) ∙ sym c.eq-is_this.ensures.value
    ∙ c.if-not-is_this.false)
    c.remove.new.self.items c.remove.ensures.items
