use Rattle.std.proofs.Common.{◌≡◌, ◌∙◌, ℕ, ◌≤◌, List, ◌++◌, Some, length, drop, option_map, ap, subst, arith}
use Rattle.std.proofs.lemmas.Grind.{common_steps}
use Rattle.passkey_json.specs.Kind.{each}
use Rattle.passkey_well_known.proofs.url_list.read_urls.Goals as goal
use Rattle.passkey_well_known.specs.UrlKind.{url}
use Rattle.serde_json.proofs.Views.{view-Array}
use Rattle.serde_json.specs.Data.{array}
use Rattle.serde_json.specs.View.{view, items_view}
use Rattle.serde_json.specs.declared.value.Value.{Value}
use Rattle.url.specs.Parts.{Parts}

all_read : (vs : List Value) (us : List Parts) (i : ℕ) → length vs ≤ i → option_map (λ ws. us ++ ws)
    (each url (items_view (drop i vs))) ≡ each url (items_view vs) → each url (items_view vs) ≡ Some us
all_read vs us i past read = grind (arith, common_steps)

pub loop-text-preserved : goal.loop-text-preserved
loop-text-preserved g c =
    let read = c.loop-text.invariant.read in
    let no_room = c.loop-text.invariant.no_room in
    let any = c.loop-text.invariant.any in
    record {
      read = grind (arith, common_steps, read);
      no_room = grind (arith, common_steps, no_room);
      any = grind (arith, common_steps, any);
    }

pub returns : goal.returns
returns g c =
    let seen : view c.args.value.now ≡ array (items_view c.in-Array.texts.items) =
    ap view c.in-Array.is ∙ view-Array c.in-Array.texts in
    let all = all_read c.deref-text-items.result.now c.loop-text.urls.items c.loop-text.text-index (omega arith)
    c.loop-text.invariant.read in
    rw seen (subst (λ (vs : List Value). each url (items_view vs) ≡ Some c.loop-text.urls.items)
    c.deref-text-items.ensures.value all)
