use Rattle.std.proofs.Common.{◌≡◌, ◌∙◌, ℕ, suc, ◌+◌, ◌++◌, ◌∷◌, [], List, map, option_map, Option, Some, refl, sym, ap, subst, arith, rules}
use Rattle.std.specs.Prelude.{IfSome}
use Rattle.passkey_cbor.specs.CursorState.{CursorState}
use Rattle.passkey_cbor.specs.EncodedAt.{IsEncodedAt}
use Rattle.passkey_cbor.specs.Item as item
use Rattle.passkey_cbor.specs.declared.value.Value.{Value}
use Rattle.passkey_kinds.proofs.Common.{array, entry_of, items_of, item_of-Array, item_of-Map}
use Rattle.passkey_kinds.proofs.Steps.{item_of, pair_of, pairs_of, mapped_at}
use Rattle.passkey_kinds.specs.Look.{tested, HasForm}
use Rattle.passkey_kinds.specs.Shape.{Tested, reached}
use Rattle.passkey_kinds.specs.declared.look.Form.{Form}
use Rattle.passkey_explain.proofs.Blames.{look_there, one_more_step}
use Rattle.passkey_explain.proofs.Describing.{no_array, not_a_map}
use Rattle.passkey_explain.proofs.LeavesOut.{if_added, value_leaves, steps_lead, adds_nothing, adds_as, goes_on, elements_left, pairs_left, array_leaves, no_array_leaves, map_leaves, no_map_leaves, array_parts, map_parts, left_out_whole, leaf_leaves, list_kept, map_kept, record_kept, head_opens, next_there, next_passed, next_stands, passed_there, pair_stands, lies_at, element_next, key_next, value_next}
use Rattle.passkey_explain.specs.Along.{PassedItems, parts_of, part_index}
use Rattle.passkey_explain.specs.Blame.{Step, step_of, element}
use Rattle.passkey_explain.specs.Dropped.{Leaving, dropped, entry_step, member_step}
use Rattle.passkey_explain.specs.Drops.{Leaves, LeavesBy, Stands, numbered_step, steps_by}
use Rattle.passkey_explain.specs.declared.blame.Step.TheVariants as code
use Rattle.passkey_explain.proofs.dropping.+dropped.Goals as goal

-- ---- a data item

pub put_dropped-returns-then-not-look-clause-lists : goal.put_dropped-returns-then-not-look-clause-lists
put_dropped-returns-then-not-look-clause-lists g t c = λ u at.
    let i = item_of c.args.value.now in
    let root = tested g.M.FromCbor.typed in
    let way = c.args.way.now in
    let l = look_there way root u i c.look.result c.in_ok-look.look at c.look.ensures c.in_ok-look.was in
    if_added _ (dropped u.shape (map step_of c.args.path.now) i) c.put_one.result _ _
    (left_out_whole u.shape (map step_of c.args.path.now) i (sym l.kept ∙ c.if-not-look.true)) (c.put_one.ensures.lists u at)

pub put_dropped-put_list-requires : goal.put_dropped-put_list-requires
put_dropped-put_list-requires g t c κs within = let i = item_of c.args.value.now in
    let root = tested g.M.FromCbor.typed in
    let way = c.args.way.now in
    let r = c.requires in
    let l = look_there way root r.0 i c.look.result c.in_ok-look.look r.1 c.look.ensures c.in_ok-look.was in
    let k = list_kept root r.0 way r.1 (subst (λ (f : Form). HasForm r.0.shape f) c.in-List.is l.form) in
    let there : (x : Tested) × (reached (way ++ 0 ∷ []) root ≡ Some x) = (k.part, k.reaches) in
    search (rules, there)

pub put_dropped-put_map-requires : goal.put_dropped-put_map-requires
put_dropped-put_map-requires g t c κs within = let i = item_of c.args.value.now in
    let root = tested g.M.FromCbor.typed in
    let way = c.args.way.now in
    let r = c.requires in
    let l = look_there way root r.0 i c.look.result c.in_ok-look.look r.1 c.look.ensures c.in_ok-look.was in
    let k = map_kept root r.0 way r.1 (subst (λ (f : Form). HasForm r.0.shape f) c.in-Map.is l.form) in
    let there : (x : ℕ → Leaving) × Leaves root way x entry_step = (k.of, k.leaves) in
    search (rules, there)

pub put_dropped-put_map-requires-in-Record : goal.put_dropped-put_map-requires-in-Record
put_dropped-put_map-requires-in-Record g t c κs within = let i = item_of c.args.value.now in
    let root = tested g.M.FromCbor.typed in
    let way = c.args.way.now in
    let r = c.requires in
    let l = look_there way root r.0 i c.look.result c.in_ok-look.look r.1 c.look.ensures c.in_ok-look.was in
    let k = record_kept root r.0 way r.1 _ _ (subst (λ (f : Form). HasForm r.0.shape f) c.in-Record.is l.form) in
    let there : (x : ℕ → Leaving)
    × Leaves root way x (member_step c.in-Record.is_numbered (map entry_of c.in-Record.rows.now)) = (k.of, k.leaves) in
    search (rules, there)

pub put_dropped-returns-in-Leaf-clause-lists : goal.put_dropped-returns-in-Leaf-clause-lists
put_dropped-returns-in-Leaf-clause-lists g t c = λ u at.
    let i = item_of c.args.value.now in
    let l = look_there c.args.way.now (tested g.M.FromCbor.typed) u i c.look.result c.in_ok-look.look at c.look.ensures
    c.in_ok-look.was in
    let kept = sym l.kept ∙ c.if-not-look.false in
    let h = subst (λ (f : Form). HasForm u.shape f) c.in-Leaf.is l.form in
    adds_as [] _ c.args.dropped.now.items _ (leaf_leaves u.shape _ h (map step_of c.args.path.now) i kept)
    (adds_nothing c.args.dropped.now.items)

pub put_dropped-returns-in-List-clause-lists : goal.put_dropped-returns-in-List-clause-lists
put_dropped-returns-in-List-clause-lists g t c = λ u at.
    let i = item_of c.args.value.now in
    let root = tested g.M.FromCbor.typed in
    let way = c.args.way.now in
    let l = look_there way root u i c.look.result c.in_ok-look.look at c.look.ensures c.in_ok-look.was in
    let k = list_kept root u way at (subst (λ (f : Form). HasForm u.shape f) c.in-List.is l.form) in
    if_added _ (dropped u.shape (map step_of c.args.path.now) i) c.put_list.result _ _
    (k.same (map step_of c.args.path.now) i (sym l.kept ∙ c.if-not-look.false)) (c.put_list.ensures.lists k.part k.reaches)

pub put_dropped-returns-in-Map-clause-lists : goal.put_dropped-returns-in-Map-clause-lists
put_dropped-returns-in-Map-clause-lists g t c = λ u at.
    let i = item_of c.args.value.now in
    let root = tested g.M.FromCbor.typed in
    let way = c.args.way.now in
    let l = look_there way root u i c.look.result c.in_ok-look.look at c.look.ensures c.in_ok-look.was in
    let k = map_kept root u way at (subst (λ (f : Form). HasForm u.shape f) c.in-Map.is l.form) in
    if_added _ (dropped u.shape (map step_of c.args.path.now) i) c.put_map.result _ _
    (k.same (map step_of c.args.path.now) i (sym l.kept ∙ c.if-not-look.false)) (c.put_map.ensures.lists k.of k.leaves)

pub put_dropped-returns-in-Record-clause-lists : goal.put_dropped-returns-in-Record-clause-lists
put_dropped-returns-in-Record-clause-lists g t c = λ u at.
    let i = item_of c.args.value.now in
    let root = tested g.M.FromCbor.typed in
    let way = c.args.way.now in
    let l = look_there way root u i c.look.result c.in_ok-look.look at c.look.ensures c.in_ok-look.was in
    let k = record_kept root u way at _ _ (subst (λ (f : Form). HasForm u.shape f) c.in-Record.is l.form) in
    if_added _ (dropped u.shape (map step_of c.args.path.now) i) c.put_map-in-Record.result _ _
    (k.same (map step_of c.args.path.now) i (sym l.kept ∙ c.if-not-look.false)) (c.put_map-in-Record.ensures.lists k.of k.leaves)

-- ---- arrays

pub put_elements-loop-index-preserved : goal.put_elements-loop-index-preserved
put_elements-loop-index-preserved g t c = let root = tested g.M.FromCbor.typed in
    let x = c.index-elements-index in
    let at = mapped_at item_of c.args.elements.now _ x.result x.is c.loop-index-test.true in
    let n = c.loop-index.index in
    let longer = one_more_step c.args.path.now _ (code.Element n) c.in_ok-inner.ensures in
    let deref = ap (map step_of) c.deref.ensures.value ∙ longer in
    let moves = c.in_ok-put_dropped.ensures.moves in
    let back = ap (λ (w : CursorState). w.bytes) c.go_back.ensures ∙ moves.same ∙ c.loop-index.invariant.moves.same in
    let start = ap (λ (w : CursorState). w.place) c.go_back.ensures ∙ c.place-place.ensures in
    record {
      moves = record {
        same = c.skip.ensures.moves.same ∙ back;
        forward = omega (arith, c.loop-index.invariant.moves.forward, start, c.skip.ensures.moves.forward);
      };
      lists = λ u reaches.
          let of = dropped u.shape in
          let left = elements_left of (map step_of c.args.path.now) _ n _ _ _ at deref in
          goes_on c.loop-index.dropped.items c.put_dropped.new.dropped.items _ _ _ _
          (c.in_ok-put_dropped.ensures.lists u reaches) left (c.loop-index.invariant.lists u reaches);
      extents = λ whole i bytes same is h all.
          let before = c.loop-index.invariant.extents whole i bytes same is h all in
          let next = element_next i _ n _ _ is at in
          let now : c.loop-index.cursor.bytes ≡ bytes = c.loop-index.invariant.moves.same ∙ same in
          let p = before.0 in
          let stands = next_stands h n c.loop-index.cursor.place p _ next (element n) _ refl deref in
          let passes = passed_there _ _ c.go_back.new.self bytes c.loop-index.cursor.place _ (back ∙ same) start
          (next_there h n c.loop-index.cursor.place p _ next) c.skip.ensures.passes in (
            next_passed h n c.loop-index.cursor.place p _ next _ passes,
            c.in_ok-put_dropped.ensures.extents whole bytes now stands before.1,
          );
    }

pub put_elements-returns-clause-extents : goal.put_elements-returns-clause-extents
put_elements-returns-clause-extents g t c = λ whole i bytes same is h all.
    (c.loop-index.invariant.extents whole i bytes same is h all).1

pub put_list-returns-in_ok-inner-in-Array-clause-lists : goal.put_list-returns-in_ok-inner-in-Array-clause-lists
put_list-returns-in_ok-inner-in-Array-clause-lists g t c = λ u reaches.
    let is = ap item_of c.in-Array.is ∙ item_of-Array c.in-Array.elements
    ∙ ap (λ (vs : List Value). array (items_of (map item_of vs))) (sym c.deref-in-Array.ensures.value) in
    let root = tested g.M.FromCbor.typed in
    let inner = ap (λ (w : List ℕ). reached w root) (c.deref.ensures.value ∙ c.in_ok-inner-in-Array.ensures) ∙ reaches in
    if_added _ _ c.put_elements.result _ _
    (array_leaves (dropped u.shape) (map step_of c.args.path.now) (item_of c.args.value.now) _ is)
    (c.put_elements.ensures.lists u inner)

pub put_list-returns-in_ok-inner-in-Array-clause-extents : goal.put_list-returns-in_ok-inner-in-Array-clause-extents
put_list-returns-in_ok-inner-in-Array-clause-extents g t c = λ whole bytes same stands all.
    let is = ap item_of c.in-Array.is ∙ item_of-Array c.in-Array.elements
    ∙ ap (λ (vs : List Value). array (items_of (map item_of vs))) (sym c.deref-in-Array.ensures.value) in
    let o = head_opens whole (item_of c.args.value.now) (map step_of c.args.path.now) bytes c.args.cursor.now c.head.new.self
    c.head.result same stands c.head.ensures.found c.head.ensures.opens c.head.ensures.moves in
    c.put_elements.ensures.extents whole (item_of c.args.value.now) bytes (c.head.ensures.moves.same ∙ same)
    (array_parts (item_of c.args.value.now) _ is) o all

pub put_list-returns-in_default : goal.put_list-returns-in_default
put_list-returns-in_default g t c = record {
  lists = λ u reaches. adds_as [] _ c.args.dropped.now.items _
      (no_array_leaves (dropped u.shape) (map step_of c.args.path.now) (item_of c.args.value.now)
      (no_array c.args.value.now c.in_default.not-Array)) (adds_nothing c.args.dropped.now.items);
  extents = λ whole bytes same stands all. all;
  moves = record { same = refl; forward = omega arith };
}

-- ---- maps

pub put_map-returns-in-Map-clause-lists : goal.put_map-returns-in-Map-clause-lists
put_map-returns-in-Map-clause-lists g t c = λ of leaves.
    let is = ap item_of c.in-Map.is ∙ item_of-Map c.in-Map.pairs
    ∙ ap (λ (ps : List (Value × Value)). item.map (pairs_of (map pair_of ps))) (sym c.deref.ensures.value) in
    if_added _ _ c.put_pairs.result _ _
    (map_leaves (steps_by c.args.ty.now.keys) of (map step_of c.args.path.now) (item_of c.args.value.now) _ is)
    (c.put_pairs.ensures.lists of leaves)

pub put_map-returns-in-Map-clause-extents : goal.put_map-returns-in-Map-clause-extents
put_map-returns-in-Map-clause-extents g t c = λ whole bytes same stands all.
    let is = ap item_of c.in-Map.is ∙ item_of-Map c.in-Map.pairs
    ∙ ap (λ (ps : List (Value × Value)). item.map (pairs_of (map pair_of ps))) (sym c.deref.ensures.value) in
    let o = head_opens whole (item_of c.args.value.now) (map step_of c.args.path.now) bytes c.args.cursor.now c.head.new.self
    c.head.result same stands c.head.ensures.found c.head.ensures.opens c.head.ensures.moves in
    c.put_pairs.ensures.extents whole (item_of c.args.value.now) bytes (c.head.ensures.moves.same ∙ same)
    (map_parts (item_of c.args.value.now) _ is) o all

pub put_map-returns-in_default : goal.put_map-returns-in_default
put_map-returns-in_default g t c = record {
  lists = λ of leaves. adds_as [] _ c.args.dropped.now.items _
      (no_map_leaves (steps_by c.args.ty.now.keys) of (map step_of c.args.path.now) (item_of c.args.value.now)
      (not_a_map c.args.value.now c.in_default.not-Map)) (adds_nothing c.args.dropped.now.items);
  extents = λ whole bytes same stands all. all;
  moves = record { same = refl; forward = omega arith };
}

pub put_pairs-loop-index-preserved : goal.put_pairs-loop-index-preserved
put_pairs-loop-index-preserved g t c = let m = c.index-pairs-index in
    let at = mapped_at pair_of c.args.pairs.now _ m.result m.is c.loop-index-test.true in
    let n = c.loop-index.index in
    let p0 = c.loop-index.cursor.place in
    let back = ap (λ (w : CursorState). w.bytes) c.go_back.ensures ∙ c.in_ok-put_pair.ensures.moves.same
    ∙ c.loop-index.invariant.moves.same in
    let start = ap (λ (w : CursorState). w.place) c.go_back.ensures ∙ c.place-place.ensures in
    record {
      moves = record {
        same = c.skip-in-loop-index.ensures.moves.same ∙ c.skip.ensures.moves.same ∙ back;
        forward = omega (
          arith,
          c.loop-index.invariant.moves.forward,
          start,
          c.skip.ensures.moves.forward,
          c.skip-in-loop-index.ensures.moves.forward,
        );
      };
      lists = λ of leaves.
          let left = pairs_left (steps_by c.args.ty.now.keys) of (map step_of c.args.path.now) _ n _ _ _ at refl in
          goes_on c.loop-index.dropped.items c.put_pair.new.dropped.items _ _ _ _
          (c.in_ok-put_pair.ensures.lists of leaves) left (c.loop-index.invariant.lists of leaves);
      extents = λ whole i bytes same is h all.
          let before = c.loop-index.invariant.extents whole i bytes same is h all in
          let key_at = key_next i _ n _ _ is at in
          let value_at = value_next i _ n _ _ is at in
          let kp = before.0 in
          let stands = pair_stands h n p0 kp _ key_at value_at in
          let now : c.loop-index.cursor.bytes ≡ bytes = c.loop-index.invariant.moves.same ∙ same in
          let key_passes = passed_there _ _ c.go_back.new.self bytes p0 _ (back ∙ same) start
          (next_there h (n + n) p0 kp _ key_at) c.skip.ensures.passes in
          let p1 = c.skip.new.self.place in
          let vp = next_passed h (n + n) p0 kp _ key_at p1 key_passes in
          let passes = passed_there _ _ c.skip.new.self bytes p1 _ (c.skip.ensures.moves.same ∙ back ∙ same) refl
          (next_there h (n + n + 1) p1 vp _ value_at) c.skip-in-loop-index.ensures.passes in
          let done = next_passed h (n + n + 1) p1 vp _ value_at _ passes in
          let two : n + n + 1 + 1 ≡ n + 1 + (n + 1) = omega arith in (
            subst (λ (k : ℕ). PassedItems (parts_of i) k bytes c.args.cursor.now.place c.skip-in-loop-index.new.self.place
                h.end) two done,
            c.in_ok-put_pair.ensures.extents whole bytes now stands before.1,
          );
    }

pub put_pairs-returns-clause-extents : goal.put_pairs-returns-clause-extents
put_pairs-returns-clause-extents g t c = λ whole i bytes same is h all.
    (c.loop-index.invariant.extents whole i bytes same is h all).1

-- ---- a pair

pub put_pair-returns-in_ok-longer-in-Some-clause-lists : goal.put_pair-returns-in_ok-longer-in-Some-clause-lists
put_pair-returns-in_ok-longer-in-Some-clause-lists g t c = λ of leaves.
    let root = tested g.M.FromCbor.typed in
    let way = c.args.ty.now.way.now in
    let n = c.args.index in
    let m = pair_of c.args.pair.now in
    let s = numbered_step (c.in-Some.step, c.in-Some.number) in
    let step : steps_by c.args.ty.now.keys n m.0 ≡ Some s =
    sym c.step_to.ensures ∙ ap (option_map numbered_step) c.in-Some.is in
    let by : LeavesBy root way of s =
    subst (λ (o : Option (Step × ℕ)). IfSome o (LeavesBy root way of)) step (leaves n m.0) in
    let inner = ap (λ (w : List ℕ). reached w root) (c.deref.ensures.value ∙ c.in_ok-inner-in-Some.ensures) ∙ by.1.0 in
    let longer = one_more_step c.args.path.now _ c.in-Some.step c.in_ok-longer-in-Some.ensures in
    let path = ap (map step_of) c.deref-in-Some.ensures.value ∙ longer in
    if_added _ _ c.put_dropped.result _ _
    (value_leaves of (map step_of c.args.path.now) n _ s m.1 _ (dropped by.0.shape) step by.1.1 path)
    (c.put_dropped.ensures.lists by.0 inner)

pub put_pair-returns-in_ok-longer-in-Some-clause-extents : goal.put_pair-returns-in_ok-longer-in-Some-clause-extents
put_pair-returns-in_ok-longer-in-Some-clause-extents g t c = λ whole bytes same stands all.
    let n = c.args.index in
    let m = pair_of c.args.pair.now in
    let step : steps_by c.args.ty.now.keys n m.0 ≡ Some (numbered_step (c.in-Some.step, c.in-Some.number)) =
    sym c.step_to.ensures ∙ ap (option_map numbered_step) c.in-Some.is in
    let index : part_index (step_of c.in-Some.step) ≡ suc (n + n) =
    subst (λ (o : Option (Step × ℕ)). IfSome o (λ s. part_index s.0 ≡ suc (n + n))) step
    (steps_lead c.args.ty.now.keys n m.0) in
    let key = stands.key_stands in
    let there = subst (λ (bs : List ℕ). IsEncodedAt m.0 bs c.args.cursor.now.place key.to) (sym same) key.there in
    let passed = c.pass-key_at.ensures.passes m.0 key.to there in
    let longer = one_more_step c.args.path.now _ c.in-Some.step c.in_ok-longer-in-Some.ensures in
    let path = ap (map step_of) c.deref-in-Some.ensures.value ∙ longer in
    let value = subst (λ (q : List Step). Stands whole q m.1 bytes key.to) (sym path)
    (stands.value_stands (step_of c.in-Some.step) index) in
    c.put_dropped.ensures.extents whole bytes (c.pass-key_at.ensures.moves.same ∙ same)
    (subst (λ (k : ℕ). Stands whole (map step_of c.deref-in-Some.result.now) m.1 bytes k) (sym passed.2) value) all

pub put_pair-returns-in-None-clause-extents : goal.put_pair-returns-in-None-clause-extents
put_pair-returns-in-None-clause-extents g t c = λ whole bytes same stands all.
    let m = pair_of c.args.pair.now in
    let key = stands.key_stands in
    let there = subst (λ (bs : List ℕ). IsEncodedAt m.0 bs c.args.cursor.now.place key.to) (sym same) key.there in
    let passed = c.pass-key_at.ensures.passes m.0 key.to there in
    c.put_unknown.ensures.extents whole bytes (lies_at key _ _ passed.0 passed.1) all
