use Rattle.std.proofs.Common.{◌∙◌, [], ◌++◌, List, ap, sym, refl, subst, map}
use Rattle.std.proofs.lemmas.List.Elements.{All-nil, All-same}
use Rattle.passkey_cbor.specs.CursorState.{CursorState}
use Rattle.passkey_explain.proofs.DropLaws.{shape_left}
use Rattle.passkey_explain.proofs.LeavesOut.{whole_stands}
use Rattle.passkey_explain.specs.Dropped.{dropped}
use Rattle.passkey_explain.specs.declared.dropping.DroppedItem.{DroppedItem}
use Rattle.passkey_explain.specs.Drops.{IsLeftOut, LiesIn, Stands, left_out}
use Rattle.passkey_kinds.specs.Look.{tested}
use Rattle.passkey_kinds.specs.RecordReading.{nested, shape_of}
use Rattle.passkey_kinds.specs.Words.{item_of}
use Rattle.passkey_explain.proofs.dropping.dropped_in.Goals as goal

pub put_dropped-requires : goal.put_dropped-requires
put_dropped-requires g c = (tested (nested g.M.Record.fields), refl)

pub returns : goal.returns
returns g c =
    let i = item_of c.args.value.now in
    let bytes = c.args.bytes.now in
    let told = c.in_ok-put_dropped.ensures.lists (tested (nested g.M.Record.fields)) refl in
    let t = g.M.Record.fields in
    let list = told ∙ ap (λ (ds : List DroppedItem). map left_out ds ++ dropped (shape_of t) [] i)
    c.new-dropped.ensures.items in
    let root = tested (nested t) in
    let same = ap (λ (w : CursorState). w.bytes) c.new-cursor.ensures in
    let start = ap (λ (w : CursorState). w.place) c.new-cursor.ensures in
    let stands = subst (Stands i [] i bytes) (sym start) (whole_stands i bytes c.requires.0 c.requires.1) in
    record {
      list = list;
      left = All-same (IsLeftOut root i) _ _ list (shape_left root i (shape_of t) root [] refl (λ n. refl) (λ u h. h) [] i refl);
      extents = c.in_ok-put_dropped.ensures.extents i bytes same stands
          (All-same (LiesIn i bytes) _ [] c.new-dropped.ensures.items (All-nil (LiesIn i bytes)));
    }
