use Rattle.std.specs.BTreeMap.{btree_map_len}
use Rattle.std.specs.Cmp.Lexicographic.{unequal}
use Rattle.std.proofs.Common.{◌≢◌, ◌∙◌, ◌&&◌, Bool, sym}
use Rattle.std.proofs.lemmas.Bool.{ne_eqb}
use Rattle.passkey_bytes.proofs.MapEquality.{tree_eq_as_maps_eq}
use Rattle.passkey_bytes.proofs.map.MapPartialEq.eq.Goals as goal

pub returns-then-as_long : goal.returns-then-as_long
returns-then-as_long g c =
    rw (← c.self.view_is, ← c.other.view_is) (
    c.eq.ensures
    ∙ tree_eq_as_maps_eq g.K.Key.key_bytes g.met.K.Key.cmp_by_bytes g.met.K.Ord.total g.V.PartialEq.eq
    c.self.inside.0 c.other.inside.0 g.K.PartialEq.eq g.met.K.Ord.matches_eq c.len.ensures.ordered
    c.len-2.ensures.ordered)

-- if trees have different lengths, one has an entry that the other lacks
pub returns-else-as_long : goal.returns-else-as_long
returns-else-as_long g c =
    let same_entry : g.row.K.Denot × g.row.V.Denot → g.row.K.Denot × g.row.V.Denot
    → Bool = λ p q. g.K.PartialEq.eq p.0 q.0 && g.V.PartialEq.eq p.1 q.1 in
    let apart : btree_map_len c.self.inside.0 ≢ btree_map_len c.other.inside.0 =
    λ same. c.if-as_long.false (c.len.ensures.len ∙ same ∙ sym c.len-2.ensures.len) in
    rw (← c.self.view_is, ← c.other.view_is) (
    ne_eqb c.len.result c.len-2.result c.if-as_long.false
    ∙ sym (unequal same_entry c.self.inside.0.entries c.other.inside.0.entries apart)
    ∙ tree_eq_as_maps_eq g.K.Key.key_bytes g.met.K.Key.cmp_by_bytes g.met.K.Ord.total g.V.PartialEq.eq
    c.self.inside.0 c.other.inside.0 g.K.PartialEq.eq g.met.K.Ord.matches_eq c.len.ensures.ordered
    c.len-2.ensures.ordered)
