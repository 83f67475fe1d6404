use Rattle.passkey_bytes.proofs.Maps.{ClonesValues-map_of}
use Rattle.passkey_bytes.proofs.map.MapClone.clone.Goals as goal

pub returns : goal.returns
returns g c = record {
  cases = rw (← c.self.view_is) (ClonesValues-map_of g.K.Key.key_bytes g.K.Clone.is_clone
      g.met.K.Key.clone_keeps_bytes g.V.Clone.is_clone _ _ c.in_ok-copy.ensures.cases);
}
