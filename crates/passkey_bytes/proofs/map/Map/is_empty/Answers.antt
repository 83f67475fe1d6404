use Rattle.std.proofs.Common.{sym, ◌∙◌}
use Rattle.std.proofs.lemmas.Bool.{eq-eqb, eqb-true}
use Rattle.passkey_bytes.proofs.Maps.{none_iff_empty}
use Rattle.passkey_bytes.proofs.map.Map.is_empty.Goals as goal

pub returns : goal.returns
returns g c =
    let none = none_iff_empty c.args.self.now in (
      λ is. none.0 (sym c.len.ensures ∙ eqb-true c.len.result 0 is),
      λ same. eq-eqb c.len.result 0 (c.len.ensures ∙ none.1 same),
    )
