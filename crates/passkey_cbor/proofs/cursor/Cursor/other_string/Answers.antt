use Rattle.std.proofs.Common.{◌≡◌, ℕ, List, Bor, Option, ap, subst}
use Rattle.passkey_cbor.specs.CursorState.{CursorState, IsPlaced}
use Rattle.passkey_cbor.specs.Lent.{Region}
use Rattle.passkey_cbor.proofs.building.Gathering.{moves_back}
use Rattle.passkey_cbor.proofs.strings.Lending.{string_missed, string_found, lends}
use Rattle.passkey_cbor.proofs.cursor.Cursor.other_string.Goals as goal

abbrev region_of : Option ℕ × Bor (List ℕ) × ℕ → Region
region_of r = record { len = r.0; bytes = r.1.now }

pub returns-then-is_none : goal.returns-then-is_none
returns-then-is_none c =
    let place_is : c.self.inside.place ≡ c.args.self.now.place = ap (λ (w : CursorState). w.place) c.self.view_is in
    let missed =
    string_missed region_of c.args.is_text c.args.self.now c.string_ahead-found.new.self c.self.inside.place
    c.string_ahead-found.result c.if-is_none.ensures place_is c.string_ahead-found.ensures.reads in
    let placed : IsPlaced c.args.self.now.bytes c.args.self.now.place =
    subst (λ (w : CursorState). IsPlaced w.bytes w.place) c.self.view_is c.self.invariant in
    let moves = moves_back c.args.self.now c.string_ahead-found.new.self (record c.string_ahead-found.new.self
    { place = c.self.inside.place }) placed.within c.string_ahead-found.ensures.moves
    (ap (λ (p : ℕ). record c.string_ahead-found.new.self { place = p }) place_is) in
    rw c.go_back.ensures (record {
      front = missed;
      lends = lends c.args.is_text c.args.self.now _ _ missed;
      moves = moves;
      size = c.string_ahead-found.ensures.size;
    })

pub returns-else-is_none : goal.returns-else-is_none
returns-else-is_none c =
    let found = string_found region_of c.args.is_text c.args.self.now c.string_ahead-found.new.self
    c.string_ahead-found.result c.if-is_none.ensures c.string_ahead-found.ensures.reads in
    record {
      front = found;
      lends = lends c.args.is_text c.args.self.now _ _ found;
      moves = c.string_ahead-found.ensures.moves;
      size = c.string_ahead-found.ensures.size;
    }
