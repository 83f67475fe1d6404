use Rattle.std.proofs.Common.{◌≡◌, ◌-◌, ap, subst, refl, take, drop}
use Rattle.passkey_cbor.specs.CursorState.{CursorState, IsPlaced}
use Rattle.passkey_cbor.specs.Steps.{RegionRead}
use Rattle.passkey_cbor.proofs.heads.Numbers.{IsBytes-drop}
use Rattle.passkey_cbor.proofs.strings.Lending.{region_read, region_sized}
use Rattle.passkey_cbor.proofs.cursor.Cursor.region.Goals as goal

pub returns-clause-reads : goal.returns-clause-reads
returns-clause-reads c =
    let placed : IsPlaced c.args.self.now.bytes c.args.self.now.place =
    subst (λ (w : CursorState). IsPlaced w.bytes w.place) c.self.view_is c.self.invariant in
    let begins : c.self.inside.place ≡ c.args.self.now.place = ap (λ (w : CursorState). w.place) c.self.view_is in
    let bytes : c.self.inside.bytes.now ≡ c.args.self.now.bytes = ap (λ (w : CursorState). w.bytes) c.self.view_is in
    let ends : c.self-2.inside.place ≡ c.pass_string.new.self.place = ap (λ (w : CursorState). w.place) c.self-2.view_is in
    region_read c.args.is_text c.args.len c.args.self.now c.pass_string.new.self
    (take (c.self-2.inside.place - c.self.inside.place) (drop c.self.inside.place c.self.inside.bytes.now))
    placed.within (IsBytes-drop c.args.self.now.place c.args.self.now.bytes placed.fits) c.in-Some.ensures.skips
    (rw (begins, bytes, ends) refl)

pub returns-clause-size : goal.returns-clause-size
returns-clause-size c =
    let placed : IsPlaced c.args.self.now.bytes c.args.self.now.place =
    subst (λ (w : CursorState). IsPlaced w.bytes w.place) c.self.view_is c.self.invariant in
    let begins : c.self.inside.place ≡ c.args.self.now.place = ap (λ (w : CursorState). w.place) c.self.view_is in
    let bytes : c.self.inside.bytes.now ≡ c.args.self.now.bytes = ap (λ (w : CursorState). w.bytes) c.self.view_is in
    let ends : c.self-2.inside.place ≡ c.pass_string.new.self.place = ap (λ (w : CursorState). w.place) c.self-2.view_is in
    let region =
    take (c.self-2.inside.place - c.self.inside.place) (drop c.self.inside.place c.self.inside.bytes.now) in
    let read : RegionRead c.args.is_text c.args.len c.args.self.now c.pass_string.new.self region =
    region_read c.args.is_text c.args.len c.args.self.now c.pass_string.new.self region placed.within
    (IsBytes-drop c.args.self.now.place c.args.self.now.bytes placed.fits) c.in-Some.ensures.skips
    (rw (begins, bytes, ends) refl) in
    region_sized c.args.is_text c.args.len c.args.self.now c.pass_string.new.self region c.in-Some.size read
    c.in-Some.ensures.size
