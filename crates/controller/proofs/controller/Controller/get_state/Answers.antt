use Rattle.std.proofs.Common.{◌≡◌, ◌∙◌, List, Ok, ap, length, map, subst, sym}
use Rattle.ctl_state.specs.Image.{IsImage, pairs_of}
use Rattle.ctl_state.specs.declared.phase.Phase.{Phase}
use Rattle.ctl_state.specs.Admin.{Gets, image_of}
use Rattle.ctl_state.specs.Controller.{ControllerState, PairState}
use Rattle.controller.proofs.AdminLemmas.{gets_part}
use Rattle.controller.proofs.controller.Controller.get_state.Goals as goal

pub returns : goal.returns
returns c =
    let s = c.self.inside in
    let view : ControllerState = record { pairs = s.pairs.items; burst = s.burst; phase = s.phase; queue = s.queue; logging = s.tracker; fed = s.parts } in
    let is : IsImage (length view.pairs) c.image_of.result = subst (λ (ps : List PairState). IsImage (length ps) c.image_of.result) c.as_slice.ensures.value c.image_of.ensures.image in
    let rings : pairs_of c.image_of.result ≡ map image_of view.pairs = c.image_of.ensures.rings ∙ ap (map image_of) c.as_slice.ensures.value in
    subst (λ (st : ControllerState). Gets st.phase c.args.offset st c.args.bytes.now (Ok c.copy_front.result) c.copy_front.new.to) c.self.view_is
    (subst (λ (p : Phase). Gets p c.args.offset view c.args.bytes.now (Ok c.copy_front.result) c.copy_front.new.to) (sym c.in-Suspended.is)
    (gets_part view c.args.offset c.copy_front.result c.encode-size.result c.image_of.result _ c.encode-size.new.out c.args.bytes.now c.copy_front.new.to is rings
    c.encode-size.ensures.bytes c.encode-size.ensures.count c.if-from-size.false c.copy_front.ensures.count c.copy_front.ensures.bytes))
