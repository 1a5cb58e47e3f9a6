use Rattle.std.proofs.Common.{rules, [], ◌∷◌, refl}
use Rattle.std.specs.Int.{w16, w32, to_le_bytes}
use Rattle.nvm_identify.specs.declared.controller.IdController.{IdController}
use Rattle.nvm_identify.specs.Controller.{IsController, controller_bytes}
use Rattle.nvm_identify.proofs.ControllerLemmas.{HasFronts, controller_of-controller_bytes, fronts, front_2, front_24, front_64, front_72, front_78, front_80, front_514}
use Rattle.nvm_identify.proofs.PlaceLemmas.{field_after_gap, next_field}
use Rattle.nvm_identify.proofs.controller.IdController.to_bytes.Goals as goal

pub returns-clause-fits : goal.returns-clause-fits
returns-clause-fits c = record { vid = c.put_u16.ensures.fits; sn = search rules; mn = search rules; fr = search rules; cntlid = c.put_u16-2.ensures.fits; nn = c.put_u32.ensures.fits }

pub returns-clause-bytes : goal.returns-clause-bytes
unfolding controller_bytes
returns-clause-bytes c =
    let s : IdController = c.args.self.now in
    let is : IsController s = returns-clause-fits c in
    let size : HasFronts s = fronts s is in
    let to2 = next_field 0 4096 4094 [] (to_le_bytes w16 s.vid) c.clear.new.out c.put_u16.new.out c.clear.ensures refl refl c.put_u16.ensures.bytes in
    let to24 = field_after_gap 4 2 4094 4072 (front_2 s) s.sn c.put_u16.new.out c.put.new.out to2 refl (search rules) c.put.ensures in
    let to64 = next_field 24 4072 4032 (front_24 s) s.mn c.put.new.out c.put-2.new.out to24 size.to24 (search rules) c.put-2.ensures in
    let to72 = next_field 64 4032 4024 (front_64 s) s.fr c.put-2.new.out c.put-3.new.out to64 size.to64 (search rules) c.put-3.ensures in
    let to78 = field_after_gap 77 5 4024 4018 (front_72 s) (s.mdts ∷ []) c.put-3.new.out c.put-4.new.out to72 (search rules) refl c.put-4.ensures in
    let to80 = next_field 78 4018 4016 (front_78 s) (to_le_bytes w16 s.cntlid) c.put-4.new.out c.put_u16-2.new.out to78 size.to78 refl c.put_u16-2.ensures.bytes in
    let to514 = field_after_gap 512 432 4016 3582 (front_80 s) (s.sqes ∷ s.cqes ∷ []) c.put_u16-2.new.out c.put-5.new.out to80 (search rules) refl c.put-5.ensures in
    field_after_gap 516 2 3582 3576 (front_514 s) (to_le_bytes w32 s.nn) c.put-5.new.out c.put_u32.new.out to514 (search rules) refl c.put_u32.ensures.bytes

pub returns-clause-back : goal.returns-clause-back
returns-clause-back c = controller_of-controller_bytes c.args.self.now c.put_u32.new.out (returns-clause-fits c) (returns-clause-bytes c)
