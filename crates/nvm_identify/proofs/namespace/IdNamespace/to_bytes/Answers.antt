use Rattle.std.proofs.Common.{rules, [], ◌∷◌, refl}
use Rattle.std.specs.Int.{w64, to_le_bytes}
use Rattle.nvm_identify.specs.declared.namespace.IdNamespace.{IdNamespace}
use Rattle.nvm_identify.specs.Namespace.{namespace_bytes}
use Rattle.nvm_identify.proofs.NamespaceLemmas.{HasFronts, fronts, namespace_of-namespace_bytes, front_8, front_16, front_24, front_27}
use Rattle.nvm_identify.proofs.PlaceLemmas.{field_after_gap, next_field}
use Rattle.nvm_identify.proofs.namespace.IdNamespace.to_bytes.Goals as goal

pub returns-clause-fits : goal.returns-clause-fits
returns-clause-fits c = record { nsze = c.put_u64.ensures.fits; ncap = c.put_u64-2.ensures.fits; nuse = c.put_u64-3.ensures.fits }

pub returns-clause-bytes : goal.returns-clause-bytes
unfolding namespace_bytes
returns-clause-bytes c =
    let s : IdNamespace = c.args.self.now in
    let size : HasFronts s = fronts s in
    let to8 = next_field 0 4096 4088 [] (to_le_bytes w64 s.nsze) c.clear.new.out c.put_u64.new.out c.clear.ensures refl refl c.put_u64.ensures.bytes in
    let to16 = next_field 8 4088 4080 (front_8 s) (to_le_bytes w64 s.ncap) c.put_u64.new.out c.put_u64-2.new.out to8 refl refl c.put_u64-2.ensures.bytes in
    let to24 = next_field 16 4080 4072 (front_16 s) (to_le_bytes w64 s.nuse) c.put_u64-2.new.out c.put_u64-3.new.out to16 refl refl c.put_u64-3.ensures.bytes in
    let to27 = field_after_gap 25 1 4072 4069 (front_24 s) (s.nlbaf ∷ s.flbas ∷ []) c.put_u64-3.new.out c.put.new.out to24 refl refl c.put.ensures in
    field_after_gap 130 103 4069 3965 (front_27 s) (s.lbads ∷ []) c.put.new.out c.put-2.new.out to27 (search rules) refl c.put-2.ensures

pub returns-clause-back : goal.returns-clause-back
returns-clause-back c = namespace_of-namespace_bytes c.args.self.now c.put-2.new.out (returns-clause-fits c) (returns-clause-bytes c)
