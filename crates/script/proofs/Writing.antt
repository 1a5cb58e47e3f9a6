-- Texts that are written part by part.
use Rattle.std.proofs.Common.{refl, ◌≡◌, ◌++◌, take, append_assoc, codes}
use Rattle.std.specs.List.{flat_map}
use Rattle.mig_base.proofs.WriteLemmas.{IsNumbered}
use Rattle.nvm_model.specs.declared.script.Head.{Head}
use Rattle.nvm_model.specs.ScriptText.{lane_line, lane_lines, migrate_line, head_text}
use Rattle.script.specs.Keys.{first_keys, later_keys}
use Rattle.script.specs.Writing.{key_text}

pub lanes_are_numbered : IsNumbered lane_line lane_lines
lanes_are_numbered = record { none = λ k. refl; next = λ k set sets. refl }

pub head_parts : (h : Head) → head_text h ≡ codes "nvmigrate script 1\n" ++ (flat_map (key_text h) first_keys ++ (lane_lines 1 (take h.lanes h.sets) ++ (flat_map (key_text h) later_keys ++ migrate_line h.migrate)))
head_parts h = simp append_assoc
