use Rattle.std.proofs.Common.{rules, ℕ, List, ◌∷◌, ◌++◌, replicate, refl, sym, ap, ◌∙◌}
use Rattle.std.proofs.lemmas.List.{take_all}
use Rattle.std.specs.Int.{w16, w32, w64, to_le_bytes}
use Rattle.nvm_values.specs.Sqe.{sqe_bytes}
use Rattle.nvm_values.proofs.PlaceLemmas.{written_behind}
use Rattle.nvm_values.proofs.sqe.bytes_of.Goals as goal

pub returns-clause-bytes : goal.returns-clause-bytes
unfolding sqe_bytes
returns-clause-bytes c =
    let to4 = written_behind 2 4 (c.args.entry.opcode ∷ c.args.entry.flags ∷ replicate 62 0) c.put_u16.new.out (to_le_bytes w16 c.args.entry.cid) (search rules) refl c.put_u16.ensures in
    let to8 = written_behind 4 8 c.put_u16.new.out c.put_u32.new.out (to_le_bytes w32 c.args.entry.nsid) (search rules) refl c.put_u32.ensures ∙ ap (λ (r : List ℕ). r ++ to_le_bytes w32 c.args.entry.nsid) to4 in
    let to12 = written_behind 8 12 c.put_u32.new.out c.put_u32-2.new.out (to_le_bytes w32 c.args.entry.cdw2) (search rules) refl c.put_u32-2.ensures ∙ ap (λ (r : List ℕ). r ++ to_le_bytes w32 c.args.entry.cdw2) to8 in
    let to16 = written_behind 12 16 c.put_u32-2.new.out c.put_u32-3.new.out (to_le_bytes w32 c.args.entry.cdw3) (search rules) refl c.put_u32-3.ensures ∙ ap (λ (r : List ℕ). r ++ to_le_bytes w32 c.args.entry.cdw3) to12 in
    let to24 = written_behind 16 24 c.put_u32-3.new.out c.put_u64.new.out (to_le_bytes w64 c.args.entry.mptr) (search rules) refl c.put_u64.ensures ∙ ap (λ (r : List ℕ). r ++ to_le_bytes w64 c.args.entry.mptr) to16 in
    let to32 = written_behind 24 32 c.put_u64.new.out c.put_u64-2.new.out (to_le_bytes w64 c.args.entry.prp1) (search rules) refl c.put_u64-2.ensures ∙ ap (λ (r : List ℕ). r ++ to_le_bytes w64 c.args.entry.prp1) to24 in
    let to40 = written_behind 32 40 c.put_u64-2.new.out c.put_u64-3.new.out (to_le_bytes w64 c.args.entry.prp2) (search rules) refl c.put_u64-3.ensures ∙ ap (λ (r : List ℕ). r ++ to_le_bytes w64 c.args.entry.prp2) to32 in
    let to44 = written_behind 40 44 c.put_u64-3.new.out c.put_u32-4.new.out (to_le_bytes w32 c.args.entry.cdw10) (search rules) refl c.put_u32-4.ensures ∙ ap (λ (r : List ℕ). r ++ to_le_bytes w32 c.args.entry.cdw10) to40 in
    let to48 = written_behind 44 48 c.put_u32-4.new.out c.put_u32-5.new.out (to_le_bytes w32 c.args.entry.cdw11) (search rules) refl c.put_u32-5.ensures ∙ ap (λ (r : List ℕ). r ++ to_le_bytes w32 c.args.entry.cdw11) to44 in
    let to52 = written_behind 48 52 c.put_u32-5.new.out c.put_u32-6.new.out (to_le_bytes w32 c.args.entry.cdw12) (search rules) refl c.put_u32-6.ensures ∙ ap (λ (r : List ℕ). r ++ to_le_bytes w32 c.args.entry.cdw12) to48 in
    let to56 = written_behind 52 56 c.put_u32-6.new.out c.put_u32-7.new.out (to_le_bytes w32 c.args.entry.cdw13) (search rules) refl c.put_u32-7.ensures ∙ ap (λ (r : List ℕ). r ++ to_le_bytes w32 c.args.entry.cdw13) to52 in
    let to60 = written_behind 56 60 c.put_u32-7.new.out c.put_u32-8.new.out (to_le_bytes w32 c.args.entry.cdw14) (search rules) refl c.put_u32-8.ensures ∙ ap (λ (r : List ℕ). r ++ to_le_bytes w32 c.args.entry.cdw14) to56 in
    let to64 = written_behind 60 64 c.put_u32-8.new.out c.put_u32-9.new.out (to_le_bytes w32 c.args.entry.cdw15) (search rules) refl c.put_u32-9.ensures ∙ ap (λ (r : List ℕ). r ++ to_le_bytes w32 c.args.entry.cdw15) to60 in
    sym (take_all 64 c.put_u32-9.new.out (search rules)) ∙ to64

pub returns-clause-fits : goal.returns-clause-fits
returns-clause-fits c = record { opcode = search rules; flags = search rules; cid = search rules; nsid = search rules; cdw2 = search rules; cdw3 = search rules; mptr = search rules; prp1 = search rules; prp2 = search rules; cdw10 = search rules; cdw11 = search rules; cdw12 = search rules; cdw13 = search rules; cdw14 = search rules; cdw15 = search rules }
