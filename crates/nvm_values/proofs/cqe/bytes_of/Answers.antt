use Rattle.std.proofs.Common.{rules, ℕ, List, ◌++◌, replicate, refl, sym, ap, ◌∙◌}
use Rattle.std.proofs.lemmas.List.{take_all}
use Rattle.std.specs.Int.{w16, w32, to_le_bytes}
use Rattle.nvm_values.specs.Cqe.{cqe_bytes, status_word}
use Rattle.nvm_values.proofs.PlaceLemmas.{written_behind}
use Rattle.nvm_values.proofs.cqe.bytes_of.Goals as goal

pub returns-clause-bytes : goal.returns-clause-bytes
unfolding cqe_bytes
returns-clause-bytes c =
    let to4 = written_behind 0 4 (replicate 16 0) c.put_u32.new.out (to_le_bytes w32 c.cqe.inside.dw0) (search rules) refl c.put_u32.ensures in
    let to8 = written_behind 4 8 c.put_u32.new.out c.put_u32-2.new.out (to_le_bytes w32 c.cqe.inside.dw1) (search rules) refl c.put_u32-2.ensures ∙ ap (λ (r : List ℕ). r ++ to_le_bytes w32 c.cqe.inside.dw1) to4 in
    let to10 = written_behind 8 10 c.put_u32-2.new.out c.put_u16.new.out (to_le_bytes w16 c.cqe.inside.sqhd) (search rules) refl c.put_u16.ensures ∙ ap (λ (r : List ℕ). r ++ to_le_bytes w16 c.cqe.inside.sqhd) to8 in
    let to12 = written_behind 10 12 c.put_u16.new.out c.put_u16-2.new.out (to_le_bytes w16 c.cqe.inside.sqid) (search rules) refl c.put_u16-2.ensures ∙ ap (λ (r : List ℕ). r ++ to_le_bytes w16 c.cqe.inside.sqid) to10 in
    let to14 = written_behind 12 14 c.put_u16-2.new.out c.put_u16-3.new.out (to_le_bytes w16 c.cqe.inside.cid) (search rules) refl c.put_u16-3.ensures ∙ ap (λ (r : List ℕ). r ++ to_le_bytes w16 c.cqe.inside.cid) to12 in
    let word = c.word_of.ensures ∙ ap status_word (sym c.cqe.view_is) in
    let to16 = written_behind 14 16 c.put_u16-3.new.out c.put_u16-4.new.out (to_le_bytes w16 c.word_of.result) (search rules) refl c.put_u16-4.ensures ∙ (λ k. to14 k ++ to_le_bytes w16 (word k)) in
    sym (take_all 16 c.put_u16-4.new.out (search rules)) ∙ to16 ∙ ap cqe_bytes c.cqe.view_is
