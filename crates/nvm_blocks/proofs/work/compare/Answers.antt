use Rattle.std.proofs.Common.{◌≡◌, ℕ, ◌+◌, ◌<◌, List, refl, sym, ◌∙◌, arith, rules}
use Rattle.nvm_values.specs.declared.op.Op.TheVariants.{Compare}
use Rattle.nvm_model.specs.Piece.{block_at, data_block}
use Rattle.guest_ram.specs.Window.{data_pages}
use Rattle.nvm_blocks.proofs.CallLemmas.{all_moved, compare_is, due_before, due_more, due_none, moved_more, moved_none, some_differs, some_failed}
use Rattle.nvm_blocks.proofs.work.compare.Goals as goal

pub loop-i-init : goal.loop-i-init
loop-i-init g c = moved_none Compare c.args.first (due_none _)

pub loop-i-preserved : goal.loop-i-preserved
loop-i-preserved g c =
    let piece = c.args.piece.now in
    let same : c.get.new.out ≡ data_block (data_pages c.args.window.now) piece.pages (piece.at + c.loop-i.i) = search rules in
    moved_more Compare c.args.first c.loop-i.i _ c.loop-i.invariant c.in-Ok.ensures (due_more _ c.loop-i.i _ same)

pub returns-in-Err : goal.returns-in-Err
returns-in-Err g c =
    some_failed Compare _ _ c.requires.op c.loop-i.invariant c.in-Err.ensures refl (λ moved size due. compare_is c.requires.op size (omega arith, λ i l. due i (omega arith)))

pub returns-then-ne : goal.returns-then-ne
returns-then-ne g c =
    let piece = c.args.piece.now in
    let i = c.loop-i.i in
    let due : ℕ → List ℕ = λ j. data_block (data_pages c.args.window.now) piece.pages (piece.at + j) in
    let out = c.get.new.out in
    let differs : (out ≡ due i → ⊥) = search rules in
    some_differs {P = λ moved. ((j : ℕ) → j < i → block_at moved j ≡ due j) × (block_at moved i ≡ out)} Compare _ c.requires.op
    (moved_more Compare c.args.first i _ c.loop-i.invariant c.in-Ok.ensures (due_before due i out))
    (λ moved size are. compare_is c.requires.op size (omega arith, are.0, λ same. differs (sym are.1 ∙ same)))

pub returns : goal.returns
returns g c = all_moved Compare _ c.requires.op c.loop-i.invariant (λ moved size due. compare_is c.requires.op (omega arith) (λ i l. due i (omega arith)))
