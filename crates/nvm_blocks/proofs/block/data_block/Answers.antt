use Rattle.std.proofs.Common.{◌≡◌, ◌∙◌, ◌+◌, ◌-◌, ap, arith, rules, take, drop}
use Rattle.nvm_model.specs.Memory.{page_at}
use Rattle.nvm_model.specs.Piece.{data_block, page_of, place_of}
use Rattle.guest_ram.specs.Window.{data_pages}
use Rattle.nvm_blocks.proofs.block.data_block.Goals as goal

pub returns-clause-value : goal.returns-clause-value
unfolding data_block
returns-clause-value c =
    let i = c.args.piece.now.at + c.args.i in
    let place = c.from-place.result in
    let bytes : place + 512 - place ≡ 512 = omega arith in
    let place_is : place ≡ place_of i = search rules in
    let number : c.page_number.result - 2 ≡ page_of c.args.piece.now.pages i = omega (arith, c.page_number.ensures) in
    ap (λ n. take n (drop place c.page-page.result.now)) bytes
    ∙ ap (λ k. take 512 (drop k c.page-page.result.now)) place_is
    ∙ ap (λ page. take 512 (drop (place_of i) page)) (c.page-page.ensures.data (omega arith) ∙ ap (page_at (data_pages c.args.window.now)) number)
