use Rattle.std.proofs.Common.{◌≡◌, ◌*◌, ◌≤◌, ℕ, ap, sym, ◌∙◌, arith}
use Rattle.engine.proofs.WordLemmas.{sizes_one, shelves_are}
use Rattle.engine.proofs.words.sizes.Goals as goal
use Rattle.engine.proofs.words.sizes.Goals.{then-blocks-eq0-via-then-blocks-eq0, then-blocks-eq0-via-else-blocks-eq0+then-blocks-gt131072, then-blocks-eq0-via-else-blocks-eq0+else-blocks-gt131072+then-shelf-eq0, then-blocks-eq0-via-else-blocks-eq0+else-blocks-gt131072+else-shelf-eq0+then-shelf-gt65536, then-shelves-gt64-via-then-shelves-gt64, then-shelves-gt64-via-else-shelves-gt64+then-shelves-shelf}

pub returns-then-blocks-eq0-clause-none : goal.returns-then-blocks-eq0-clause-none
returns-then-blocks-eq0-clause-none c = λ b s sizes.
    let blocks = c.in_ok-blocks.blocks in
    let shelf = c.in_ok-shelf.shelf in
    let same = sizes_one c.args.blocks.now c.args.shelf.now blocks shelf b s (omega arith) (omega arith) c.in_ok-blocks.ensures.spelled c.in_ok-shelf.ensures.spelled sizes in
    let b_is = same.0 in
    let s_is = same.1 in
    let b_fits = sizes.blocks_fit in
    let s_fits = sizes.shelf_fits in
    elim c.then-blocks-eq0.branch [
      | then-blocks-eq0-via-then-blocks-eq0 w ↦ omega arith
      | then-blocks-eq0-via-else-blocks-eq0+then-blocks-gt131072 w ↦ omega arith
      | then-blocks-eq0-via-else-blocks-eq0+else-blocks-gt131072+then-shelf-eq0 w ↦ omega arith
      | then-blocks-eq0-via-else-blocks-eq0+else-blocks-gt131072+else-shelf-eq0+then-shelf-gt65536 w ↦ omega arith
    ]

pub returns-then-shelves-gt64-clause-none : goal.returns-then-shelves-gt64-clause-none
returns-then-shelves-gt64-clause-none c = λ b s sizes.
    let blocks = c.in_ok-blocks.blocks in
    let shelf = c.in_ok-shelf.shelf in
    let same = sizes_one c.args.blocks.now c.args.shelf.now blocks shelf b s (omega arith) (omega arith) c.in_ok-blocks.ensures.spelled c.in_ok-shelf.ensures.spelled sizes in
    let n = sizes.shelves.0 in
    let whole : blocks ≡ n * shelf = sym same.0 ∙ sizes.shelves.2 ∙ ap (λ (x : ℕ). n * x) same.1 in
    let some : 1 ≤ shelf = omega (arith, same.1, sizes.shelf_fits.0) in
    let shelves = shelves_are blocks shelf n some whole in
    let few = sizes.shelves.1 in
    elim c.then-shelves-gt64.branch [
      | then-shelves-gt64-via-then-shelves-gt64 w ↦ omega arith
      | then-shelves-gt64-via-else-shelves-gt64+then-shelves-shelf w ↦ w.if-shelves-shelf.true (ap (λ (x : ℕ). x * shelf) shelves ∙ sym whole)
    ]
