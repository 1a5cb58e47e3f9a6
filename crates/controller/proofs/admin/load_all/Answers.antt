use Rattle.std.proofs.Common.{rules, ◌≡◌, ◌<◌, ◌∙◌, ℕ, List, [], add-one, ap, arith, get_or-take, length, slice_index_or, slice_set, sym, take}
use Rattle.std.proofs.lemmas.List.{length-take-le}
use Rattle.std.proofs.lemmas.List.Elements.{All-set}
use Rattle.ctl_state.specs.declared.image.PairState.{PairState as PairImage}
use Rattle.ctl_state.specs.Image.{none, pairs_of}
use Rattle.ctl_state.specs.Admin.{with_images, with_rings}
use Rattle.ctl_state.specs.Controller.{PairState}
use Rattle.controller.proofs.AdminLemmas.{load_step}
use Rattle.controller.proofs.admin.load_all.Goals as goal

pub pairs-preserved : goal.pairs-preserved
pairs-preserved c =
    let place : ℕ = c.pairs.place in
    let images : List PairImage = pairs_of c.args.image.now in
    let pairs : List PairState = c.args.pairs.now.items in
    let there : place < length pairs = search rules in
    let d : PairState = c.index_mut.result.now in
    let used = c.requires.image.used in
    let few = c.requires.image.few in
    let room = c.requires.image.room in
    let count : length images ≡ c.args.image.now.used = length-take-le c.args.image.now.used c.args.image.now.pairs (omega arith) in
    let image : slice_index_or c.args.image.now.pairs place none ≡ slice_index_or images place none = sym (get_or-take c.args.image.now.used c.args.image.now.pairs place none (omega arith)) in
    let pair : d ≡ slice_index_or (with_images (take place images) pairs) place d = c.index_mut.ensures.value ∙ ap (λ (ps : List PairState). slice_index_or ps place d) c.pairs.invariant.loaded in
    let new : c.load.new.self ≡ with_rings (slice_index_or images place none) (slice_index_or (with_images (take place images) pairs) place d) = c.load.ensures ∙ (λ k. with_rings (image k) (pair k)) in
    let between : c.load.new.self.commands ≡ [] = search rules in
    record {
      loaded = (λ k. slice_set (c.pairs.invariant.loaded k) place (new k)) ∙ load_step images pairs place none d (omega (arith, count)) there ∙ ap (λ n. with_images (take n images) pairs) (sym (add-one place));
      count = search rules;
      between = All-set (λ (p : PairState). p.commands ≡ []) c.pairs.pairs.items place c.load.new.self between c.pairs.invariant.between;
    }
