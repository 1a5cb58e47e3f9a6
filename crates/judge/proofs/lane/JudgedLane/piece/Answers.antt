use Rattle.std.proofs.Common.{◌≡◌, ◌+◌, ◌-◌, ◌<◌, ◌∙◌, IfSome, ℕ, List, drop, get_or, length, set, sym, ap, subst, arith}
use Rattle.std.proofs.Math.Nat.{div-le_self}
use Rattle.std.proofs.lemmas.List.{length-drop, length-set}
use Rattle.std.proofs.lemmas.Option.{get_or_from_slice_get, slice_get_within}
use Rattle.std.proofs.lemmas.Bool.{false≢true}
use Rattle.nvm_model.specs.declared.command.Command.{Command}
use Rattle.nvm_model.specs.declared.piece.Piece.{Piece}
use Rattle.nvm_model.specs.declared.command.Outcome.{Outcome}
use Rattle.nvm_model.specs.Check.{identifiers}
use Rattle.nvm_model.specs.Piece.{after_piece, piece_at}
use Rattle.mig_base.specs.declared.span.Span.{Span}
use Rattle.nvm_model.specs.World.{Lane}
use Rattle.guest_ram.specs.Window.{data_pages}
use Rattle.nvm_cmd.specs.Answer.{job_of}
use Rattle.nvm_cmd.specs.Cut.{piece_of}
use Rattle.judge.specs.Lane.{AreDoable, IsDoable, IsNamed, model_of}
use Rattle.judge.specs.Piece.{EndsSo}
use Rattle.judge.proofs.LaneLemmas.{doable_after, doable_set, piece_done, piece_not_named, piece_not_so, same_cids, work_left, worked_lane}
use Rattle.judge.proofs.lane.JudgedLane.piece.Goals as goal

pub returns-then-not-names-clause-step : goal.returns-then-not-names-clause-step
returns-then-not-names-clause-step c = λ s of.
    let found = c.in-Some.found in
    let told = c.args.told.now in
    let spans : c.next_piece-piece.result.span ≡ piece_at c.args.self.now.shelf found.work.span found.work.done = ap (λ (p : Piece). p.span) c.next_piece-piece.ensures.value in
    piece_not_named of c.in-Some.ensures.found (λ named. false≢true (sym c.if-not-names.true ∙ c.names.ensures.1 (subst (λ (span : Span). IsNamed told.cid told.first told.count found.command.cid span) (sym spans) named)))

pub returns-in_default-replay-clause-step : goal.returns-in_default-replay-clause-step
returns-in_default-replay-clause-step c = λ s of.
    let told = c.args.told.now in
    let j = c.args.self.now in
    piece_not_so of c.in-Some.ensures.found (λ y ends. c.in_default-replay.ensures.ends y (subst (λ (p : Piece). EndsSo p told.outcome told.digest c.args.namespace.now.blocks (model_of j).pages y.0 y.1) (sym c.next_piece-piece.ensures.value) ends))

pub returns-clause-step : goal.returns-clause-step
returns-clause-step c = λ s of.
    let j = c.args.self.now in
    let found = c.in-Some.found in
    let told = c.args.told.now in
    let piece = c.next_piece-piece in
    let memory = data_pages c.replay.new.window in
    let spans : piece.result.span ≡ piece_at j.shelf found.work.span found.work.done = ap (λ (p : Piece). p.span) piece.ensures.value in
    let named : IsNamed told.cid told.first told.count found.command.cid (piece_at j.shelf found.work.span found.work.done) =
    subst (λ (span : Span). IsNamed told.cid told.first told.count found.command.cid span) spans (c.names.ensures.0 c.if-not-names.false) in
    let ends : EndsSo (piece_of j.lane j.shelf found.work.done (job_of found.command.cid found.work)) told.outcome told.digest c.args.namespace.now.blocks (model_of j).pages c.replay.new.namespace.blocks memory =
    subst (λ (p : Piece). EndsSo p told.outcome told.digest c.args.namespace.now.blocks (model_of j).pages c.replay.new.namespace.blocks memory) piece.ensures.value c.in-Some-replay.ensures.ends in
    let command = c.after_piece.result in
    let after : command ≡ after_piece found.command found.work told.outcome = c.after_piece.ensures ∙ ap (λ (o : Outcome). after_piece found.command found.work o) c.in-Some-replay.ensures.outcome in
    let p = length j.posted.items in
    let place : c.len.result + found.place ≡ p + found.place = ap (λ (n : ℕ). n + found.place) (c.len.ensures ∙ j.posted.ok.0) in
    let lane_at : ℕ → Lane = λ i. record (model_of j) { pages = memory; fetched = length (set j.commands.items i command); running = drop p (set j.commands.items i command) } in
    piece_done of c.in-Some.ensures.found named ends
    (ap lane_at place ∙ (worked_lane j memory found.place command ∙ ap (λ (x : Command). record (model_of j) { pages = memory; running = set (model_of j).running found.place x }) after))

pub after_piece-requires : goal.after_piece-requires
after_piece-requires c =
    let j = c.args.self.now in
    let work = c.in-Some.found.work in
    let at = c.in-Some.ensures.found in
    let left = work_left j.shelf c.in-Some.found.command work at.work_is at.left in
    omega (arith, left, div-le_self (work.span.first + work.span.count - 1) j.shelf, c.in-Some.ensures.doable.within, c.requires.sound.set_up.few)

pub returns-clause-sound : goal.returns-clause-sound
returns-clause-sound c =
    let j = c.args.self.now in
    let sound = c.requires.sound in
    let up = sound.set_up in
    let n = sound.counted in
    let window = c.replay.ensures.window in
    let found = c.in-Some.found in
    let at = c.in-Some.ensures.found in
    let command = c.after_piece.result in
    let p = length j.posted.items in
    let running = (model_of j).running in
    let place : c.len.result + found.place ≡ p + found.place = ap (λ (i : ℕ). i + found.place) (c.len.ensures ∙ j.posted.ok.0) in
    let there : found.place < length running = slice_get_within running found.place found.command at.at_place in
    let is : found.command ≡ get_or running found.place found.command = sym (get_or_from_slice_get running found.place found.command found.command at.at_place) in
    let low : p + found.place < length j.commands.items = omega (arith, there, length-drop p j.commands.items) in
    let commands : set j.commands.items (c.len.result + found.place) command ≡ set j.commands.items (p + found.place) command = ap (λ (i : ℕ). set j.commands.items i command) place in
    let count : length (set j.commands.items (c.len.result + found.place) command) ≡ length j.commands.items = length-set j.commands.items (c.len.result + found.place) command in
    let doable : IfSome command.work (IsDoable j.blocks j.set.pages) =
    subst (λ (x : Command). IfSome x.work (IsDoable j.blocks j.set.pages)) (sym c.after_piece.ensures) (doable_after j.blocks j.set.pages found.command found.work c.in-Some-replay.result.outcome c.in-Some.ensures.doable) in
    record {
      set_up = record { lane_is = window.lane ∙ up.lane_is; pages_are = window.count ∙ up.pages_are; is_set = up.is_set; are_acts = up.are_acts; large = up.large; few = up.few };
      counted = record { few = n.few; done_is = n.done_is; submitted_is = n.submitted_is; fetched_is = omega (arith, count, n.fetched_is); posted_is = omega (arith, count, n.posted_is); reaped_is = n.reaped_is };
      room = record { entries = sound.room.entries; commands = sound.room.commands; cids = sound.room.cids; completions = sound.room.completions };
      doable = subst (λ (cs : List Command). AreDoable j.blocks j.set.pages cs) (sym commands) (doable_set j.blocks j.set.pages j.commands.items (p + found.place) command low sound.doable doable);
      cids = sound.cids ∙ sym (ap identifiers commands ∙ same_cids j found.place found.command command is (ap (λ (x : Command). x.cid) c.after_piece.ensures));
    }
