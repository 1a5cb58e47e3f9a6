use Rattle.std.proofs.Common.{◌∙◌, sym}
use Rattle.judge.specs.World.{world_of}
use Rattle.judge.proofs.VerdictLemmas.{event_decided}
use Rattle.judge.proofs.judging.take_line.Goals as goal

pub returns-clause-step : goal.returns-clause-step
returns-clause-step c = λ s of. event_decided s (world_of c.args.world.now) c.args.line.now (world_of c.step.new.self) c.step.result (sym c.is_event.ensures ∙ c.if-not-is_event.false) (c.step.ensures.step s of)
