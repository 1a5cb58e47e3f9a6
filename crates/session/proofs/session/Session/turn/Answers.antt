use Rattle.std.proofs.Common.{List, sym, subst}
use Rattle.mig_base.specs.Stream.{Writes}
use Rattle.nvm_model.specs.declared.line.Line.{Line}
use Rattle.nvm_model.specs.Text.{text_of}
use Rattle.session.specs.declared.session.Next.TheVariants.{Turn}
use Rattle.session.specs.Sides.{IsNext, IsRunning, SessionState}
use Rattle.session.proofs.StageLemmas.{goes_turn}
use Rattle.session.proofs.session.Session.turn.Goals as goal

pub returns-clause-went : goal.returns-clause-went
returns-clause-went g c = rw (← c.self.view_is) λ other.
    let running = subst (λ (s : SessionState). IsRunning s c.args.at.now) (sym c.self.view_is) c.requires.running in
    let next = subst (λ (s : SessionState). IsNext s Turn) (sym c.self.view_is) c.requires.due in
    let out = g.K.Sink in
    let written = subst (λ (ls : List Line). Writes (text_of ls) (out.bytes c.args.out.now) (out.bytes c.write_lines.new.sink) (out.faults c.args.out.now) (out.faults c.write_lines.new.sink) c.write_lines.result) c.deref.ensures.value c.write_lines.ensures in
    goes_turn c.do_turn.new.runs.items c.do_turn.new.order c.do_turn.new.events.items running.phase running.ready next.0 next.1 c.do_turn.ensures.ready c.do_turn.ensures.turn written
