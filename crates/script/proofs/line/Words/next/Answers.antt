use Rattle.std.proofs.Common.{sym, ap, ◌∙◌, Some}
use Rattle.script.proofs.WordLaws.{next_cut, next_all}
use Rattle.script.proofs.line.Words.next.Goals as goal

pub returns-in-Some : goal.returns-in-Some
returns-in-Some c = rw (← c.self.view_is) (next_cut c.self.inside.some c.self.inside.text.now c.in-Some.word.now c.in-Some.rest.now c.if-not-self.false c.in-Some.ensures ∙ ap (λ ws. Some (c.in-Some.word.now, ws)) (sym c.new.ensures))

pub returns-in-None : goal.returns-in-None
returns-in-None c = rw (← c.self.view_is) (next_all c.self.inside.some c.self.inside.text.now c.if-not-self.false c.in-None.ensures)
