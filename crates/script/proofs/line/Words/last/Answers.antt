use Rattle.script.proofs.WordLaws.{last_cut, last_all}
use Rattle.script.proofs.line.Words.last.Goals as goal

pub returns-in-None : goal.returns-in-None
returns-in-None c = rw (← c.self.view_is) (last_all c.self.inside.some c.self.inside.text.now c.if-not-self.false c.in-None.ensures)

pub returns-in-Some : goal.returns-in-Some
returns-in-Some c = rw (← c.self.view_is) (last_cut c.self.inside.some c.self.inside.text.now _ c.in-Some.ensures)
