use Rattle.std.specs.Prelude.{List, [], ◌∷◌, Option, Some, None, ◌≡◌, ℕ}
use Rattle.nvm_model.specs.declared.line.Line.{Line}
use Rattle.nvm_model.specs.declared.line.Line.TheVariants as line
use Rattle.judge.specs.declared.stage.Stage.{Stage}
use Rattle.judge.specs.declared.stage.Stage.TheVariants.{Title, Ready, Before, Rounds, Restarted, Suspended, Paused, After, Over}

-- How far a whole transcript is read, and the line that may come there.

abbrev pub begun : Option ℕ → Stage
begun None = After
begun (Some turn) = Before

-- the events of a whole transcript stand before a migration, within it, and after it
abbrev pub on_event : Stage → Option Stage
on_event Before = Some Before
on_event Rounds = Some Rounds
on_event After = Some After
on_event Title = None
on_event Ready = None
on_event Restarted = None
on_event Suspended = None
on_event Paused = None
on_event Over = None

abbrev pub on_round : Stage → Option Stage
on_round Rounds = Some Rounds
on_round Restarted = Some Rounds
on_round _ = None

abbrev pub on_give_up : Stage → Option Stage
on_give_up Rounds = Some After
on_give_up Suspended = Some After
on_give_up _ = None

-- one line alone leads on from this stage
abbrev pub on_title : Stage → Option Stage
on_title Title = Some Ready
on_title _ = None

abbrev pub on_ready : Option ℕ → Stage → Option Stage
on_ready migrate Ready = Some (begun migrate)
on_ready migrate _ = None

abbrev pub on_migrate : Stage → Option Stage
on_migrate Before = Some Rounds
on_migrate _ = None

abbrev pub on_restart : Stage → Option Stage
on_restart Rounds = Some Restarted
on_restart _ = None

abbrev pub on_suspend : Stage → Option Stage
on_suspend Rounds = Some Suspended
on_suspend _ = None

abbrev pub on_pause : Stage → Option Stage
on_pause Suspended = Some Paused
on_pause _ = None

abbrev pub on_resume : Stage → Option Stage
on_resume Paused = Some After
on_resume _ = None

abbrev pub on_end : Stage → Option Stage
on_end After = Some Over
on_end _ = None

abbrev pub after_line : Option ℕ → Stage → Line → Option Stage
after_line migrate stage line.Title = on_title stage
after_line migrate stage line.Ready = on_ready migrate stage
after_line migrate stage (line.Act k n) = on_event stage
after_line migrate stage (line.Reap k cid status head phase) = on_event stage
after_line migrate stage (line.Fetch k cid status pieces) = on_event stage
after_line migrate stage (line.Piece k cid first count outcome digest) = on_event stage
after_line migrate stage (line.Post k cid status) = on_event stage
after_line migrate stage line.Migrate = on_migrate stage
after_line migrate stage line.Restart = on_restart stage
after_line migrate stage (line.Round owed pages) = on_round stage
after_line migrate stage line.Suspend = on_suspend stage
after_line migrate stage (line.Pause blocks pages) = on_pause stage
after_line migrate stage line.ResumeTo = on_resume stage
after_line migrate stage line.GiveUp = on_give_up stage
after_line migrate stage line.End = on_end stage

-- lines lead from a stage to another
abbrev pub Leads : Option ℕ → Stage → List Line → Stage → Type 0
Leads migrate stage [] last = last ≡ stage
Leads migrate stage (l ∷ lines) last = (next : Stage) × (after_line migrate stage l ≡ Some next) × Leads migrate next lines last
