use Rattle.std.proofs.Common.{◌≡◌, ℕ, IsTrue, List, [], ◌∷◌, ◌++◌, Option, Some, None, refl, sym, ap, subst, ◌∙◌, append_assoc}
use Rattle.std.proofs.lemmas.Bool.{false≢true}
use Rattle.nvm_model.specs.declared.line.Line.{Line}
use Rattle.nvm_model.specs.declared.line.Line.TheVariants as line
use Rattle.nvm_model.specs.declared.script.Script.{Script}
use Rattle.nvm_model.specs.History.{AreEvents, AreRounds, IsEnding, IsMigration, IsWhole, Migrates, is_event}
use Rattle.judge.specs.declared.stage.Stage.{Stage}
use Rattle.judge.specs.declared.stage.Stage.TheVariants.{Title, Ready, Before, Rounds, Restarted, Suspended, Paused, After, Over}
use Rattle.judge.specs.Stage.{Leads, after_line, begun, on_event}
use Rattle.judge.specs.Verdict.{BeginWhole}

-- The stages read whole transcripts, and nothing else.

some_is : {A : Type 0} (x y : A) → Some x ≡ Some y → x ≡ y
some_is x y e = cc

no_value : {A : Type 0} (x : A) → None ≡ Some x → ⊥
no_value x e = cc

-- Chains of stages.

pub leads_more : (m : Option ℕ) (a b c : Stage) (xs ys : List Line) → Leads m a xs b → Leads m b ys c → Leads m a (xs ++ ys) c
leads_more m a b c [] ys p q = subst (λ (s : Stage). Leads m s ys c) p q
leads_more m a b c (l ∷ xs) ys p q = (p.0, p.1, leads_more m p.0 b c xs ys p.2 q)

pub leads_split : (m : Option ℕ) (a c : Stage) (xs ys : List Line) → Leads m a (xs ++ ys) c → (b : Stage) × Leads m a xs b × Leads m b ys c
leads_split m a c [] ys p = (a, refl, p)
leads_split m a c (l ∷ xs) ys p = let rest = leads_split m p.0 c xs ys p.2 in (rest.0, (p.0, p.1, rest.1), rest.2)

pub leads_same : (m : Option ℕ) (a b c : Stage) (xs : List Line) → Leads m a xs b → Leads m a xs c → b ≡ c
leads_same m a b c [] p q = p ∙ sym q
leads_same m a b c (l ∷ xs) p q =
    let same : p.0 ≡ q.0 = some_is p.0 q.0 (sym p.1 ∙ q.1) in
    leads_same m q.0 b c xs (subst (λ (s : Stage). Leads m s xs b) same p.2) q.2

-- A whole transcript leads to its end.

event_leads : (m : Option ℕ) (stage : Stage) (l : Line) → IsTrue (is_event l) → after_line m stage l ≡ on_event stage
event_leads m stage (line.Act k n) e = refl
event_leads m stage (line.Reap k cid status head phase) e = refl
event_leads m stage (line.Fetch k cid status pieces) e = refl
event_leads m stage (line.Piece k cid first count outcome digest) e = refl
event_leads m stage (line.Post k cid status) e = refl
event_leads m stage _ e = absurd (false≢true e)

events_lead : (m : Option ℕ) (stage : Stage) (lines : List Line) → on_event stage ≡ Some stage → AreEvents lines → Leads m stage lines stage
events_lead m stage [] stays are = refl
events_lead m stage (l ∷ lines) stays are = (stage, event_leads m stage l are.0 ∙ stays, events_lead m stage lines stays are.1)

rounds_lead : (m : Option ℕ) (lines : List Line) → AreRounds lines → Leads m Rounds lines Rounds
rounds_lead m [] are = refl
rounds_lead m (line.Restart ∷ line.Round owed pages ∷ lines) are = (Restarted, refl, (Rounds, refl, rounds_lead m lines are.1))
rounds_lead m (line.Restart ∷ _) are = absurd are.0
rounds_lead m (line.Round owed pages ∷ lines) are = (Rounds, refl, rounds_lead m lines are)
rounds_lead m (l ∷ lines) are = (Rounds, event_leads m Rounds l are.0, rounds_lead m lines are.1)

ending_leads : (m : Option ℕ) (lines : List Line) → IsEnding lines → Leads m Rounds lines After
ending_leads m (line.GiveUp ∷ []) is = (After, refl, refl)
ending_leads m (line.Suspend ∷ line.GiveUp ∷ []) is = (Suspended, refl, (After, refl, refl))
ending_leads m (line.Suspend ∷ line.Pause blocks pages ∷ line.ResumeTo ∷ []) is = (Suspended, refl, (Paused, refl, (After, refl, refl)))
ending_leads m _ is = absurd is

migration_leads : (m : Option ℕ) (lines : List Line) → IsMigration m lines → Leads m (begun m) lines After
migration_leads None lines is = subst (λ (ls : List Line). Leads None After ls After) (sym is) refl
migration_leads (Some turn) lines is =
    let m : Option ℕ = Some turn in
    subst (λ (ls : List Line). Leads m Before ls After) (sym is.lines_are)
    (Rounds, refl, leads_more m Rounds Rounds After is.rounds is.ending (rounds_lead m is.rounds is.are_rounds) (ending_leads m is.ending is.is_ending))

begun_stays : (m : Option ℕ) → on_event (begun m) ≡ Some (begun m)
begun_stays None = refl
begun_stays (Some turn) = refl

pub whole_leads : (s : Script) (lines : List Line) → IsWhole s lines → Leads s.head.migrate Title lines Over
whole_leads s lines is =
    let m = s.head.migrate in
    let last : Leads m After (is.after ++ line.End ∷ []) Over =
    leads_more m After After Over is.after (line.End ∷ []) (events_lead m After is.after refl is.after_events) (Over, refl, refl) in
    let moved : Leads m (begun m) (is.migration ++ (is.after ++ line.End ∷ [])) Over =
    leads_more m (begun m) After Over is.migration (is.after ++ line.End ∷ []) (migration_leads m is.migration is.is_migration) last in
    let body : Leads m (begun m) (is.before ++ (is.migration ++ (is.after ++ line.End ∷ []))) Over =
    leads_more m (begun m) (begun m) Over is.before _ (events_lead m (begun m) is.before (begun_stays m) is.before_events) moved in
    subst (λ (ls : List Line). Leads m Title ls Over) (sym is.lines_are) (Ready, refl, (begun m, refl, body))

-- What leads to the end is a whole transcript.

-- the stage to which a line leads is the one that it computes to
goes_on : (m : Option ℕ) (x next : Stage) (lines : List Line) → Some x ≡ Some next → Leads m next lines Over → Leads m x lines Over
goes_on m x next lines is rest = subst (λ (s : Stage). Leads m s lines Over) (sym (some_is x next is)) rest

over_ends : (m : Option ℕ) (lines : List Line) → Leads m Over lines Over → lines ≡ []
over_ends m [] leads = refl
over_ends m (line.Act k n ∷ lines) leads = absurd (no_value leads.0 leads.1)
over_ends m (_ ∷ lines) leads = absurd (no_value leads.0 leads.1)

-- events, and the last line
record Ends (lines : List Line) : Type 0 where
  events : List Line
  are_events : AreEvents events
  lines_are : lines ≡ events ++ line.End ∷ []

ends_after : (l : Line) (lines : List Line) → IsTrue (is_event l) → Ends lines → Ends (l ∷ lines)
ends_after l lines is e = record { events = l ∷ e.events; are_events = (is, e.are_events); lines_are = ap (λ (ls : List Line). l ∷ ls) e.lines_are }

after_ends : (m : Option ℕ) (lines : List Line) → Leads m After lines Over → Ends lines
after_ends m [] leads = absurd cc
after_ends m (line.End ∷ lines) leads =
    let none : lines ≡ [] = over_ends m lines (goes_on m Over leads.0 lines leads.1 leads.2) in
    record { events = []; are_events = tt; lines_are = ap (λ (ls : List Line). line.End ∷ ls) none }
after_ends m (line.Act k n ∷ lines) leads = ends_after (line.Act k n) lines refl (after_ends m lines (goes_on m After leads.0 lines leads.1 leads.2))
after_ends m (line.Reap k cid status head phase ∷ lines) leads = ends_after (line.Reap k cid status head phase) lines refl (after_ends m lines (goes_on m After leads.0 lines leads.1 leads.2))
after_ends m (line.Fetch k cid status pieces ∷ lines) leads = ends_after (line.Fetch k cid status pieces) lines refl (after_ends m lines (goes_on m After leads.0 lines leads.1 leads.2))
after_ends m (line.Piece k cid first count outcome digest ∷ lines) leads = ends_after (line.Piece k cid first count outcome digest) lines refl (after_ends m lines (goes_on m After leads.0 lines leads.1 leads.2))
after_ends m (line.Post k cid status ∷ lines) leads = ends_after (line.Post k cid status) lines refl (after_ends m lines (goes_on m After leads.0 lines leads.1 leads.2))
after_ends m (_ ∷ lines) leads = absurd (no_value leads.0 leads.1)

-- the rounds and the ending of a migration, and what comes behind it
record Moves (m : Option ℕ) (lines : List Line) : Type 0 where
  rounds : List Line
  ending : List Line
  rest : List Line
  are_rounds : AreRounds rounds
  is_ending : IsEnding ending
  lines_are : lines ≡ rounds ++ (ending ++ rest)
  leads : Leads m After rest Over

gave_up : (m : Option ℕ) (rest : List Line) → Leads m After rest Over → Moves m (line.GiveUp ∷ rest)
gave_up m rest leads = record { rounds = []; ending = line.GiveUp ∷ []; rest = rest; are_rounds = tt; is_ending = tt; lines_are = refl; leads = leads }

suspended : (m : Option ℕ) (lines : List Line) → Leads m Suspended lines Over → Moves m (line.Suspend ∷ lines)
suspended m [] leads = absurd cc
suspended m (line.GiveUp ∷ rest) leads =
    record { rounds = []; ending = line.Suspend ∷ line.GiveUp ∷ []; rest = rest; are_rounds = tt; is_ending = tt; lines_are = refl; leads = goes_on m After leads.0 rest leads.1 leads.2 }
suspended m (line.Pause blocks pages ∷ lines) leads = paused lines (goes_on m Paused leads.0 lines leads.1 leads.2)
  where
    paused : (lines : List Line) → Leads m Paused lines Over → Moves m (line.Suspend ∷ line.Pause blocks pages ∷ lines)
    paused [] leads = absurd cc
    paused (line.ResumeTo ∷ rest) leads = record {
      rounds = [];
      ending = line.Suspend ∷ line.Pause blocks pages ∷ line.ResumeTo ∷ [];
      rest = rest;
      are_rounds = tt;
      is_ending = tt;
      lines_are = refl;
      leads = goes_on m After leads.0 rest leads.1 leads.2;
    }
    paused (_ ∷ rest) leads = absurd (no_value leads.0 leads.1)
suspended m (_ ∷ rest) leads = absurd (no_value leads.0 leads.1)

moves_after : (m : Option ℕ) (front lines : List Line) → ((rounds : List Line) → AreRounds rounds → AreRounds (front ++ rounds)) → Moves m lines → Moves m (front ++ lines)
moves_after m front lines are r = record {
  rounds = front ++ r.rounds;
  ending = r.ending;
  rest = r.rest;
  are_rounds = are r.rounds r.are_rounds;
  is_ending = r.is_ending;
  lines_are = ap (λ (ls : List Line). front ++ ls) r.lines_are ∙ sym (append_assoc front r.rounds (r.ending ++ r.rest));
  leads = r.leads;
}

rounds_move : (m : Option ℕ) (lines : List Line) → Leads m Rounds lines Over → Moves m lines
rounds_move m [] leads = absurd cc
rounds_move m (line.Act k n ∷ lines) leads = moves_after m (line.Act k n ∷ []) lines (λ r are. (refl, are)) (rounds_move m lines (goes_on m Rounds leads.0 lines leads.1 leads.2))
rounds_move m (line.Reap k cid status head phase ∷ lines) leads = moves_after m (line.Reap k cid status head phase ∷ []) lines (λ r are. (refl, are)) (rounds_move m lines (goes_on m Rounds leads.0 lines leads.1 leads.2))
rounds_move m (line.Fetch k cid status pieces ∷ lines) leads = moves_after m (line.Fetch k cid status pieces ∷ []) lines (λ r are. (refl, are)) (rounds_move m lines (goes_on m Rounds leads.0 lines leads.1 leads.2))
rounds_move m (line.Piece k cid first count outcome digest ∷ lines) leads =
    moves_after m (line.Piece k cid first count outcome digest ∷ []) lines (λ r are. (refl, are)) (rounds_move m lines (goes_on m Rounds leads.0 lines leads.1 leads.2))
rounds_move m (line.Post k cid status ∷ lines) leads = moves_after m (line.Post k cid status ∷ []) lines (λ r are. (refl, are)) (rounds_move m lines (goes_on m Rounds leads.0 lines leads.1 leads.2))
rounds_move m (line.Round owed pages ∷ lines) leads = moves_after m (line.Round owed pages ∷ []) lines (λ r are. are) (rounds_move m lines (goes_on m Rounds leads.0 lines leads.1 leads.2))
rounds_move m (line.Suspend ∷ lines) leads = suspended m lines (goes_on m Suspended leads.0 lines leads.1 leads.2)
rounds_move m (line.GiveUp ∷ lines) leads = gave_up m lines (goes_on m After leads.0 lines leads.1 leads.2)
rounds_move m (line.Restart ∷ []) leads = absurd (let e : Over ≡ leads.0 = leads.2 in let f : Restarted ≡ leads.0 = some_is Restarted leads.0 leads.1 in let both : Over ≡ Restarted = e ∙ sym f in cc)
rounds_move m (line.Restart ∷ line.Round owed pages ∷ lines) leads =
    let next = goes_on m Restarted leads.0 (line.Round owed pages ∷ lines) leads.1 leads.2 in
    moves_after m (line.Restart ∷ line.Round owed pages ∷ []) lines (λ r are. (tt, are)) (rounds_move m lines (goes_on m Rounds next.0 lines next.1 next.2))
rounds_move m (line.Restart ∷ l ∷ lines) leads = let next = goes_on m Restarted leads.0 (l ∷ lines) leads.1 leads.2 in absurd (no_value next.0 next.1)
rounds_move m (_ ∷ lines) leads = absurd (no_value leads.0 leads.1)

-- events, a migration, and what comes behind it
record Begins (m : Option ℕ) (lines : List Line) : Type 0 where
  before : List Line
  migration : List Line
  rest : List Line
  are_events : AreEvents before
  is_migration : Migrates migration
  lines_are : lines ≡ before ++ (migration ++ rest)
  leads : Leads m After rest Over

begins_after : (m : Option ℕ) (l : Line) (lines : List Line) → IsTrue (is_event l) → Begins m lines → Begins m (l ∷ lines)
begins_after m l lines is r = record {
  before = l ∷ r.before;
  migration = r.migration;
  rest = r.rest;
  are_events = (is, r.are_events);
  is_migration = r.is_migration;
  lines_are = ap (λ (ls : List Line). l ∷ ls) r.lines_are;
  leads = r.leads;
}

migrated : (m : Option ℕ) (lines : List Line) → Moves m lines → Begins m (line.Migrate ∷ lines)
migrated m lines r = record {
  before = [];
  migration = line.Migrate ∷ r.rounds ++ r.ending;
  rest = r.rest;
  are_events = tt;
  is_migration = record { rounds = r.rounds; ending = r.ending; lines_are = refl; are_rounds = r.are_rounds; is_ending = r.is_ending };
  lines_are = ap (λ (ls : List Line). line.Migrate ∷ ls) (r.lines_are ∙ sym (append_assoc r.rounds r.ending r.rest));
  leads = r.leads;
}

before_begins : (m : Option ℕ) (lines : List Line) → Leads m Before lines Over → Begins m lines
before_begins m [] leads = absurd cc
before_begins m (line.Act k n ∷ lines) leads = begins_after m (line.Act k n) lines refl (before_begins m lines (goes_on m Before leads.0 lines leads.1 leads.2))
before_begins m (line.Reap k cid status head phase ∷ lines) leads = begins_after m (line.Reap k cid status head phase) lines refl (before_begins m lines (goes_on m Before leads.0 lines leads.1 leads.2))
before_begins m (line.Fetch k cid status pieces ∷ lines) leads = begins_after m (line.Fetch k cid status pieces) lines refl (before_begins m lines (goes_on m Before leads.0 lines leads.1 leads.2))
before_begins m (line.Piece k cid first count outcome digest ∷ lines) leads = begins_after m (line.Piece k cid first count outcome digest) lines refl (before_begins m lines (goes_on m Before leads.0 lines leads.1 leads.2))
before_begins m (line.Post k cid status ∷ lines) leads = begins_after m (line.Post k cid status) lines refl (before_begins m lines (goes_on m Before leads.0 lines leads.1 leads.2))
before_begins m (line.Migrate ∷ lines) leads = migrated m lines (rounds_move m lines (goes_on m Rounds leads.0 lines leads.1 leads.2))
before_begins m (_ ∷ lines) leads = absurd (no_value leads.0 leads.1)

-- what stands between the second line and the end
record Body (m : Option ℕ) (lines : List Line) : Type 0 where
  before : List Line
  migration : List Line
  after : List Line
  lines_are : lines ≡ before ++ (migration ++ (after ++ line.End ∷ []))
  before_events : AreEvents before
  is_migration : IsMigration m migration
  after_events : AreEvents after

body_is : (m : Option ℕ) (lines : List Line) → Leads m (begun m) lines Over → Body m lines
body_is None lines leads =
    let e = after_ends None lines leads in
    record { before = []; migration = []; after = e.events; lines_are = e.lines_are; before_events = tt; is_migration = refl; after_events = e.are_events }
body_is (Some turn) lines leads =
    let b = before_begins (Some turn) lines leads in
    let e = after_ends (Some turn) b.rest b.leads in
    record {
      before = b.before;
      migration = b.migration;
      after = e.events;
      lines_are = b.lines_are ∙ ap (λ (ls : List Line). b.before ++ (b.migration ++ ls)) e.lines_are;
      before_events = b.are_events;
      is_migration = b.is_migration;
      after_events = e.are_events;
    }

titled : (m : Option ℕ) (lines : List Line) → Leads m Title lines Over → (rest : List Line) × (lines ≡ line.Title ∷ rest) × Leads m Ready rest Over
titled m [] leads = absurd cc
titled m (line.Title ∷ rest) leads = (rest, refl, goes_on m Ready leads.0 rest leads.1 leads.2)
titled m (_ ∷ rest) leads = absurd (no_value leads.0 leads.1)

readied : (m : Option ℕ) (lines : List Line) → Leads m Ready lines Over → (rest : List Line) × (lines ≡ line.Ready ∷ rest) × Leads m (begun m) rest Over
readied m [] leads = absurd cc
readied m (line.Ready ∷ rest) leads = (rest, refl, goes_on m (begun m) leads.0 rest leads.1 leads.2)
readied m (_ ∷ rest) leads = absurd (no_value leads.0 leads.1)

pub leads_whole : (s : Script) (lines : List Line) → Leads s.head.migrate Title lines Over → IsWhole s lines
leads_whole s lines leads =
    let m = s.head.migrate in
    let t = titled m lines leads in
    let r = readied m t.0 t.2 in
    let b = body_is m r.0 r.2 in
    record {
      before = b.before;
      migration = b.migration;
      after = b.after;
      lines_are = t.1 ∙ ap (λ (ls : List Line). line.Title ∷ ls) (r.1 ∙ ap (λ (ls : List Line). line.Ready ∷ ls) b.lines_are);
      before_events = b.before_events;
      is_migration = b.is_migration;
      after_events = b.after_events;
    }

-- Each stage can come to its end.

pub can_end : (m : Option ℕ) (stage : Stage) → (rest : List Line) × Leads m stage rest Over
can_end m Over = ([], refl)
can_end m After = (line.End ∷ [], (Over, refl, refl))
can_end m Paused = (line.ResumeTo ∷ line.End ∷ [], (After, refl, (Over, refl, refl)))
can_end m Suspended = (line.GiveUp ∷ line.End ∷ [], (After, refl, (Over, refl, refl)))
can_end m Rounds = (line.GiveUp ∷ line.End ∷ [], (After, refl, (Over, refl, refl)))
can_end m Restarted = (line.Round 0 0 ∷ line.GiveUp ∷ line.End ∷ [], (Rounds, refl, (After, refl, (Over, refl, refl))))
can_end m Before = (line.Migrate ∷ line.GiveUp ∷ line.End ∷ [], (Rounds, refl, (After, refl, (Over, refl, refl))))
can_end None Ready = (line.Ready ∷ line.End ∷ [], (After, refl, (Over, refl, refl)))
can_end (Some turn) Ready = (line.Ready ∷ line.Migrate ∷ line.GiveUp ∷ line.End ∷ [], (Before, refl, (Rounds, refl, (After, refl, (Over, refl, refl)))))
can_end None Title = (line.Title ∷ line.Ready ∷ line.End ∷ [], (Ready, refl, (After, refl, (Over, refl, refl))))
can_end (Some turn) Title = (line.Title ∷ line.Ready ∷ line.Migrate ∷ line.GiveUp ∷ line.End ∷ [], (Ready, refl, (Before, refl, (Rounds, refl, (After, refl, (Over, refl, refl))))))

-- So lines that lead to a stage begin a whole transcript, and no others do.

pub leads_begin : (s : Script) (lines : List Line) (stage : Stage) → Leads s.head.migrate Title lines stage → BeginWhole s lines
leads_begin s lines stage leads =
    let m = s.head.migrate in
    let e = can_end m stage in
    (e.0, leads_whole s (lines ++ e.0) (leads_more m Title stage Over lines e.0 leads e.1))

pub begin_leads : (s : Script) (lines : List Line) → BeginWhole s lines → (stage : Stage) × Leads s.head.migrate Title lines stage
begin_leads s lines begin =
    let p = leads_split s.head.migrate Title Over lines begin.0 (whole_leads s (lines ++ begin.0) begin.1) in
    (p.0, p.1)

-- a whole transcript can't go on
pub whole_ends : (s : Script) (lines rest : List Line) → IsWhole s lines → IsWhole s (lines ++ rest) → rest ≡ []
whole_ends s lines rest is more =
    let m = s.head.migrate in
    let p = leads_split m Title Over lines rest (whole_leads s (lines ++ rest) more) in
    let over : p.0 ≡ Over = leads_same m Title p.0 Over lines p.1 (whole_leads s lines is) in
    over_ends m rest (subst (λ (st : Stage). Leads m st rest Over) over p.2)
